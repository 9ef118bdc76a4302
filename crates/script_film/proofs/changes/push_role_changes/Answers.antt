use Rattle.std.proofs.Common.{arith}
use Rattle.std.specs.Option.{option_map}
use Rattle.memory_image.specs.Image.{frames}
use Rattle.script_film.specs.Changes.{role_change, role_changes}
use Rattle.script_film.proofs.RangeLemmas.{text_more, text_whole}
use Rattle.script_film.proofs.changes.push_role_changes.Goals as goal

pub loop-frame-preserved : goal.loop-frame-preserved
loop-frame-preserved c = text_more (role_change (option_map (λ i. i.now) c.args.before) c.args.after.now) _ _ _ _ c.loop-frame.invariant c.in_ok-push_role_change.ensures

pub returns : goal.returns
unfolding role_changes
returns c = text_whole (role_change (option_map (λ i. i.now) c.args.before) c.args.after.now) _ _ _ (frames c.args.after.now) c.loop-frame.invariant (omega arith)
