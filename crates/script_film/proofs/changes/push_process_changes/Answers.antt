use Rattle.std.proofs.Common.{arith}
use Rattle.std.specs.Option.{option_map}
use Rattle.script_film.specs.Changes.{process_change, process_changes}
use Rattle.script_film.proofs.RangeLemmas.{text_more, text_whole}
use Rattle.script_film.proofs.changes.push_process_changes.Goals as goal

pub loop-number-preserved : goal.loop-number-preserved
loop-number-preserved c = text_more (process_change (option_map (λ i. i.now) c.args.before) c.args.after.now) _ _ _ _ c.loop-number.invariant c.in_ok-push_process_change.ensures

pub returns : goal.returns
unfolding process_changes
returns c = text_whole (process_change (option_map (λ i. i.now) c.args.before) c.args.after.now) _ _ _ (64) c.loop-number.invariant (omega arith)
