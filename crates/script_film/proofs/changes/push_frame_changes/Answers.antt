use Rattle.std.proofs.Common.{arith}
use Rattle.std.specs.Option.{option_map}
use Rattle.script_film.specs.Changes.{word_change}
use Rattle.script_film.proofs.RangeLemmas.{text_more, text_whole}
use Rattle.script_film.proofs.changes.push_frame_changes.Goals as goal

pub loop-index-preserved : goal.loop-index-preserved
loop-index-preserved c = text_more (word_change (option_map (λ i. i.now) c.args.before) c.args.after.now c.args.frame) _ _ _ _ c.loop-index.invariant c.in_ok-push_word_change.ensures

pub returns : goal.returns
returns c = text_whole (word_change (option_map (λ i. i.now) c.args.before) c.args.after.now c.args.frame) _ _ _ (1024) c.loop-index.invariant (omega arith)
