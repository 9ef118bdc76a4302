use Rattle.std.proofs.Common.{arith}
use Rattle.std.specs.Option.{option_map}
use Rattle.memory_image.specs.Image.{frames}
use Rattle.script_film.specs.Changes.{frame_changes, word_changes}
use Rattle.script_film.proofs.RangeLemmas.{text_more, text_whole}
use Rattle.script_film.proofs.changes.push_word_changes.Goals as goal

pub loop-frame-preserved : goal.loop-frame-preserved
loop-frame-preserved c = text_more (frame_changes (option_map (λ i. i.now) c.args.before) c.args.after.now) _ _ _ _ c.loop-frame.invariant c.in_ok-push_frame_changes.ensures

pub returns : goal.returns
unfolding word_changes
returns c = text_whole (frame_changes (option_map (λ i. i.now) c.args.before) c.args.after.now) _ _ _ (frames c.args.after.now) c.loop-frame.invariant (omega arith)
