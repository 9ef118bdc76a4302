-- What is not written yet are the records of the frames from the next one on.
use Rattle.std.proofs.Common.{◌*◌, drop}
use Rattle.text_output.specs.Output.{LeavesUnwritten}
use Rattle.wide_image.specs.Layout.{frames_text}
use Rattle.wide_image.proofs.writing.write_frames.Given as goal

abbrev pub invariant-loop-place : goal.invariant-loop-place
invariant-loop-place g l = LeavesUnwritten (g.W.Write.contents l.fn.writer) (g.W.Write.contents l.writer) (frames_text 0 l.roles l.bytes) (frames_text l.place (drop l.place l.roles) (drop (4096 * l.place) l.bytes))
