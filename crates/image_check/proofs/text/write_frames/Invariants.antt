-- What is not written yet are the lines from the next one on.
use Rattle.std.proofs.Common.{drop}
use Rattle.text_output.specs.Output.{LeavesUnwritten}
use Rattle.image_check.specs.Text.{lines_from, frame_line}
use Rattle.image_check.proofs.text.write_frames.Given as goal

abbrev pub invariant-loop-number : goal.invariant-loop-number
invariant-loop-number g l = LeavesUnwritten (g.W.Write.contents l.fn.writer) (g.W.Write.contents l.writer) (lines_from frame_line 0 l.clauses) (lines_from frame_line l.number (drop l.number l.clauses))
