-- What was written so far and the rest are the bytes.
use Rattle.std.proofs.Common.{length}
use Rattle.text_output.specs.Output.{LeavesUnwritten}
use Rattle.text_output.proofs.output.write_whole.Given as goal

abbrev pub invariant-loop-rest : goal.invariant-loop-rest
invariant-loop-rest g l = LeavesUnwritten (g.W.Write.contents l.fn.writer) (g.W.Write.contents l.writer) l.fn.bytes l.rest

abbrev pub decreases-loop-rest : goal.decreases-loop-rest
decreases-loop-rest g l = length l.rest
