-- What is not written yet are the records from the next one on.
use Rattle.std.proofs.Common.{drop}
use Rattle.std.specs.List.{flat_map}
use Rattle.text_output.specs.Output.{LeavesUnwritten}
use Rattle.memory_image.specs.Spelling.{process_bytes}
use Rattle.memory_image.proofs.writing.write_processes.Given as goal

abbrev pub invariant-loop-place : goal.invariant-loop-place
invariant-loop-place g l = LeavesUnwritten (g.W.Write.contents l.fn.writer) (g.W.Write.contents l.writer) (flat_map process_bytes l.processes) (flat_map process_bytes (drop l.place l.processes))
