-- What is not written yet are the lines of the runs from the next one on.
use Rattle.std.proofs.Common.{drop}
use Rattle.std.specs.List.{flat_map}
use Rattle.text_output.specs.Output.{LeavesUnwritten}
use Rattle.image_map.specs.Text.{run_line}
use Rattle.image_map.proofs.text.write_runs.Given as goal

abbrev pub invariant-loop-place : goal.invariant-loop-place
invariant-loop-place g l = LeavesUnwritten (g.W.Write.contents l.fn.writer) (g.W.Write.contents l.writer) (flat_map (run_line l.image) l.runs) (flat_map (run_line l.image) (drop l.place l.runs))
