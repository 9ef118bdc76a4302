-- What is not written yet are the lines of the rows that are left, and the total's.
use Rattle.std.proofs.Common.{◌++◌, drop}
use Rattle.memory_report.specs.Reports.{total_of}
use Rattle.text_output.specs.Output.{LeavesUnwritten}
use Rattle.memory_report.specs.Text.{lines_from, report_text, total_line}
use Rattle.memory_report.proofs.text.write_rows.Given as goal

abbrev pub invariant-loop-number : goal.invariant-loop-number
invariant-loop-number g l = LeavesUnwritten (g.W.Write.contents l.fn.writer) (g.W.Write.contents l.writer) (report_text l.rows) (lines_from l.number (drop l.number l.rows) ++ total_line (total_of l.rows))
