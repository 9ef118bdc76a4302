-- The rows below the number are told.
use Rattle.std.proofs.Common.{◌≡◌, ◌<◌, ℕ, length}
use Rattle.memory_report.specs.Reports.{row_of}
use Rattle.memory_report.specs.Rows.{at}
use Rattle.memory_report.proofs.report.report_of.Given as goal

abbrev pub invariant-loop-number : goal.invariant-loop-number
invariant-loop-number l = record {
  long : length l.rows ≡ 64;
  told : (p : ℕ) → p < l.number → at l.rows p ≡ row_of l.core.state p;
}
