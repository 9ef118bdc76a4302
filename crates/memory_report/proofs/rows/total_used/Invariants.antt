-- What the rows so far use together; each uses less than 2 to the 32.
use Rattle.std.proofs.Common.{◌≡◌, ◌*◌, ◌^◌, ◌≤◌, take}
use Rattle.memory_report.specs.Reports.{total_of}
use Rattle.memory_report.proofs.rows.total_used.Given as goal

abbrev pub invariant-loop-row : goal.invariant-loop-row
invariant-loop-row l = record {
  sum : l.total ≡ total_of (take l.row-index l.rows);
  most : l.total ≤ l.row-index * 2 ^ 32;
}
