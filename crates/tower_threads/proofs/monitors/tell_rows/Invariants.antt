use Rattle.tower_threads.specs.Rows.{AreRows}
use Rattle.tower_threads.proofs.monitors.tell_rows.Given as goal

abbrev pub invariant-loop-number : goal.invariant-loop-number
invariant-loop-number l = AreRows l.report l.number l.initial.rows l.rows
