use Rattle.core_handover.specs.Seats.{AreAll}
use Rattle.core_handover.proofs.sharing.watchers.Given as goal

abbrev pub invariant-loop-number : goal.invariant-loop-number
invariant-loop-number l = AreAll l.page l.number l.monitors.items
