use Rattle.std.specs.Prelude.{false}
use Rattle.core_handover.specs.Seats.{AreAll, seat}
use Rattle.core_handover.proofs.sharing.seats.Given as goal

abbrev pub invariant-loop-number : goal.invariant-loop-number
invariant-loop-number l = AreAll (seat l.front.book l.front.log false) l.number l.cpus.items
