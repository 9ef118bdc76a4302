use Rattle.core_handover.specs.Rooms.{IsOf}
use Rattle.core_handover.proofs.room.Room.publish.Given as goal

abbrev pub invariant-loop-place : goal.invariant-loop-place
invariant-loop-place l = IsOf l.self.lock.book l.sheet
