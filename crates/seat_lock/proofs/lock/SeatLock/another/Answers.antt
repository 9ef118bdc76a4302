use Rattle.std.proofs.Common.{ap, arith, sym, ◌∙◌}
use Rattle.seat_lock.proofs.Locking.{splits_allowed}
use Rattle.seat_lock.proofs.lock.SeatLock.another.Goals as goal

pub split_seat-requires : goal.split_seat-requires
split_seat-requires g c = (
  ap (λ p. p.table) c.of.view_is ∙ c.requires ∙ sym c.self.view_is,
  (let words = c.self.invariant.0 in omega arith),
  splits_allowed c.of.inside.seat.id c.of.inside.seat.me.0,
)
