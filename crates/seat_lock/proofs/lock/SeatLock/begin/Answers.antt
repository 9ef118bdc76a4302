use Rattle.std.proofs.Common.{ap, arith, sym, ◌∙◌, ◌≡◌, false}
use Rattle.seat_lock.proofs.Locking.{begins_allowed}
use Rattle.seat_lock.specs.Places.{slots_of}
use Rattle.seat_lock.proofs.lock.SeatLock.begin.Goals as goal

pub compare_exchange-requires : goal.compare_exchange-requires
compare_exchange-requires g c =
    let idle : c.by.inside.seat.me.0.has ≡ false = ap (λ p. p.has) c.by.view_is ∙ c.requires.idle in (
      ap (λ p. p.table) c.by.view_is ∙ c.requires.table ∙ sym c.self.view_is,
      (let words = c.self.invariant.0 in omega arith),
      rw c.self.invariant.1 (begins_allowed c.by.inside.seat.id c.by.inside.seat.me idle (c.by.invariant ∙ ap slots_of idle)),
    )
