use Rattle.std.proofs.Common.{ap, arith, sym, ◌∙◌, ◌≡◌, true}
use Rattle.seat_lock.proofs.Locking.{closes_allowed}
use Rattle.seat_lock.proofs.lock.SeatLock.close.Goals as goal

pub store-requires : goal.store-requires
store-requires g c =
    let has : c.by.inside.seat.me.0.has ≡ true = ap (λ p. p.has) c.by.view_is ∙ c.requires.has in (
      ap (λ p. p.table) c.by.view_is ∙ c.requires.table ∙ sym c.self.view_is,
      (let words = c.self.invariant.0 in omega arith),
      rw c.self.invariant.1 (closes_allowed c.by.inside.seat.id c.by.inside.seat.me has),
    )
