use Rattle.std.proofs.Common.{ap, arith, subst, sym, ◌∙◌, ◌≡◌, ◌==◌, ◌∷◌, Bool, true, false, Some}
use Rattle.std.specs.Prelude.{MatchBool}
use Rattle.std.proofs.lemmas.Bool.Decides.{nat_tests}
use Rattle.atomic_table.specs.Table.{rest}
use Rattle.seat_lock.specs.Locks.{HasTaken}
use Rattle.seat_lock.proofs.Locking.{takes_allowed}
use Rattle.seat_lock.specs.Places.{slots_of}
use Rattle.seat_lock.proofs.lock.SeatLock.take.Goals as goal

pub compare_exchange-requires : goal.compare_exchange-requires
compare_exchange-requires g c =
    let idle : c.by.inside.seat.me.0.has ≡ false = ap (λ p. p.has) c.by.view_is ∙ c.requires.idle in (
      ap (λ p. p.table) c.by.view_is ∙ c.requires.table ∙ sym c.self.view_is,
      (let words = c.self.invariant.0 in omega arith),
      rw c.self.invariant.1 (takes_allowed c.by.inside.seat.id c.by.inside.seat.me idle (c.by.invariant ∙ ap slots_of idle)),
    )

-- the place has the value, in the slot that was taken last
pub exchange-requires : goal.exchange-requires
exchange-requires g c =
    let found : (c.compare_exchange.result == 0) ≡ true = grind (arith, nat_tests, c.if-compare_exchange-ne-HERE.false) in
    let me = c.compare_exchange.new.seat.me in
    let taken : HasTaken c.by.inside.seat.me.0 me = subst (λ (b : Bool). MatchBool b (HasTaken c.by.inside.seat.me.0 me) (me ≡ c.by.inside.seat.me)) found c.compare_exchange.ensures.2 in (
      c.compare_exchange.ensures.0 ∙ (ap (λ p. p.table) c.by.view_is ∙ c.requires.table ∙ sym c.self.view_is),
      (Some taken.held, ap (λ m. m.1) taken.now ∙ sym (ap (λ m. (0, Some taken.held) ∷ rest m.1) taken.now)),
    )
