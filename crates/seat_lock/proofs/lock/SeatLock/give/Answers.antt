use Rattle.std.proofs.Common.{ap, arith, sym, ◌∙◌, ◌≡◌, ◌∷◌, [], true, None, Some}
use Rattle.atomic_table.specs.Table.{rest}
use Rattle.seat_lock.proofs.Locking.{gives_allowed}
use Rattle.seat_lock.specs.Places.{slots_of}
use Rattle.seat_lock.proofs.lock.SeatLock.give.Goals as goal

pub store-requires : goal.store-requires
store-requires g c =
    let has : c.by.inside.seat.me.0.has ≡ true = ap (λ p. p.has) c.by.view_is ∙ c.requires.has in
    let was : c.by.inside.seat.me.1 ≡ (0, None) ∷ [] = c.by.invariant ∙ ap slots_of has in
    let changed = c.exchange-none.ensures in
    let holds : c.exchange-none.new.seat.me.1 ≡ (0, Some c.args.value) ∷ [] = ap (λ m. m.1) changed.3 ∙ ap (λ l. (0, Some c.args.value) ∷ rest l) was in (
      changed.0 ∙ (ap (λ p. p.table) c.by.view_is ∙ c.requires.table ∙ sym c.self.view_is),
      (let words = c.self.invariant.0 in omega arith),
      rw c.self.invariant.1 (gives_allowed c.exchange-none.new.seat.id c.exchange-none.new.seat.me (ap (λ m. m.0.has) changed.3 ∙ has) c.args.value holds),
    )

-- nothing is out with the place
pub invariant_of-by : goal.invariant_of-by
invariant_of-by g c =
    let has : c.by.inside.seat.me.0.has ≡ true = ap (λ p. p.has) c.by.view_is ∙ c.requires.has in
    let was : c.by.inside.seat.me.1 ≡ (0, None) ∷ [] = c.by.invariant ∙ ap slots_of has in
    let changed = c.exchange-none.ensures in
    let holds : c.exchange-none.new.seat.me.1 ≡ (0, Some c.args.value) ∷ [] = ap (λ m. m.1) changed.3 ∙ ap (λ l. (0, Some c.args.value) ∷ rest l) was in
    let after = c.store.ensures.2 c.args.value holds in
    ap (λ m. m.1) after ∙ sym (ap (λ m. slots_of m.0.has) after)
