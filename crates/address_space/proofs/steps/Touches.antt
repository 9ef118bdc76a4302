-- The type's invariant after an access, or after a change of rights.
use Rattle.address_space.proofs.Prelude.{arith, ◌≡◌, ℕ, List, Option, ap, ◌∙◌, Role, Slot, Spaces, spaces_in, Touched, IsSpaces, AreCountedSpaces}
use Rattle.address_space.proofs.steps.CountSteps.{counted_keys}
use Rattle.page_words.specs.FiniteMap as map
use Rattle.page_words.specs.FiniteSet as set

-- address spaces that had room still do
pub spaces_touched : (directories : List (Option ℕ)) (bytes bytes' : List ℕ) (roles : List Role) (S' : Spaces) → IsSpaces directories bytes roles → Touched directories S' bytes roles bytes'
    → IsSpaces directories bytes' roles
spaces_touched directories bytes bytes' roles S' before touched =
    let cost = touched.cost in
    let weighs = before.weighs in
    let within = before.within in
    let lazy = ap set.len touched.lazy in
    record { sound = touched.sound; in_use = touched.in_use before.in_use; weighs = omega (arith, cost, weighs, lazy); within = omega (arith, cost, within) }

-- where the same slots are mapped
pub kept_touched : (directories : List (Option ℕ)) (bytes bytes' : List ℕ) (roles : List Role) (counts : List ℕ) (S' : Spaces) → AreCountedSpaces directories bytes roles counts → Touched directories S' bytes roles bytes'
    → ((q : Slot) → map.contains_key S' q ≡ map.contains_key (spaces_in directories bytes) q) → AreCountedSpaces directories bytes' roles counts
kept_touched directories bytes bytes' roles counts S' before touched keys = record {
  spaces = spaces_touched directories bytes bytes' roles S' before.spaces touched;
  counted = counted_keys (spaces_in directories bytes) (spaces_in directories bytes') roles counts (λ q. ap (λ x. map.contains_key x q) touched.spaces ∙ keys q) before.counted;
}
