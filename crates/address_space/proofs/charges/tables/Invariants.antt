use Rattle.address_space.proofs.Prelude.{◌≡◌, ◌+◌, ◌≤◌, ℕ, List, Option, Some, Role, pages_of, regions_of, IsSpaces, directory_of, spaces_in}
use Rattle.address_space.proofs.costs.ChargeLemmas.{regions_below}
use Rattle.address_space.proofs.charges.tables.Given as goal

-- the tables so far are those of the regions below the slot
abbrev pub invariant-loop-slot : goal.invariant-loop-slot
invariant-loop-slot l = record {
  so_far : (D : List (Option ℕ)) (R : List Role) (p : ℕ) → IsSpaces D l.memory R → directory_of D p ≡ Some l.directory → l.tables ≡ regions_below (regions_of (pages_of (spaces_in D l.memory) p)) l.slot;
  few : l.tables + 256 ≤ l.slot;
}
