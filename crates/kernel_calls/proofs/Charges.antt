-- What a process is charged for after its own call.
use Rattle.kernel_calls.proofs.Prelude.{◌≡◌, ℕ, Bool, true, false, cond, not, ap, ◌∙◌, Option, Some, None, is_some, arith, same, nat_order, get-insert, get-retain_keys, same_itself, Slot, Cell, cost, fresh, at_page, cost-same, State, is_live, child_of, after_map, after_spawn, after_fork, after_exit, contains_key-insert}
use Rattle.page_words.specs.FiniteMap as map

-- a page is charged whatever its right
pub map_charge : (s : State) (p page : ℕ) (write : Bool) → cost (after_map s p page write).spaces p ≡ cost (after_map s p page true).spaces p
map_charge s p page write = cost-same (after_map s p page write).spaces (after_map s p page true).spaces p at
  where
    slot : Slot
    slot = at_page p page

    some : (b : Bool) (c d : Cell) (x : Option Cell) → is_some (cond b (Some c) x) ≡ is_some (cond b (Some d) x)
    some b c d x = grind arith

    at : (q : Slot) → map.contains_key (map.insert s.spaces slot (fresh slot write)) q ≡ map.contains_key (map.insert s.spaces slot (fresh slot true)) q
    at q = grind (arith, get-insert, slot, some)

-- a process that has a child is live
pub spawn_lives : (s : State) (p quota : ℕ) → is_live s p ≡ true → is_live (after_spawn s p quota) p ≡ true
spawn_lives s p quota live = contains_key-insert s.book (child_of s) (record { parent = p; quota = quota }) p live

-- a process that was copied is live
pub fork_lives : (s : State) (p quota : ℕ) → is_live s p ≡ true → is_live (after_fork s p quota) p ≡ true
fork_lives s p quota live = contains_key-insert s.book (child_of s) (record { parent = p; quota = quota }) p live

-- a process that has gone is not live
pub exit_gone : (s : State) (p : ℕ) → is_live (after_exit s p) p ≡ false
exit_gone s p = ap is_some (get-retain_keys s.book (λ j. not (same nat_order p j)) p ∙ ap (λ b. cond (not b) (map.get s.book p) None) (same_itself nat_order p))
