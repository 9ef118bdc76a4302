-- What accesses cost: nothing where the page is mapped, and what its page needs where it is not.
use Rattle.address_space.proofs.Prelude.{arith, ◌≡◌, ℕ, true, cond, List, ap, sym, ◌∙◌, is_some, same, Set, same_or_not, get-insert, get-map_values, Slot, slot_order, Cell, Spaces, cost, cost_of, stored, set_bytes, cell_or_fresh, at_page}
use Rattle.address_space.proofs.costs.Costs.{same_pages}
use Rattle.page_words.specs.FiniteMap as map

-- spaces that map the same slots cost the same
pub cost-same : (S T : Spaces) (p : ℕ) → ((q : Slot) → map.contains_key S q ≡ map.contains_key T q) → cost S p ≡ cost T p
cost-same S T p is = ap cost_of (same_pages S T p p (λ page. is (at_page p page)))

pub key-insert : (S : Spaces) (slot : Slot) (c : Cell) (q : Slot) → map.contains_key (map.insert S slot c) q ≡ cond (same slot_order q slot) true (map.contains_key S q)
key-insert S slot c q = grind (arith, is_some, get-insert, same, slot_order)

key-set_bytes : (S : Spaces) (group : Set slot_order) (bytes : List ℕ) (q : Slot) → map.contains_key (set_bytes S group bytes) q ≡ map.contains_key S q
key-set_bytes S group bytes q = grind (arith, get-map_values)

-- a store maps the slots that an insertion maps
pub key-stored : (S : Spaces) (slot : Slot) (at : ℕ) (new : List ℕ) (c : Cell) (q : Slot) → map.contains_key (stored S slot at new) q ≡ map.contains_key (map.insert S slot c) q
key-stored S slot at new c q = key-insert (set_bytes S (cell_or_fresh S slot).holders _) slot _ q ∙ ap (cond (same slot_order q slot) true) (key-set_bytes S (cell_or_fresh S slot).holders _ q) ∙ sym (key-insert S slot c q)

pub kept : (S : Spaces) (slot : Slot) (c : Cell) → is_some (map.get S slot) ≡ true → (q : Slot) → map.contains_key (map.insert S slot c) q ≡ map.contains_key S q
kept S slot c found q = grind (arith, key-insert, same_or_not, slot_order)
