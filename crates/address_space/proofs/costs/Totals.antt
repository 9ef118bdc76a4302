-- What each process and all together cost after each kind of change, as laws of the definitions.
use Rattle.address_space.proofs.Prelude.{◌≡◌, ◌≢◌, ℕ, ◌+◌, ◌<◌, ◌≤◌, Bool, true, false, cond, List, ap, sym, ◌∙◌, arith, Option, None, is_some, if◌then◌else◌, option_map, same, get-map_values, Slot, slot_order, Cell, Spaces, cost, cost_of, need, accessed, stored, protected, joined, set_holders, with_holders, cell_or_fresh, without, at_page, directory_of, total_cost, some_value}
use Rattle.address_space.proofs.costs.AccessCosts.{cost-same, key-insert, key-stored, kept}
use Rattle.address_space.proofs.costs.Costs.{cost-insert, same_pages}
use Rattle.address_space.proofs.costs.CostSteps.{total-insert, other_slot, need-most}
use Rattle.address_space.proofs.steps.Departures.{get-without}
use Rattle.page_words.specs.FiniteMap as map
use Rattle.page_words.specs.FiniteSet as set

key-each : (f : Slot → Cell → Cell) (S : Spaces) (q : Slot) → map.contains_key (map.map_values f S) q ≡ map.contains_key S q
key-each f S q = grind (arith, is_some, get-map_values, slot_order, option_map)

-- spaces with the same pages of a process cost it the same
cost-by-pages : (S T : Spaces) (p : ℕ) → ((page : ℕ) → map.contains_key S (at_page p page) ≡ map.contains_key T (at_page p page)) → cost S p ≡ cost T p
cost-by-pages S T p is = ap cost_of (same_pages S T p p is)

-- ---- Changes of a mapped slot

-- no process's cost changes
pub cost-accessed_of : (S : Spaces) (slot : Slot) (p : ℕ) → is_some (map.get S slot) ≡ true → cost (accessed S slot) p ≡ cost S p
cost-accessed_of S slot p found = cost-same (accessed S slot) S p (kept S slot _ found)

pub cost-protected_of : (S : Spaces) (slot : Slot) (write : Bool) (p : ℕ) → is_some (map.get S slot) ≡ true → cost (protected S slot write) p ≡ cost S p
cost-protected_of S slot write p found = cost-same (protected S slot write) S p (kept S slot _ found)

pub cost-stored_of : (S : Spaces) (slot : Slot) (at : ℕ) (new : List ℕ) (p : ℕ) → is_some (map.get S slot) ≡ true → cost (stored S slot at new) p ≡ cost S p
cost-stored_of S slot at new p found = cost-same (stored S slot at new) S p (λ q. key-stored S slot at new (cell_or_fresh S slot) q ∙ kept S slot (cell_or_fresh S slot) found q)

-- ---- A page more

-- a process that gets no page costs the same
pub cost-insert_other : (S : Spaces) (slot : Slot) (cell : Cell) (p : ℕ) → p ≢ slot.pid → cost (map.insert S slot cell) p ≡ cost S p
cost-insert_other S slot cell p n = cost-by-pages (map.insert S slot cell) S p (λ page. other_slot S slot cell p page n)

pub key-joined : (S : Spaces) (giver slot : Slot) (right : Bool) (c : Cell) (q : Slot) → map.contains_key (joined S giver slot right) q ≡ map.contains_key (map.insert S slot c) q
key-joined S giver slot right c q =
    key-insert (set_holders S (cell_or_fresh S giver).holders (set.insert (cell_or_fresh S giver).holders slot)) slot _ q
    ∙ ap (cond (same slot_order q slot) true) (key-each (λ s cell. if set.contains (cell_or_fresh S giver).holders s then with_holders cell (set.insert (cell_or_fresh S giver).holders slot) else cell) S q)
    ∙ sym (key-insert S slot c q)

pub cost-joined : (S : Spaces) (giver slot : Slot) (right : Bool) → map.get S slot ≡ None → cost (joined S giver slot right) slot.pid ≡ cost S slot.pid + need S slot.pid slot.page
cost-joined S giver slot right none = cost-same (joined S giver slot right) (map.insert S slot (cell_or_fresh S slot)) slot.pid (key-joined S giver slot right (cell_or_fresh S slot)) ∙ cost-insert S slot (cell_or_fresh S slot) none

pub cost-joined_other : (S : Spaces) (giver slot : Slot) (right : Bool) (p : ℕ) → p ≢ slot.pid → cost (joined S giver slot right) p ≡ cost S p
cost-joined_other S giver slot right p n = cost-same (joined S giver slot right) (map.insert S slot (cell_or_fresh S slot)) p (key-joined S giver slot right (cell_or_fresh S slot)) ∙ cost-insert_other S slot (cell_or_fresh S slot) p n

-- ---- A page less

-- ---- Slots less

pub key-without : (S : Spaces) (gone : Slot → Bool) (q : Slot) → gone q ≡ false → map.contains_key (without S gone) q ≡ map.contains_key S q
key-without S gone q stays = grind (arith, is_some, get-without, option_map, with_holders)

-- where slots go, processes that hold none of them cost the same
pub cost-without_other : (S : Spaces) (gone : Slot → Bool) (p : ℕ) → ((page : ℕ) → gone (at_page p page) ≡ false) → cost (without S gone) p ≡ cost S p
cost-without_other S gone p stays = cost-by-pages (without S gone) S p (λ page. key-without S gone (at_page p page) (stays page))

-- a new page costs at most two more
pub total_mapped_most : (directories : List (Option ℕ)) (S : Spaces) (slot : Slot) (cell : Cell) → slot.pid < 64 → is_some (directory_of directories slot.pid) ≡ true → map.get S slot ≡ None
    → total_cost directories (map.insert S slot cell) ≤ 2 + total_cost directories S
total_mapped_most directories S slot cell few live none = grind (arith, some_value, total-insert, need-most)
