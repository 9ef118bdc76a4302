-- A slot that joins a group, and accesses of another process, in either order.
use Rattle.kernel_laws.proofs.Prelude.{◌≡◌, ◌≢◌, ℕ, Bool, true, false, cond, List, ap, sym, ◌∙◌, arith, Option, Some, unwrap_or, ◌⊎◌, if◌then◌else◌, option_map, same, Set, same_map, same_or_not, get-insert, get-map_values, Slot, slot_order, Cell, Spaces, at_page, cell_or_fresh, fresh, with_bytes, with_holders, set_bytes, set_holders, write_at, store_in, stored, join_in, joined, get-inserted_other, at_slot, swap, group_at}
use Rattle.kernel_laws.proofs.Commuting.{group_apart, unchanged, Commutes, IsOut}
use Rattle.page_words.specs.FiniteMap as map
use Rattle.page_words.specs.FiniteSet as set

unheld : (g : Option Cell) (h : Set slot_order) (b : Bool) → b ≡ false
    → option_map (λ (c : Cell). if b then with_holders c h else c) g ≡ g
unheld g h b k = grind arith

-- a slot outside a group changes
holders_apart : (S : Spaces) (b : Slot) (g h : Set slot_order) (y : Cell) → set.contains g b ≡ false
    → set_holders (map.insert S b y) g h ≡ map.insert (set_holders S g h) b y
holders_apart S b g h y none = same_map _ _ (λ r.
    get-map_values slot_order (λ k (c : Cell). if set.contains g k then with_holders c h else c) (map.insert S b y) r
    ∙ ap (option_map (λ (c : Cell). if set.contains g r then with_holders c h else c)) (get-insert S b y r)
    ∙ middle r (same_or_not slot_order r b)
    ∙ sym (get-insert (set_holders S g h) b y r
    ∙ ap (cond (same slot_order r b) (Some y)) (get-map_values slot_order (λ k (c : Cell). if set.contains g k then with_holders c h else c) S r)))
  where
    middle : (r : Slot) → ((r ≡ b) × (same slot_order r b ≡ true)) ⊎ (same slot_order r b ≡ false)
        → option_map (λ (c : Cell). if set.contains g r then with_holders c h else c) (cond (same slot_order r b) (Some y) (map.get S r))
        ≡ cond (same slot_order r b) (Some y) (option_map (λ (c : Cell). if set.contains g r then with_holders c h else c) (map.get S r))
    middle r h = grind (arith, unheld)

-- bytes and holders
bytes_holders : (S : Spaces) (g h k : Set slot_order) (ys : List ℕ) → set_holders (set_bytes S k ys) g h ≡ set_bytes (set_holders S g h) k ys
bytes_holders S g h k ys = same_map _ _ (λ r.
    get-map_values slot_order (λ x (c : Cell). if set.contains g x then with_holders c h else c) (set_bytes S k ys) r
    ∙ ap (option_map (λ (c : Cell). if set.contains g r then with_holders c h else c))
    (get-map_values slot_order (λ x (c : Cell). if set.contains k x then with_bytes c ys else c) S r)
    ∙ by (set.contains g r) (set.contains k r) (map.get S r)
    ∙ sym (get-map_values slot_order (λ x (c : Cell). if set.contains k x then with_bytes c ys else c) (set_holders S g h) r
    ∙ ap (option_map (λ (c : Cell). if set.contains k r then with_bytes c ys else c))
    (get-map_values slot_order (λ x (c : Cell). if set.contains g x then with_holders c h else c) S r)))
  where
    by : (i j : Bool) (z : Option Cell)
        → option_map (λ (c : Cell). if i then with_holders c h else c) (option_map (λ (c : Cell). if j then with_bytes c ys else c) z)
        ≡ option_map (λ (c : Cell). if j then with_bytes c ys else c) (option_map (λ (c : Cell). if i then with_holders c h else c) z)
    by i j z = grind arith

module _ (giver slot b : Slot) (right : Bool) (far : b ≢ giver) (apart : b ≢ slot) where
  turn : slot ≢ b
  turn is = apart (sym is)

  away : giver ≢ b
  away is = far (sym is)

  there : (S : Spaces) → set.contains (group_at S giver) b ≡ false → map.get (joined S giver slot right) b ≡ map.get S b
  there S none =
      get-inserted_other (set_holders S (group_at S giver) (set.insert (group_at S giver) slot)) slot
      (record { write = right; may = right; accessed = false; dirty = false; bytes = (cell_or_fresh S giver).bytes; holders = set.insert (group_at S giver) slot }) b apart
      ∙ get-map_values slot_order (λ k (c : Cell). if set.contains (group_at S giver) k then with_holders c (set.insert (group_at S giver) slot) else c) S b
      ∙ unheld (map.get S b) (set.insert (group_at S giver) slot) (set.contains (group_at S giver) b) none

  pub join_beside : (g : Option Cell → Cell) (S : Spaces) → set.contains (group_at S giver) b ≡ false
      → joined (at_slot b g S) giver slot right ≡ at_slot b g (joined S giver slot right)
  join_beside g S none =
      ap (λ (c : Cell). join_in (at_slot b g S) c slot right)
      (ap (λ (z : Option Cell). unwrap_or z (fresh giver true)) (get-inserted_other S b (g (map.get S b)) giver away))
      ∙ ap (λ (T : Spaces). map.insert T slot new) (holders_apart S b c.holders (set.insert c.holders slot) (g (map.get S b)) none)
      ∙ swap slot b turn (set_holders S c.holders (set.insert c.holders slot)) new (g (map.get S b))
      ∙ sym (ap (λ (z : Option Cell). map.insert (joined S giver slot right) b (g z)) (there S none))
    where
      c : Cell
      c = cell_or_fresh S giver

      new : Cell
      new = record { write = right; may = right; accessed = false; dirty = false; bytes = (cell_or_fresh S giver).bytes; holders = set.insert (cell_or_fresh S giver).holders slot }

  pub join_stored : (S : Spaces) (at : ℕ) (ys : List ℕ) → set.contains (group_at S giver) b ≡ false
      → set.contains (group_at S b) giver ≡ false → set.contains (group_at S b) slot ≡ false
      → joined (stored S b at ys) giver slot right ≡ stored (joined S giver slot right) b at ys
  join_stored S at ys none free new_free =
      ap (λ (k : Cell). join_in (stored S b at ys) k slot right) giver_stays
      ∙ ap (λ (T : Spaces). map.insert T slot new)
      (holders_apart (set_bytes S (group_at S b) bytes) b (group_at S giver) (set.insert (group_at S giver) slot) written none
      ∙ ap (λ (T : Spaces). map.insert T b written) (bytes_holders S (group_at S giver) (set.insert (group_at S giver) slot) (group_at S b) bytes))
      ∙ swap slot b turn (set_bytes (set_holders S (group_at S giver) (set.insert (group_at S giver) slot)) (group_at S b) bytes) new written
      ∙ ap (λ (T : Spaces). map.insert T b written)
      (sym (group_apart slot b turn (set_holders S (group_at S giver) (set.insert (group_at S giver) slot)) (group_at S b) bytes new new_free))
      ∙ ap (λ (k : Cell). store_in (joined S giver slot right) b k (write_at k.bytes at ys))
      (sym (ap (λ (z : Option Cell). unwrap_or z (fresh b true)) (there S none)))
    where
      bytes : List ℕ
      bytes = write_at (cell_or_fresh S b).bytes at ys

      written : Cell
      written = record (cell_or_fresh S b) { bytes = bytes; accessed = true; dirty = true }

      new : Cell
      new = record { write = right; may = right; accessed = false; dirty = false; bytes = (cell_or_fresh S giver).bytes; holders = set.insert (cell_or_fresh S giver).holders slot }

      giver_stays : cell_or_fresh (stored S b at ys) giver ≡ cell_or_fresh S giver
      giver_stays = ap (λ (z : Option Cell). unwrap_or z (fresh giver true))
          (get-inserted_other (set_bytes S (group_at S b) bytes) b written giver away
          ∙ get-map_values slot_order (λ k (c : Cell). if set.contains (group_at S b) k then with_bytes c bytes else c) S giver
          ∙ unchanged (map.get S giver) bytes (set.contains (group_at S b) giver) free)

-- ---- Whole accesses

-- no page of a process is in the group of a slot
abbrev pub NoneIn : Slot → ℕ → Spaces → Type 0
NoneIn giver q S = (n : ℕ) → set.contains (group_at S giver) (at_page q n) ≡ false

-- then that a slot joins that group commutes with its accesses, where bytes go into no group that has one of the two
pub joined_commutes : (giver slot : Slot) (right : Bool) (q : ℕ) → giver.pid ≢ q → slot.pid ≢ q
    → Commutes q (λ S. joined S giver slot right) (NoneIn giver q) (λ S x. IsOut giver S x × IsOut slot S x)
joined_commutes giver slot right q far apart = record {
  good = λ S T same none n. ap (λ (g : Set slot_order). set.contains g (at_page q n)) (same giver) ∙ none n;
  free = grind arith;
  slots = λ n f S none kept. join_beside giver slot (at_page q n) right (away giver far n) (away slot apart n) f S (none n);
  stores = λ n at ys S none out.
      join_stored giver slot (at_page q n) right (away giver far n) (away slot apart n) S at ys (none n) out.0 out.1;
}
  where
    away : (x : Slot) → x.pid ≢ q → (n : ℕ) → at_page q n ≢ x
    away x differ n is = differ (sym (ap (λ (y : Slot). y.pid) is))
