-- What a Protect, an access and a store of a byte leave of each cell, by the cell that they change.
use Rattle.shootdowns.proofs.Prelude.{◌≡◌, ℕ, suc, ◌+◌, ◌<◌, Bool, true, cond, List, ap, ◌∙◌, subst, arith, Option, Some, unwrap_or, if◌then◌else◌, option_map, same, get-insert, get-map_values, Slot, slot_order, Cell, Spaces, cell_or_fresh, fresh, with_bytes, set_bytes, write_at, stored, accessed, protected}
use Rattle.page_words.specs.FiniteMap as map
use Rattle.page_words.specs.FiniteSet as set

-- a cell that was stored to, and one whose group it may be in
abbrev pub written : Cell → ℕ → List ℕ → Cell
written c o ys = record c { bytes = write_at c.bytes o ys; accessed = true; dirty = true }

abbrev pub grouped : Cell → ℕ → List ℕ → Slot → Cell → Cell
grouped c o ys r k = if set.contains c.holders r then with_bytes k (write_at c.bytes o ys) else k

module _ (S : Spaces) (b : Slot) (c : Cell) (at : map.get S b ≡ Some c) where
  pub cell_at : cell_or_fresh S b ≡ c
  cell_at = ap (λ (z : Option Cell). unwrap_or z (fresh b true)) at

  pub get_protected : (w : Bool) (r : Slot) → map.get (protected S b w) r ≡ cond (same slot_order r b) (Some (record c { write = w })) (map.get S r)
  get_protected w r = ap (λ (k : Cell). map.get (map.insert S b (record k { write = w })) r) cell_at ∙ get-insert S b (record c { write = w }) r

  pub get_accessed : (r : Slot) → map.get (accessed S b) r ≡ cond (same slot_order r b) (Some (record c { accessed = true })) (map.get S r)
  get_accessed r = ap (λ (k : Cell). map.get (map.insert S b (record k { accessed = true })) r) cell_at ∙ get-insert S b (record c { accessed = true }) r

  pub get_stored : (o : ℕ) (ys : List ℕ) (r : Slot)
      → map.get (stored S b o ys) r ≡ cond (same slot_order r b) (Some (written c o ys)) (option_map (grouped c o ys r) (map.get S r))
  get_stored o ys r =
      ap (λ (k : Cell). map.get (map.insert (set_bytes S k.holders (write_at k.bytes o ys)) b (written k o ys)) r) cell_at
      ∙ get-insert (set_bytes S c.holders (write_at c.bytes o ys)) b (written c o ys) r
      ∙ ap (cond (same slot_order r b) (Some (written c o ys))) (get-map_values slot_order (grouped c o ys) S r)

-- what holds of each of some places holds of the first, and of those behind it
pub first_of : (P : ℕ → Type 0) (k a : ℕ) → ((i : ℕ) → i < suc k → P (a + i)) → P a
first_of P k a each = let none : a + 0 ≡ a = omega arith in subst P none (each 0 (omega arith))

pub rest_of : (P : ℕ → Type 0) (k a : ℕ) → ((i : ℕ) → i < suc k → P (a + i)) → (i : ℕ) → i < k → P (a + 1 + i)
rest_of P k a each i l = let next : a + suc i ≡ a + 1 + i = omega arith in subst P next (each (suc i) (omega (arith, l)))
