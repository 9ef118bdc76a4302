-- Pages that are copied to a new process, and accesses of another, in either order.
use Rattle.kernel_laws.proofs.Prelude.{◌≡◌, ◌≢◌, ℕ, Bool, true, false, cond, List, refl, ap, sym, ◌∙◌, subst, arith, Option, Some, unwrap_or, ne_eqb, eqb-true, ◌⊎◌, if◌then◌else◌, option_map, same, Set, same_map, same_or_not, get-insert, get-map_values, Slot, slot_order, Cell, Spaces, at_page, cell_or_fresh, fresh, with_bytes, set_bytes, write_at, store_in, stored, copy_of, copied, is_of, get-copied, copied-other, get-inserted_other, at_slot, group_at}
use Rattle.kernel_laws.proofs.Commuting.{unchanged, Commutes}
use Rattle.page_words.specs.FiniteMap as map
use Rattle.page_words.specs.FiniteSet as set

module _ (p k : ℕ) (b : Slot) (other : b.pid ≢ p) (old : b.pid ≢ k) where
  copy_beside : (g : Option Cell → Cell) (S : Spaces) → copied (at_slot b g S) p k ≡ at_slot b g (copied S p k)
  copy_beside g S = same_map _ _ (λ r.
      get-copied (at_slot b g S) p k r
      ∙ by r (is_of k r) refl (same_or_not slot_order r b)
      ∙ sym (get-insert (copied S p k) b (g (map.get (copied S p k) b)) r
      ∙ ap (λ (z : Option Cell). cond (same slot_order r b) (Some (g z)) (map.get (copied S p k) r)) (copied-other S p k b old)
      ∙ ap (cond (same slot_order r b) (Some y)) (get-copied S p k r)))
    where
      y : Cell
      y = g (map.get S b)

      by : (r : Slot) (j : Bool) → is_of k r ≡ j → ((r ≡ b) × (same slot_order r b ≡ true)) ⊎ (same slot_order r b ≡ false)
          → (if is_of k r then option_map (copy_of r) (map.get (at_slot b g S) (at_page p r.page)) else map.get (at_slot b g S) r)
          ≡ cond (same slot_order r b) (Some y) (if is_of k r then option_map (copy_of r) (map.get S (at_page p r.page)) else map.get S r)
      by r j is h = grind (arith, ne_eqb, at_slot, get-inserted_other, y, get-insert)

-- bytes of a group that has none of the two processes
abbrev pub Without : Set slot_order → ℕ → ℕ → Type 0
Without h p k = ((n : ℕ) → set.contains h (at_page p n) ≡ false) × ((n : ℕ) → set.contains h (at_page k n) ≡ false)

copy_bytes : (S : Spaces) (p k : ℕ) (h : Set slot_order) (ys : List ℕ) → Without h p k
    → copied (set_bytes S h ys) p k ≡ set_bytes (copied S p k) h ys
copy_bytes S p k h ys none = same_map _ _ (λ r.
    get-copied (set_bytes S h ys) p k r
    ∙ by r (is_of k r) refl
    ∙ sym (get-map_values slot_order (λ x (c : Cell). if set.contains h x then with_bytes c ys else c) (copied S p k) r
    ∙ ap (option_map (λ (c : Cell). if set.contains h r then with_bytes c ys else c)) (get-copied S p k r)))
  where
    read : (x : Slot) → map.get (set_bytes S h ys) x ≡ option_map (λ (c : Cell). if set.contains h x then with_bytes c ys else c) (map.get S x)
    read x = get-map_values slot_order (λ x (c : Cell). if set.contains h x then with_bytes c ys else c) S x

    by : (r : Slot) (j : Bool) → is_of k r ≡ j
        → (if is_of k r then option_map (copy_of r) (map.get (set_bytes S h ys) (at_page p r.page)) else map.get (set_bytes S h ys) r)
        ≡ option_map (λ (c : Cell). if set.contains h r then with_bytes c ys else c)
        (if is_of k r then option_map (copy_of r) (map.get S (at_page p r.page)) else map.get S r)
    by r true is =
        ap (λ c. if c then option_map (copy_of r) (map.get (set_bytes S h ys) (at_page p r.page)) else map.get (set_bytes S h ys) r) is
        ∙ ap (option_map (copy_of r)) (read (at_page p r.page) ∙ unchanged (map.get S (at_page p r.page)) ys (set.contains h (at_page p r.page)) (none.0 r.page))
        ∙ sym (unchanged (option_map (copy_of r) (map.get S (at_page p r.page))) ys (set.contains h r)
        (ap (λ n. set.contains h (at_page n r.page)) (eqb-true r.pid k is) ∙ none.1 r.page))
        ∙ sym (ap (λ c. option_map (λ (c : Cell). if set.contains h r then with_bytes c ys else c)
        (if c then option_map (copy_of r) (map.get S (at_page p r.page)) else map.get S r)) is)
    by r false is = grind (arith, read)

copy_stored : (p k : ℕ) (b : Slot) → b.pid ≢ p → b.pid ≢ k → (S : Spaces) (at : ℕ) (ys : List ℕ) → Without (group_at S b) p k
    → copied (stored S b at ys) p k ≡ stored (copied S p k) b at ys
copy_stored p k b other old S at ys none =
    copy_beside p k b other old (λ _. written) (set_bytes S (group_at S b) bytes)
    ∙ ap (λ (T : Spaces). map.insert T b written) (copy_bytes S p k (group_at S b) bytes none)
    ∙ ap (λ (c : Cell). store_in (copied S p k) b c (write_at c.bytes at ys))
    (sym (ap (λ (z : Option Cell). unwrap_or z (fresh b true)) (copied-other S p k b old)))
  where
    bytes : List ℕ
    bytes = write_at (cell_or_fresh S b).bytes at ys

    written : Cell
    written = record (cell_or_fresh S b) { bytes = bytes; accessed = true; dirty = true }

-- ---- Whole accesses

-- a fork commutes with accesses of another process, where bytes go into no group that has one of the two processes
pub copied_commutes : (p k q : ℕ) → q ≢ p → q ≢ k
    → Commutes q (λ S. copied S p k) (λ _. Unit {0}) (λ S x. Without (group_at S x) p k)
copied_commutes p k q other old = record {
  good = λ S T same good. tt;
  free = λ S T x same none. subst (λ (g : Set slot_order). Without g p k) (sym (same x)) none;
  slots = λ n f S good kept. copy_beside p k (at_page q n) other old f S;
  stores = λ n at ys S good none. copy_stored p k (at_page q n) other old S at ys none;
}
