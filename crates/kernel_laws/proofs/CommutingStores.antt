-- Stores of two processes into groups that have nothing in common, in either order.
use Rattle.kernel_laws.proofs.Prelude.{◌≡◌, ◌≢◌, ℕ, Bool, true, false, List, ap, sym, ◌∙◌, arith, Option, unwrap_or, if◌then◌else◌, option_map, Set, same_map, get-map_values, Slot, slot_order, Cell, Spaces, at_page, cell_or_fresh, fresh, with_bytes, set_bytes, write_at, store_in, stored, all_stored, with_pages, get-inserted_other, swap, group_at}
use Rattle.kernel_laws.proofs.Commuting.{unchanged, group_apart, stored_apart, Commutes, EachFree, IsOut, slot_commutes, store_through}
use Rattle.page_words.specs.FiniteMap as map
use Rattle.page_words.specs.FiniteSet as set

-- two slots are in groups that have nothing in common, neither the other's
pub record AreApart (S : Spaces) (a b : Slot) : Type 0 where
  pub differ : a ≢ b
  pub first : set.contains (group_at S b) a ≡ false
  pub second : set.contains (group_at S a) b ≡ false
  pub none : (x : Slot) → set.contains (group_at S a) x ≡ true → set.contains (group_at S b) x ≡ true → ⊥

pub apart_by : (S T : Spaces) (a b : Slot) → ((x : Slot) → group_at T x ≡ group_at S x) → AreApart S a b → AreApart T a b
apart_by S T a b same h = record {
  differ = h.differ;
  first = ap (λ (g : Set slot_order). set.contains g a) (same b) ∙ h.first;
  second = ap (λ (g : Set slot_order). set.contains g b) (same a) ∙ h.second;
  none = grind arith;
}

-- bytes of two such groups
set_both : (S : Spaces) (g h : Set slot_order) (xs ys : List ℕ)
    → ((x : Slot) → set.contains g x ≡ true → set.contains h x ≡ true → ⊥)
    → set_bytes (set_bytes S h ys) g xs ≡ set_bytes (set_bytes S g xs) h ys
set_both S g h xs ys none = same_map _ _ (λ r.
    get-map_values slot_order (λ k (c : Cell). if set.contains g k then with_bytes c xs else c) (set_bytes S h ys) r
    ∙ ap (option_map (λ (c : Cell). if set.contains g r then with_bytes c xs else c))
    (get-map_values slot_order (λ k (c : Cell). if set.contains h k then with_bytes c ys else c) S r)
    ∙ by (set.contains g r) (set.contains h r) (none r) (map.get S r)
    ∙ sym (get-map_values slot_order (λ k (c : Cell). if set.contains h k then with_bytes c ys else c) (set_bytes S g xs) r
    ∙ ap (option_map (λ (c : Cell). if set.contains h r then with_bytes c ys else c))
    (get-map_values slot_order (λ k (c : Cell). if set.contains g k then with_bytes c xs else c) S r)))
  where
    by : (j k : Bool) → (j ≡ true → k ≡ true → ⊥) → (z : Option Cell)
        → option_map (λ (c : Cell). if j then with_bytes c xs else c) (option_map (λ (c : Cell). if k then with_bytes c ys else c) z)
        ≡ option_map (λ (c : Cell). if k then with_bytes c ys else c) (option_map (λ (c : Cell). if j then with_bytes c xs else c) z)
    by j k not z = grind arith

-- the cell of one stays at a store into the other
cell_stays : (S : Spaces) (a b : Slot) (at : ℕ) (ys : List ℕ) → AreApart S a b → cell_or_fresh (stored S b at ys) a ≡ cell_or_fresh S a
cell_stays S a b at ys h =
    ap (λ (z : Option Cell). unwrap_or z (fresh a true))
    (get-inserted_other (set_bytes S (group_at S b) bytes) b (record (cell_or_fresh S b) { bytes = bytes; accessed = true; dirty = true }) a h.differ
    ∙ get-map_values slot_order (λ r (c : Cell). if set.contains (group_at S b) r then with_bytes c bytes else c) S a
    ∙ unchanged (map.get S a) bytes (set.contains (group_at S b) a) h.first)
  where
    bytes : List ℕ
    bytes = write_at (cell_or_fresh S b).bytes at ys

turned : (S : Spaces) (a b : Slot) → AreApart S a b → AreApart S b a
turned S a b h = grind arith

-- one store, and then the other
one_then : (S : Spaces) (a b : Slot) (at at' : ℕ) (xs ys : List ℕ) → AreApart S a b
    → stored (stored S b at' ys) a at xs
    ≡ map.insert (map.insert (set_bytes (set_bytes S (group_at S b) (write_at (cell_or_fresh S b).bytes at' ys)) (group_at S a) (write_at (cell_or_fresh S a).bytes at xs))
    b (record (cell_or_fresh S b) { bytes = write_at (cell_or_fresh S b).bytes at' ys; accessed = true; dirty = true }))
    a (record (cell_or_fresh S a) { bytes = write_at (cell_or_fresh S a).bytes at xs; accessed = true; dirty = true })
one_then S a b at at' xs ys h =
    ap (λ (c : Cell). store_in (stored S b at' ys) a c (write_at c.bytes at xs)) (cell_stays S a b at' ys h)
    ∙ ap (λ (T : Spaces). map.insert T a (record (cell_or_fresh S a) { bytes = write_at (cell_or_fresh S a).bytes at xs; accessed = true; dirty = true }))
    (group_apart b a (λ is. h.differ (sym is)) (set_bytes S (group_at S b) (write_at (cell_or_fresh S b).bytes at' ys)) (group_at S a)
    (write_at (cell_or_fresh S a).bytes at xs)
    (record (cell_or_fresh S b) { bytes = write_at (cell_or_fresh S b).bytes at' ys; accessed = true; dirty = true }) h.second)

pub two_stored : (S : Spaces) (a b : Slot) (at at' : ℕ) (xs ys : List ℕ) → AreApart S a b
    → stored (stored S b at' ys) a at xs ≡ stored (stored S a at xs) b at' ys
two_stored S a b at at' xs ys h =
    one_then S a b at at' xs ys h
    ∙ ap (λ (T : Spaces). map.insert (map.insert T b cb) a ca)
    (set_both S (group_at S a) (group_at S b) (write_at (cell_or_fresh S a).bytes at xs) (write_at (cell_or_fresh S b).bytes at' ys) h.none)
    ∙ swap a b h.differ (set_bytes (set_bytes S (group_at S a) (write_at (cell_or_fresh S a).bytes at xs)) (group_at S b) (write_at (cell_or_fresh S b).bytes at' ys)) ca cb
    ∙ sym (one_then S b a at' at ys xs (turned S a b h))
  where
    ca : Cell
    ca = record (cell_or_fresh S a) { bytes = write_at (cell_or_fresh S a).bytes at xs; accessed = true; dirty = true }

    cb : Cell
    cb = record (cell_or_fresh S b) { bytes = write_at (cell_or_fresh S b).bytes at' ys; accessed = true; dirty = true }

-- ---- Whole stores

-- a store into a slot of another process commutes with accesses, where no page of theirs is in its group, and bytes go
-- into groups that have nothing in common with that
pub stored_commutes : (a : Slot) (q at : ℕ) (xs : List ℕ) → a.pid ≢ q
    → Commutes q (λ S. stored S a at xs) (λ S. (n : ℕ) → IsOut (at_page q n) S a) (λ S x. AreApart S a x)
stored_commutes a q at xs differ = record {
  good = grind arith;
  free = λ S T x same h. apart_by S T a x same h;
  slots = λ n f S free kept. stored_apart (at_page q n) a (λ is. differ (sym (ap (λ (x : Slot). x.pid) is))) f S at xs (free n);
  stores = λ n at' ys S free h. two_stored S a (at_page q n) at at' xs ys h;
}

-- of the groups of two stores, neither has a page of the other's process, and they have nothing in common
abbrev pub IsBeside : ℕ → ℕ → List ℕ → Spaces → Slot → Type 0
IsBeside q to ys S x = ((n : ℕ) → IsOut (at_page q n) S x) × EachFree (λ T y. AreApart T x y) S q to ys

-- a whole store commutes with accesses of another process
pub store_commutes : (p q to : ℕ) (ys : List ℕ) (pages : List ℕ) → p ≢ q
    → Commutes p (λ S. all_stored (with_pages S q pages) q to ys)
    (λ S. (n : ℕ) → EachFree (IsOut (at_page p n)) S q to ys) (IsBeside q to ys)
store_commutes p q to ys pages differ = record {
  good = grind arith;
  free = λ S T x same h.
      ((λ n. ap (λ (g : Set slot_order). set.contains g (at_page q n)) (same x) ∙ h.0 n), (λ i l. apart_by S T x _ same (h.1 i l)));
  slots = λ n f S good kept.
      sym (store_through q _ _ _ (slot_commutes (at_page p n) q differ f) pages S to ys tt (good n));
  stores = λ n at xs S good h.
      sym (store_through q _ _ _ (stored_commutes (at_page p n) q at xs differ) pages S to ys h.0 h.1);
}
