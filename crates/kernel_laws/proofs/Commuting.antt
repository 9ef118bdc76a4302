-- Changes of slots of one process and accesses of another, in either order.
use Rattle.kernel_laws.proofs.Prelude.{◌≡◌, ◌≢◌, ℕ, suc, ◌+◌, ◌<◌, Bool, true, false, cond, List, [], ◌∷◌, length, refl, ap, sym, ◌∙◌, subst, arith, Option, Some, None, unwrap_or, is_some, ◌⊎◌, if◌then◌else◌, option_map, page_number, offset_number, same, Set, same_or_not, same_map, get-insert, get-map_values, same_cases, Slot, slot_order, Cell, Spaces, at_page, slot_at, cell_or_fresh, fresh, with_bytes, set_bytes, write_at, store_in, stored, all_stored, accessed, all_accessed, with_page, with_pages, insert_there, get-inserted, get-inserted_other, at_slot, back, swap, two_slots, group_at, SameGroups, group_stored}
use Rattle.page_words.specs.FiniteMap as map
use Rattle.page_words.specs.FiniteSet as set

pub unchanged : (g : Option Cell) (bytes : List ℕ) (b : Bool) → b ≡ false
    → option_map (λ (c : Cell). if b then with_bytes c bytes else c) g ≡ g
unchanged g bytes b h = grind arith

module _ (a b : Slot) (apart : a ≢ b) where
  -- a slot changes that is in no group that is written
  pub group_apart : (S : Spaces) (h : Set slot_order) (bytes : List ℕ) (x : Cell) → set.contains h a ≡ false
      → set_bytes (map.insert S a x) h bytes ≡ map.insert (set_bytes S h bytes) a x
  group_apart S h bytes x none = same_map _ _ (λ r.
      get-map_values slot_order change (map.insert S a x) r
      ∙ ap (option_map (change r)) (get-insert S a x r)
      ∙ middle r (same_or_not slot_order r a)
      ∙ sym (get-insert (set_bytes S h bytes) a x r
      ∙ ap (cond (same slot_order r a) (Some x)) (get-map_values slot_order change S r)))
    where
      change : Slot → Cell → Cell
      change r c = if set.contains h r then with_bytes c bytes else c

      middle : (r : Slot) → ((r ≡ a) × (same slot_order r a ≡ true)) ⊎ (same slot_order r a ≡ false)
          → option_map (change r) (cond (same slot_order r a) (Some x) (map.get S r))
          ≡ cond (same slot_order r a) (Some x) (option_map (change r) (map.get S r))
      middle r h = grind (arith, change, unchanged)

  pub stored_apart : (f : Option Cell → Cell) (S : Spaces) (at : ℕ) (ys : List ℕ)
      → set.contains (cell_or_fresh S b).holders a ≡ false → stored (at_slot a f S) b at ys ≡ at_slot a f (stored S b at ys)
  stored_apart f S at ys none =
      let c : Cell = cell_or_fresh S b in
      let x : Cell = f (map.get S a) in
      let cell : cell_or_fresh (at_slot a f S) b ≡ cell_or_fresh S b = ap (λ (z : Option Cell). unwrap_or z (fresh b
      true)) (get-inserted_other S a (f (map.get S a)) b (back a b apart)) in
      ap (λ (k : Cell). store_in (map.insert S a x) b k (write_at k.bytes at ys)) cell
      ∙ ap (λ (T : Spaces). map.insert T b c') (group_apart S c.holders new x none)
      ∙ sym (swap a b apart (set_bytes S c.holders new) x c')
      ∙ sym (ap (λ (z : Option Cell). map.insert (stored S b at ys) a (f z)) there)
    where
      new : List ℕ
      new = write_at (cell_or_fresh S b).bytes at ys

      c' : Cell
      c' = record (cell_or_fresh S b) { bytes = new; accessed = true; dirty = true }

      there : map.get (stored S b at ys) a ≡ map.get S a
      there = get-inserted_other (set_bytes S (cell_or_fresh S b).holders new) b c' a apart
          ∙ get-map_values slot_order (λ r (k : Cell). if set.contains (cell_or_fresh S b).holders r then with_bytes k new else k) S a
          ∙ unchanged (map.get S a) new (set.contains (cell_or_fresh S b).holders a) none

-- a page that is mapped first is a change of its slot
pub page_is : (S : Spaces) (q page : ℕ) → with_page S q page ≡ at_slot (at_page q page) (λ x. unwrap_or x (fresh (at_page q page) true)) S
page_is S q page = by (map.get S (at_page q page)) refl
  where
    by : (x : Option Cell) → map.get S (at_page q page) ≡ x
        → (if is_some (map.get S (at_page q page)) then S else map.insert S (at_page q page) (fresh (at_page q page) true))
        ≡ map.insert S (at_page q page) (unwrap_or (map.get S (at_page q page)) (fresh (at_page q page) true))
    by None is =
        ap (λ (z : Option Cell). if is_some z then S else map.insert S (at_page q page) (fresh (at_page q page) true)) is
        ∙ sym (ap (λ (z : Option Cell). map.insert S (at_page q page) (unwrap_or z (fresh (at_page q page) true))) is)
    by (Some c) is = grind (arith, insert_there)

-- and leaves each cell, or what would be there
pub cell_paged : (S : Spaces) (q page : ℕ) (x : Slot) → cell_or_fresh (with_page S q page) x ≡ cell_or_fresh S x
cell_paged S q page x = grind (arith, page_is, same_cases, get-inserted, get-inserted_other)

pub cell_pages : (pages : List ℕ) (S : Spaces) (q : ℕ) (x : Slot) → cell_or_fresh (with_pages S q pages) x ≡ cell_or_fresh S x
cell_pages [] S q x = refl
cell_pages (page ∷ pages) S q x = cell_pages pages (with_page S q page) q x ∙ cell_paged S q page x

-- ---- Groups, which accesses leave

pub group_paged : (pages : List ℕ) (S : Spaces) (q : ℕ) → SameGroups S (with_pages S q pages)
group_paged pages S q x = ap (λ (c : Cell). c.holders) (cell_pages pages S q x)

group_looked : (S : Spaces) (a : Slot) → SameGroups S (accessed S a)
group_looked S a x = grind (arith, same_or_not, get-insert, group_at)

-- ---- What commutes with accesses of a process

-- it commutes with each step of such an access: with a change of a slot that leaves its group, where all groups are good
-- for it, and with a store into a slot that is free for it
pub record Commutes (q : ℕ) (O : Spaces → Spaces) (Good : Spaces → Type 0) (Free : Spaces → Slot → Type 0) : Type 0 where
  pub good : (S T : Spaces) → SameGroups S T → Good S → Good T
  pub free : (S T : Spaces) (x : Slot) → SameGroups S T → Free S x → Free T x
  pub slots : (n : ℕ) (f : Option Cell → Cell) (S : Spaces) → Good S
      → (f (map.get S (at_page q n))).holders ≡ group_at S (at_page q n)
      → O (at_slot (at_page q n) f S) ≡ at_slot (at_page q n) f (O S)
  pub stores : (n at : ℕ) (ys : List ℕ) (S : Spaces) → Good S → Free S (at_page q n)
      → O (stored S (at_page q n) at ys) ≡ stored (O S) (at_page q n) at ys

-- so is each slot that a store of q writes
abbrev pub EachFree : (Spaces → Slot → Type 0) → Spaces → ℕ → ℕ → List ℕ → Type 0
EachFree Free S q address bytes = (i : ℕ) → i < length bytes → Free S (slot_at q (address + i))

module _ (q : ℕ) (O : Spaces → Spaces) (Good : Spaces → Type 0) (Free : Spaces → Slot → Type 0)
    (c : Commutes q O Good Free) where
  pages_through : (pages : List ℕ) (S : Spaces) → Good S → O (with_pages S q pages) ≡ with_pages (O S) q pages
  pages_through [] S good = refl
  pages_through (n ∷ pages) S good =
      pages_through pages (with_page S q n) (c.good S (with_page S q n) (group_paged (n ∷ []) S q) good)
      ∙ ap (λ (T : Spaces). with_pages T q pages) (ap O (page_is S q n)
      ∙ c.slots n (λ x. unwrap_or x (fresh (at_page q n) true)) S good refl ∙ sym (page_is (O S) q n))

  accessed_through : (pages : List ℕ) (S : Spaces) → Good S → O (all_accessed S q pages) ≡ all_accessed (O S) q pages
  accessed_through [] S good = refl
  accessed_through (n ∷ pages) S good =
      accessed_through pages (accessed S (at_page q n)) (c.good S _ (group_looked S (at_page q n)) good)
      ∙ ap (λ (T : Spaces). all_accessed T q pages)
      (c.slots n (λ x. record (unwrap_or x (fresh (at_page q n) true)) { accessed = true }) S good refl)

  pub load_through : (pages : List ℕ) (S : Spaces) → Good S
      → O (all_accessed (with_pages S q pages) q pages) ≡ all_accessed (with_pages (O S) q pages) q pages
  load_through pages S good =
      accessed_through pages (with_pages S q pages) (c.good S _ (group_paged pages S q) good)
      ∙ ap (λ (T : Spaces). all_accessed T q pages) (pages_through pages S good)

  pub bytes_through : (bytes : List ℕ) (S : Spaces) (address : ℕ) → Good S → EachFree Free S q address bytes
      → O (all_stored S q address bytes) ≡ all_stored (O S) q address bytes
  bytes_through [] S address good free = refl
  bytes_through (b ∷ bytes) S address good free =
      let none : address + 0 ≡ address = omega arith in
      let T = stored S (slot_at q address) (offset_number address) (b ∷ []) in
      let same : SameGroups S T = λ x. group_stored S (slot_at q address) x (offset_number address) (b ∷ []) in
      bytes_through bytes T (address + 1) (c.good S T same good) (λ i l.
      let next : address + suc i ≡ address + 1 + i = omega arith in
      c.free S T _ same (subst (λ n. Free S (slot_at q n)) next (free (suc i) (omega (arith, l)))))
      ∙ ap (λ (U : Spaces). all_stored U q (address + 1) bytes) (c.stores (page_number address) (offset_number address)
      (b ∷ []) S good (subst (λ n. Free S (slot_at q n)) none (free 0 (omega arith))))

  pub store_through : (pages : List ℕ) (S : Spaces) (address : ℕ) (bytes : List ℕ) → Good S
      → EachFree Free S q address bytes → O (all_stored (with_pages S q pages) q address bytes)
      ≡ all_stored (with_pages (O S) q pages) q address bytes
  store_through pages S address bytes good free =
      let same = group_paged pages S q in
      bytes_through bytes (with_pages S q pages) address (c.good S _ same good) (λ i l. c.free S _ _ same (free i l))
      ∙ ap (λ (T : Spaces). all_stored T q address bytes) (pages_through pages S good)

-- a change of a slot of another process does, where that slot is in no group into which bytes go
abbrev pub IsOut : Slot → Spaces → Slot → Type 0
IsOut a S x = set.contains (group_at S x) a ≡ false

pub slot_commutes : (a : Slot) (q : ℕ) → a.pid ≢ q → (f : Option Cell → Cell)
    → Commutes q (at_slot a f) (λ _. Unit {0}) (IsOut a)
slot_commutes a q differ f = record {
  good = λ S T same good. tt;
  free = grind arith;
  slots = λ n g S good kept. two_slots a (at_page q n) (apart n) f g S;
  stores = λ n at ys S good free. sym (stored_apart a (at_page q n) (apart n) f S at ys free);
}
  where
    apart : (n : ℕ) → a ≢ at_page q n
    apart n is = differ (ap (λ (s : Slot). s.pid) is)

-- and so does a load of another process
pub load_commutes : (p q : ℕ) (pages : List ℕ) → p ≢ q
    → Commutes p (λ S. all_accessed (with_pages S q pages) q pages) (λ _. Unit {0}) (λ _ _. ⊥)
load_commutes p q pages differ = record {
  good = λ S T same good. tt;
  free = λ S T x same free. free;
  slots = λ n f S good kept. sym (load_through q _ _ _ (slot_commutes (at_page p n) q differ f) pages S tt);
  stores = λ n at ys S good free. absurd free;
}
