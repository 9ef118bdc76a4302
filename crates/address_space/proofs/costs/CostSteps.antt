-- The costs of all processes, and what one more page adds.
use Rattle.address_space.proofs.Prelude.{◌≡◌, ◌≢◌, ℕ, zero, suc, ◌+◌, ◌<◌, ◌≤◌, Bool, true, false, cond, ◌||◌, List, [], ◌∷◌, map, refl, ap, sym, ◌∙◌, arith, inl, inr, Option, Some, None, ◌*◌, ◌⊎◌, is_some, if◌then◌else◌, sum_by, option_and_then, list_any, range_with_len, is_some-find, cases_eq, sum_by-cons, slot_number, index_number, Frames, word_entry, entry_from, PageEntry, word_in, Set, nat_order, same, Slot, slot_order, Cell, Spaces, cost, cost_of, need, pages_of, regions_of, at_page, same_itself, same_or_not, get-insert, contains-from_list, list_any-map, same-true, Entries, spaces_of, Directories, directory_of, table_in, entry_in, entries_in, live_cost, total_cost, InUseAt, or-true, is_some-map}
use Rattle.address_space.proofs.entries.UserSlots.{in_user_slots}
use Rattle.address_space.proofs.costs.Costs.{contains-pages_of, same_pages, cost-insert}
use Rattle.address_space.proofs.entries.EntrySteps.{get-entries_in, entry_by_table}
use Rattle.address_space.proofs.entries.Refinement.{get-spaces_of}
use Rattle.page_words.specs.FiniteMap as map_of
use Rattle.page_words.specs.FiniteSet as set

-- ---- A sum over a range, with one term changed

sum_same : (f g : ℕ → ℕ) (a n : ℕ) → ((q : ℕ) → a ≤ q → f q ≡ g q) → sum_by f (range_with_len a n) ≡ sum_by g (range_with_len a n)
sum_same f g a zero is = refl
sum_same f g a (suc n) is =
    let h : f a ≡ g a = is a (omega arith) in
    let r = sum_same f g (a + 1) n (λ q l. is q (omega arith)) in
    omega (arith, sum_by-cons f a (range_with_len (a + 1) n), sum_by-cons g a (range_with_len (a + 1) n), h, r)

pub sum_one : (f g : ℕ → ℕ) (p k a n : ℕ) → a ≤ p → p < a + n → f p ≡ g p + k → ((q : ℕ) → q ≢ p → f q ≡ g q) → sum_by f (range_with_len a n) ≡ sum_by g (range_with_len a n) + k
sum_one f g p k a zero low high own others = absurd (omega arith)
sum_one f g p k a (suc n) low high own others = elim (cases_eq p a) [
  | inl same ↦ grind (arith, sum_by-cons, sum_same)
  | inr differ ↦
      let h : f a ≡ g a = others a (λ e. differ (sym e)) in
      let r = sum_one f g p k (a + 1) n (omega arith) (omega arith) own others in
      omega (arith, sum_by-cons f a (range_with_len (a + 1) n), sum_by-cons g a (range_with_len (a + 1) n), h, r)
]

-- ---- All costs

pub total-same : (directories : List (Option ℕ)) (S S' : Spaces) → ((q : Slot) → map_of.contains_key S' q ≡ map_of.contains_key S q) → total_cost directories S' ≡ total_cost directories S
unfolding total_cost
total-same directories S S' is = sum_same _ _ 0 64 (λ p _. ap (λ n. if is_some (directory_of directories p) then n else 0) (ap cost_of (same_pages S' S p p (λ page. is (at_page p page)))))

pub other_slot : (S : Spaces) (slot : Slot) (cell : Cell) (p page : ℕ) → p ≢ slot.pid → map_of.contains_key (map_of.insert S slot cell) (at_page p page) ≡ map_of.contains_key S (at_page p page)
other_slot S slot cell p page n = grind (arith, get-insert, same_or_not)

pub total-insert : (directories : List (Option ℕ)) (S : Spaces) (slot : Slot) (cell : Cell) (d : ℕ) → slot.pid < 64 → directory_of directories slot.pid ≡ Some d → map_of.get S slot ≡ None
    → total_cost directories (map_of.insert S slot cell) ≡ total_cost directories S + need S slot.pid slot.page
unfolding total_cost
total-insert directories S slot cell d few live none =
    sum_one (live_cost (directory_of directories) (map_of.insert S slot cell)) (live_cost (directory_of directories) S) slot.pid (need S slot.pid slot.page) 0 64 (omega arith) (omega arith)
    (ap (λ x. if is_some x then cost (map_of.insert S slot cell) slot.pid else 0) live ∙ cost-insert S slot cell none ∙ sym (ap (λ x. (if is_some x then cost S slot.pid else 0) + need S slot.pid slot.page) live))
    (λ q n. ap (λ c. if is_some (directory_of directories q) then c else 0) (ap cost_of (same_pages (map_of.insert S slot cell) S q q (λ page. other_slot S slot cell q page n))))

pub need-least : (S : Spaces) (p page : ℕ) → 1 ≤ need S p page
need-least S p page = grind arith

pub need-most : (S : Spaces) (p page : ℕ) → need S p page ≤ 2
need-most S p page = grind arith

-- ---- A page in a region has a table there

-- a key of a list that passes a test
passing : (o : Set nat_order) (t : ℕ → Bool) → list_any t (set.items o) ≡ true → (k : ℕ) × (t k ≡ true) × (set.contains o k ≡ true)
passing o t h = let r = by (set.items o) h in (r.0, r.1, is_some-find nat_order.cmp r.0 o.entries ∙ r.2)
  where
    step : (x : ℕ) (xs : List ℕ) (b : Bool) → t x ≡ b → (b || list_any t xs) ≡ true → (list_any t xs ≡ true → (k : ℕ) × (t k ≡ true) × (list_any (same nat_order k) xs ≡ true)) → (k : ℕ) × (t k ≡ true) × (list_any (same nat_order k) (x ∷ xs) ≡ true)
    step x xs b is h rest = grind (arith, same_itself, or-true)

    by : (ks : List ℕ) → list_any t ks ≡ true → (k : ℕ) × (t k ≡ true) × (list_any (same nat_order k) ks ≡ true)
    by [] h = cc
    by (x ∷ xs) h = step x xs (t x) refl h (λ r. by xs r)

-- a region has a page
pub region_member : (pages : Set nat_order) (r : ℕ) → set.contains (regions_of pages) r ≡ true → (page : ℕ) × (slot_number page ≡ r) × (set.contains pages page ≡ true)
region_member pages r h = grind (arith, passing, contains-from_list, list_any-map, same-true)

abbrev counted : Bool → ℕ
counted b = if b then 1 else 2

pub keys : (E : Entries) (m : ℕ → List ℕ) (q : Slot) → map_of.contains_key (spaces_of E m) q ≡ is_some (map_of.get E q)
keys E m q = grind (arith, get-spaces_of)

-- an entry more costs what its page needs
pub total-entry : (directories : List (Option ℕ)) (E : Entries) (m m' : ℕ → List ℕ) (slot : Slot) (e : PageEntry) (cell : Cell) (d : ℕ) → slot.pid < 64 → directory_of directories slot.pid ≡ Some d → map_of.get E slot ≡ None
    → total_cost directories (spaces_of (map_of.insert E slot e) m') ≡ total_cost directories (spaces_of E m) + need (spaces_of E m) slot.pid slot.page
total-entry directories E m m' slot e cell d few live none =
    total-same directories (map_of.insert (spaces_of E m) slot cell) (spaces_of (map_of.insert E slot e) m') (λ q.
    keys (map_of.insert E slot e) m' q ∙ ap is_some (get-insert E slot e q)
    ∙ either (same slot_order q slot) (map_of.get E q) (map_of.get (spaces_of E m) q) (sym (keys E m q))
    ∙ sym (ap is_some (get-insert (spaces_of E m) slot cell q)))
    ∙ total-insert directories (spaces_of E m) slot cell d few live (get-spaces_of E m slot ∙ (grind arith))
  where
    either : (b : Bool) (x : Option PageEntry) (y : Option Cell) → is_some x ≡ is_some y → is_some (cond b (Some e) x) ≡ is_some (cond b (Some cell) y)
    either b x y h = grind arith

-- an entry in place of another costs the same
pub total-kept : (directories : List (Option ℕ)) (E : Entries) (m m' : ℕ → List ℕ) (slot : Slot) (old new : PageEntry) → map_of.get E slot ≡ Some old
    → total_cost directories (spaces_of (map_of.insert E slot new) m') ≡ total_cost directories (spaces_of E m)
total-kept directories E m m' slot old new found =
    total-same directories (spaces_of E m) (spaces_of (map_of.insert E slot new) m') (λ q.
    keys (map_of.insert E slot new) m' q ∙ ap is_some (get-insert E slot new q)
    ∙ elim (same_or_not slot_order q slot) [
      | inl h ↦ ap (λ b. is_some (cond b (Some new) (map_of.get E q))) h.1 ∙ sym (ap is_some (ap (map_of.get E) h.0 ∙ found))
      | inr h ↦ ap (λ b. is_some (cond b (Some new) (map_of.get E q))) h
    ]
    ∙ sym (keys E m q))

-- no table: so no page in the region, and a new one needs both
pub need-two : (D : Directories) (m : Frames) (p page : ℕ) → table_in D m p (slot_number page) ≡ None → need (spaces_of (entries_in D m) m) p page ≡ 2
need-two D m p page none = by (set.contains (regions_of (pages_of (spaces_of (entries_in D m) m) p)) (slot_number page)) refl
  where
    clash : (other : ℕ) → slot_number other ≡ slot_number page → map_of.contains_key (spaces_of (entries_in D m) m) (at_page p other) ≡ true → ⊥
    clash other same_region h = grind (arith, get-spaces_of, is_some-map, get-entries_in, entry_by_table)

    by : (b : Bool) → set.contains (regions_of (pages_of (spaces_of (entries_in D m) m) p)) (slot_number page) ≡ b → ◌≡◌ {A = ℕ} (if set.contains (regions_of (pages_of (spaces_of (entries_in D m) m) p)) (slot_number page) then 1 else 2) 2
    by false is = ap (λ b. counted b) is
    by true is = let r = region_member (pages_of (spaces_of (entries_in D m) m) p) (slot_number page) is in absurd (clash r.0 r.1 (sym (contains-pages_of (spaces_of (entries_in D m) m) p r.0) ∙ r.2))

-- ---- Removal, as an insertion read backwards

spread : (k : ℕ) (ks : List ℕ) → list_any (same nat_order k) ks ≡ true → list_any (λ n. same nat_order (slot_number k) (slot_number n)) ks ≡ true
spread k [] h = cc
spread k (x ∷ xs) h = step (same_or_not nat_order k x) h (spread k xs)
  where
    step : ((k ≡ x) × (same nat_order k x ≡ true)) ⊎ (same nat_order k x ≡ false) → (same nat_order k x || list_any (same nat_order k) xs) ≡ true
        → (list_any (same nat_order k) xs ≡ true → list_any (λ n. same nat_order (slot_number k) (slot_number n)) xs ≡ true)
        → (same nat_order (slot_number k) (slot_number x) || list_any (λ n. same nat_order (slot_number k) (slot_number n)) xs) ≡ true
    step k h rest = grind (arith, same_itself, or-true)

-- a page's region is one of the regions
pub region_there : (pages : Set nat_order) (k : ℕ) → set.contains pages k ≡ true → set.contains (regions_of pages) (slot_number k) ≡ true
region_there pages k h =
    contains-from_list nat_order (map slot_number (set.items pages)) (slot_number k) ∙ list_any-map slot_number (same nat_order (slot_number k)) (set.items pages)
    ∙ spread k (set.items pages) (sym (is_some-find nat_order.cmp k pages.entries) ∙ h)

-- a table with an entry: so its region has a page, and one more needs no table
pub need-one : (D : Directories) (m : Frames) (p page t : ℕ) → p < 64 → 0x40000 ≤ page → page < 0xf0000 → table_in D m p (slot_number page) ≡ Some t → InUseAt D m p (slot_number page) → need (spaces_of (entries_in D m) m) p page ≡ 1
need-one D m p page t few low high there used =
    let u = used t there in
    let other : ℕ = slot_number page * 1024 + u.0 in
    let r : slot_number other ≡ slot_number page = omega (arith, u.1) in
    let index : index_number other ≡ u.0 = omega (arith, u.1) in
    let q : Slot = at_page p other in
    let entry : is_some (entry_in D m q) ≡ true =
    ap is_some (entry_by_table D m q ∙ ap (option_and_then (λ table. word_entry (word_in (m table) (index_number other)))) (ap (table_in D m p) r ∙ there) ∙ ap (λ i. word_entry (word_in (m t) i)) index)
    ∙ ap (λ b. is_some (if b then Some (entry_from (word_in (m t) u.0)) else None)) u.2 in
    let low2 : 0x40000 ≤ other = omega (arith, u.1) in
    let high2 : other < 0xf0000 = omega (arith, u.1) in
    let get : is_some (map_of.get (entries_in D m) q) ≡ true = ap is_some (get-entries_in D m q ∙ ap (λ b. cond b (entry_in D m q) None) (in_user_slots p other few low2 high2)) ∙ entry in
    let page_there : set.contains (pages_of (spaces_of (entries_in D m) m) p) other ≡ true = contains-pages_of (spaces_of (entries_in D m) m) p other ∙ keys (entries_in D m) m q ∙ get in
    ap counted (sym (ap (set.contains (regions_of (pages_of (spaces_of (entries_in D m) m) p))) r) ∙ region_there (pages_of (spaces_of (entries_in D m) m) p) other page_there)
