-- Where frames agree, they and the lazy pages weigh no more than the costs: each process has as many uses as it costs,
-- and a frame has a use for each of its slots.
use Rattle.address_space.proofs.Prelude.{◌≡◌, ℕ, zero, suc, ◌+◌, ◌*◌, ◌<◌, ◌≤◌, ◌==◌, Bool, true, cond, ◌||◌, List, [], ◌∷◌, ◌++◌, length, length-append, refl, ap, sym, subst, ◌∙◌, arith, inl, inr, Option, Some, None, slice_get, is_some, if◌then◌else◌, sum_by, unwrap_or, option_map, option_and_then, list_any, range_with_len, is_some-find, cases_eq, cases_lt, or_right, length-map, sum_by-cons, slot_number, index_number, Order, nat_order, same, Set, same_or_not, contains-from_list, len-insert, frame_bytes, word_in, Role, Reserved, Free, Directory, Table, Page, weight, frames_weight, PageEntry, Frames, table_of, word_entry, entry_from, entry_at, Slot, slot_order, Spaces, cost, pages_of, regions_of, at_page, user_slots, Entries, names, holders_of, lazy_count, spaces_of, Directories, directory_of, table_in, entry_in, entries_in, spaces_in, live_cost, total_cost, eqb-true, eq-eqb, IsSound, InUse, weight_in, map as list_map, list_any-append}
use Rattle.address_space.proofs.Lemmas.{contains-pages_of, keys, region_there, len-subset, get-entries_in, entry_by_table, contains-holders_of, in_user_slots, live_small}
use Rattle.address_space.proofs.costs.Hits.{once, hits, sum-hits, hits-append, hits-map, weights-below}
use Rattle.page_words.specs.FiniteMap as map_of
use Rattle.page_words.specs.FiniteSet as set

-- a list has at least as many places as keys
len-from_list : {K : Type 0} (o : Order K) (ks : List K) → set.len (set.from_list {o = o} ks) ≤ length ks
len-from_list o [] = omega arith
len-from_list o (k ∷ ks) = grind (arith, len-insert, len-from_list o ks)

member : {K : Type 0} {o : Order K} (s : Set o) (k : K) → set.contains s k ≡ true → list_any (same o k) (set.items s) ≡ true
member {K} {o} s k h = sym (is_some-find o.cmp k s.entries) ∙ h

module _ (directories : List (Option ℕ)) (bytes : List ℕ) (roles : List Role) (S : IsSound directories bytes roles) (used : InUse (directory_of directories) (frame_bytes bytes)) where
  abbrev D : Directories
  D = directory_of directories

  abbrev m : Frames
  m = frame_bytes bytes

  abbrev E : Entries
  E = entries_in D m

  abbrev spaces : Spaces
  spaces = spaces_of E m

  abbrev pages : ℕ → Set nat_order
  pages p = pages_of spaces p

  abbrev regions : ℕ → Set nat_order
  regions p = regions_of (pages p)

  -- the frame of a page, 0 where it has no entry
  abbrev frame_at : ℕ → ℕ → ℕ
  frame_at p page = unwrap_or (option_map (λ (e : PageEntry). e.frame) (map_of.get E (at_page p page))) 0

  -- the table of a region, 0 where it has none
  abbrev table_at : ℕ → ℕ → ℕ
  table_at p s = unwrap_or (table_in D m p s) 0

  -- the frames that a process uses: as many as it costs
  abbrev uses_of : ℕ → Option ℕ → List ℕ
  uses_of p None = []
  uses_of p (Some d) = d ∷ (list_map (table_at p) (set.items (regions p)) ++ list_map (frame_at p) (set.items (pages p)))

  uses : ℕ → ℕ → List ℕ
  uses a zero = []
  uses a (suc n) = uses_of a (D a) ++ uses (a + 1) n

  length-uses_of : (p : ℕ) (x : Option ℕ) → length (uses_of p x) ≡ (if is_some x then cost spaces p else 0)
  length-uses_of p x = grind (arith, length-append, length-map)

  length-uses : (a n : ℕ) → length (uses a n) ≡ sum_by (live_cost D spaces) (range_with_len a n)
  unfolding uses
  length-uses a zero = refl
  length-uses a (suc n) =
      let s = sum_by-cons (live_cost D spaces) a (range_with_len (a + 1) n) in
      omega (arith, length-append (uses_of a (D a)) (uses (a + 1) n), s, length-uses_of a (D a), length-uses (a + 1) n)

  hits-uses : (f p a n : ℕ) → a ≤ p → p < a + n → hits f (uses_of p (D p)) ≤ hits f (uses a n)
  unfolding uses
  hits-uses f p a zero low high = absurd (omega arith)
  hits-uses f p a (suc n) low high = elim (cases_eq p a) [
    | inl is ↦ grind (arith, hits-append, hits)
    | inr differ ↦
        let rest = hits-uses f p (a + 1) n (omega (arith, differ)) (omega arith) in
        omega (arith, hits-append f (uses_of a (D a)) (uses (a + 1) n), rest)
  ]

  -- ---- Directories and tables

  small : (p d : ℕ) → D p ≡ Some d → p < 64
  small p d live = live_small directories p d S.pids live

  directory-hits : (p f : ℕ) → D p ≡ Some f → 1 ≤ hits f (uses 0 64)
  directory-hits p f live =
      grind (
        arith,
        small p f live,
        hits-uses f p 0 64 (omega arith) (omega (arith, (small p f live))),
        hits,
        once,
        eq-eqb,
      )

  -- a slot outside the user range has no table
  user_slot : (p d s t : ℕ) → D p ≡ Some d → s < 1024 → table_of m d s ≡ Some t → (256 ≤ s) × (s < 960)
  user_slot p d s t live wide is = grind (arith, cases_lt)

  -- the region of a table has a page
  region-there : (p d s t : ℕ) → D p ≡ Some d → s < 1024 → table_in D m p s ≡ Some t → set.contains (regions p) s ≡ true
  region-there p d s t live wide there =
      let u = used p s t there in
      let range = user_slot p d s t live wide (sym (ap (option_and_then (λ d. table_of m d s)) live) ∙ there) in
      let page : ℕ = s * 1024 + u.0 in
      let r : slot_number page ≡ s = omega (arith, u.1) in
      let index : index_number page ≡ u.0 = omega (arith, u.1) in
      let q : Slot = at_page p page in
      let entry : is_some (entry_in D m q) ≡ true =
      ap is_some (entry_by_table D m q ∙ ap (option_and_then (λ table. word_entry (word_in (m table) (index_number page)))) (ap (table_in D m p) r ∙ there) ∙ ap (λ i. word_entry (word_in (m t) i)) index)
      ∙ ap (λ b. is_some (if b then Some (entry_from (word_in (m t) u.0)) else None)) u.2 in
      let low : 0x40000 ≤ page = omega (arith, u.1, range.0) in
      let high : page < 0xf0000 = omega (arith, u.1, range.1) in
      let get : is_some (map_of.get E q) ≡ true = ap is_some (get-entries_in D m q ∙ ap (λ b. cond b (entry_in D m q) None) (in_user_slots p page (small p d live) low high)) ∙ entry in
      let page_there : set.contains (pages p) page ≡ true = contains-pages_of spaces p page ∙ keys E m q ∙ get in
      subst (λ n. set.contains (regions p) n ≡ true) r (region_there (pages p) page page_there)

  table-hits : (p s f : ℕ) → s < 1024 → table_in D m p s ≡ Some f → 1 ≤ hits f (uses 0 64)
  table-hits p s f wide there = by (D p) refl
    where
      by : (x : Option ℕ) → D p ≡ x → 1 ≤ hits f (uses 0 64)
      by None is = absurd (let n : table_in D m p s ≡ None = ap (option_and_then (λ d. table_of m d s)) is in cc)
      by (Some d) is =
          let region = member (regions p) s (region-there p d s f is wide there) in
          let own = hits-map nat_order (table_at p) s f (set.items (regions p)) region (ap (λ o. unwrap_or o 0) there) in
          let both = hits-append f (list_map (table_at p) (set.items (regions p))) (list_map (frame_at p) (set.items (pages p))) in
          let all = hits-uses f p 0 64 (omega arith) (omega (arith, small p d is)) in
          omega (arith, subst (λ x. 1 ≤ hits f (uses_of p x)) (sym is) (omega (arith, own, both)), all)

  -- ---- Pages

  -- the slots of a process at these pages whose frame is f
  abbrev slots_hit : ℕ → ℕ → List ℕ → List Slot
  slots_hit f p [] = []
  slots_hit f p (page ∷ rest) = cond (frame_at p page == f) (at_page p page ∷ slots_hit f p rest) (slots_hit f p rest)

  length-slots_hit : (f p : ℕ) (ps : List ℕ) → length (slots_hit f p ps) ≡ hits f (list_map (frame_at p) ps)
  length-slots_hit f p [] = refl
  length-slots_hit f p (page ∷ rest) = by (frame_at p page == f) (length-slots_hit f p rest)
    where
      by : (b : Bool) → length (slots_hit f p rest) ≡ hits f (list_map (frame_at p) rest) → length (cond b (at_page p page ∷ slots_hit f p rest) (slots_hit f p rest)) ≡ once b + hits f (list_map (frame_at p) rest)
      by b h = grind arith

  any-slots_hit : (f p page : ℕ) (ps : List ℕ) → list_any (same nat_order page) ps ≡ true → frame_at p page ≡ f → list_any (same slot_order (at_page p page)) (slots_hit f p ps) ≡ true
  any-slots_hit f p page [] h e = cc
  any-slots_hit f p page (x ∷ xs) h e = elim (same_or_not nat_order page x) [
    | inl is ↦ grind arith
    | inr other ↦ later (frame_at p x == f) (any-slots_hit f p page xs (ap (λ b. b || list_any (same nat_order page) xs) (sym other) ∙ h) e)
  ]
    where
      later : (b : Bool) → list_any (same slot_order (at_page p page)) (slots_hit f p xs) ≡ true → list_any (same slot_order (at_page p page)) (cond b (at_page p x ∷ slots_hit f p xs) (slots_hit f p xs)) ≡ true
      later b h = grind (arith, or_right)

  abbrev slots_of : ℕ → ℕ → Option ℕ → List Slot
  slots_of f p None = []
  slots_of f p (Some d) = slots_hit f p (set.items (pages p))

  -- the slots of all whose frame is f
  slots : ℕ → ℕ → ℕ → List Slot
  slots f a zero = []
  slots f a (suc n) = slots_of f a (D a) ++ slots f (a + 1) n

  length-slots_of : (f p : ℕ) (x : Option ℕ) → length (slots_of f p x) ≤ hits f (uses_of p x)
  length-slots_of f p None = omega arith
  length-slots_of f p (Some d) = grind (arith, length-slots_hit, hits-append)

  length-slots : (f a n : ℕ) → length (slots f a n) ≤ hits f (uses a n)
  unfolding uses slots
  length-slots f a zero = omega arith
  length-slots f a (suc n) =
      grind (arith, length-append, slots, hits-append, uses, length-slots_of, length-slots f (a + 1) n)

  any-slots : (f : ℕ) (t : Slot → Bool) (p a n : ℕ) → a ≤ p → p < a + n → list_any t (slots_of f p (D p)) ≡ true → list_any t (slots f a n) ≡ true
  unfolding slots
  any-slots f t p a zero low high h = absurd (omega arith)
  any-slots f t p a (suc n) low high h = list_any-append t (slots_of f a (D a)) (slots f (a + 1) n) ∙ elim (cases_eq p a) [
    | inl is ↦ ap (λ b. b || list_any t (slots f (a + 1) n)) (ap (λ q. list_any t (slots_of f q (D q))) (sym is) ∙ h)
    | inr differ ↦ or_right (list_any t (slots_of f a (D a))) (list_any t (slots f (a + 1) n)) (any-slots f t p (a + 1) n (omega (arith, differ)) (omega arith) h)
  ]

  -- a slot that names f is one of them
  named : (f : ℕ) (x : Option PageEntry) → names f x ≡ true → (is_some x ≡ true) × (unwrap_or (option_map (λ (e : PageEntry). e.frame) x) 0 ≡ f)
  named f x h = grind (arith, eqb-true)

  holder-in : (f : ℕ) (slot : Slot) → set.contains (holders_of E f) slot ≡ true → list_any (same slot_order slot) (slots f 0 64) ≡ true
  holder-in f slot h =
      let n = named f (map_of.get E slot) (sym (contains-holders_of E f slot) ∙ h) in
      by n (D slot.pid) refl
    where
      gone : (b : Bool) (x : Option PageEntry) → x ≡ None → is_some (cond b x None) ≡ true → ⊥
      gone b x n h = grind arith

      by : (is_some (map_of.get E slot) ≡ true) × (frame_at slot.pid slot.page ≡ f) → (x : Option ℕ) → D slot.pid ≡ x → list_any (same slot_order slot) (slots f 0 64) ≡ true
      by n None is = absurd (gone (list_any (same slot_order slot) user_slots) (entry_in D m slot) (ap (option_and_then (λ d. entry_at m d slot.page)) is) (sym (ap is_some (get-entries_in D m slot)) ∙ n.0))
      by n (Some d) is =
          let few = small slot.pid d is in
          let page_there : set.contains (pages slot.pid) slot.page ≡ true = contains-pages_of spaces slot.pid slot.page ∙ keys E m slot ∙ n.0 in
          let own = any-slots_hit f slot.pid slot.page (set.items (pages slot.pid)) (member (pages slot.pid) slot.page page_there) n.1 in
          any-slots f (same slot_order slot) slot.pid 0 64 (omega arith) (omega (arith, few)) (subst (λ x. list_any (same slot_order slot) (slots_of f slot.pid x) ≡ true) (sym is) own)

  holders-hits : (f : ℕ) → set.len (holders_of E f) ≤ hits f (uses 0 64)
  holders-hits f =
      let a = len-subset (holders_of E f) (set.from_list {o = slot_order} (slots f 0 64)) (λ slot h. contains-from_list slot_order (slots f 0 64) slot ∙ holder-in f slot h) in
      grind (arith, len-from_list, slots, length-slots)

  -- ---- All frames

  frame-hits : ((p s t : ℕ) → slice_get roles t ≡ Some (Table p s) → s < 1024) → (f : ℕ) (r : Role) → slice_get roles f ≡ Some r → 1 ≤ f → weight r ≤ hits f (uses 0 64)
  frame-hits wide f Reserved is up = absurd (let z = S.tables.reserved f is in omega (arith, z, up))
  frame-hits wide f Free is up = omega arith
  frame-hits wide f (Directory p) is up = directory-hits p f (S.tables.directory_back p f is)
  frame-hits wide f (Table p s) is up = table-hits p s f (wide p s f is) (S.tables.table_back p s f is)
  frame-hits wide f (Page c) is up = let n = (S.pages.counts f c is).1 in let h = holders-hits f in omega (arith, n, h)

  all-weigh : (rs : List Role) → slice_get rs 0 ≡ Some Reserved → ((f : ℕ) (r : Role) → slice_get rs f ≡ Some r → 1 ≤ f → weight r ≤ hits f (uses 0 64)) → frames_weight rs + lazy_count E ≤ 1 + length (uses 0 64)
  all-weigh [] first each = cc
  all-weigh (r ∷ rs) first each =
      let is : r ≡ Reserved = ap (λ o. unwrap_or o r) first in
      let rest = weights-below rs (λ f. hits f (uses 0 64)) 1 (λ i q is. (let e : suc i ≡ 1 + i = omega arith in subst (λ k. weight q ≤ hits k (uses 0 64)) e (each (suc i) q is (omega arith)))) in
      let most = sum-hits (uses 0 64) 0 (suc (length rs)) in
      omega (arith, ap weight is, sum_by-cons weight r rs, rest, holders-hits 0, most)

  weigh : ((p s t : ℕ) → slice_get roles t ≡ Some (Table p s) → s < 1024) → frames_weight roles + lazy_count E ≤ 1 + sum_by (live_cost D spaces) (range_with_len 0 64)
  weigh wide = subst (λ n. frames_weight roles + lazy_count E ≤ 1 + n) (length-uses 0 64) (all-weigh roles S.tables.zero_role (frame-hits wide))

-- frames that agree, with the lazy pages, weigh no more than the costs
pub weighs : (directories : List (Option ℕ)) (bytes : List ℕ) (roles : List Role) → IsSound directories bytes roles → InUse (directory_of directories) (frame_bytes bytes)
    → ((p s t : ℕ) → slice_get roles t ≡ Some (Table p s) → s < 1024) → weight_in directories bytes roles ≤ 1 + total_cost directories (spaces_in directories bytes)
unfolding total_cost spaces_in
weighs directories bytes roles sound used wide = weigh directories bytes roles sound used wide
