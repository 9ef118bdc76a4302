-- A machine without any space, and a process that gets an empty one.
use Rattle.address_space.proofs.Prelude.{◌≡◌, ◌≢◌, ℕ, zero, suc, ◌+◌, ◌*◌, ◌<◌, ◌≤◌, true, cond, List, length, replicate, refl, ap, sym, ◌∙◌, subst, arith, inl, inr, Option, Some, None, length-set, get_or, ◌⊎◌, is_some, slice_get, slice_set, if◌then◌else◌, sum_by, option_and_then, option_map, unwrap_or, list_any, range_with_len, cases_eq, length-replicate, get_or-drop, sum_by-cons, slice_get_within, is_present, same, slot_number, index_number, same_map, same_set, get-collect, frame_bytes, blank_bytes, word_at, word_in, with_frame, Role, Reserved, Free, Directory, Table, Page, frames_weight, weight, IsTaken, opening_roles, free_frames, weight-taken, get-set_same, get-set_other, PageEntry, Frames, dir_word, word_table, word_entry, table_of, Slot, slot_order, Spaces, cost, cost_of, pages_of, at_page, user_slots, Entries, lazy_count, spaces_of, cell_of, Directories, Roles, directory_of, table_in, entry_in, entries_in, spaces_in, live_cost, total_cost, Tables, Pages, IsSpaces, SpaceAdded, with_frame-same, with_frame-other, frame-blank}
use Rattle.address_space.proofs.costs.Costs.{contains-pages_of}
use Rattle.address_space.proofs.costs.CostSteps.{sum_one}
use Rattle.address_space.proofs.costs.Costed.{free_where_light}
use Rattle.address_space.proofs.entries.EntrySteps.{Loose, get-entries_in, entry_by_table}
use Rattle.address_space.proofs.frames.FrameSteps.{loose-tables, loose-table, loose-entry, loose-entries, tables-loose}
use Rattle.address_space.proofs.frames.PageSteps.{pages-role, same_bytes, no_free}
use Rattle.address_space.proofs.entries.Refinement.{get-spaces_of}
use Rattle.address_space.proofs.steps.Steps.{free_loose, live_small, role_own, role_other}
use Rattle.address_space.proofs.entries.Staying.{stay_same, places_by}
use Rattle.page_words.specs.FiniteMap as map
use Rattle.page_words.specs.FiniteSet as set

zero_byte : (n k : ℕ) → ◌≡◌ {A = ℕ} (get_or (replicate n 0) k 0) 0
zero_byte zero k = refl
zero_byte (suc n) zero = refl
zero_byte (suc n) (suc k) = zero_byte n k

-- every word of a frame of zeros is 0, and past it too
zero_word : (n i : ℕ) → word_in (replicate n 0) i ≡ 0
unfolding word_at
zero_word n i = grind (arith, get_or-drop, zero_byte)

pub directory_set : (directories : List (Option ℕ)) (p : ℕ) (x : Option ℕ) → p < length directories
    → directory_of (slice_set directories p x) p ≡ x
directory_set directories p x l = ap (λ y. unwrap_or y None) (get-set_same directories p x l)

pub directory_kept : (directories : List (Option ℕ)) (p : ℕ) (x : Option ℕ) (q : ℕ) → q ≢ p
    → directory_of (slice_set directories p x) q ≡ directory_of directories q
directory_kept directories p x q n = ap (λ y. unwrap_or y None) (get-set_other directories p q x n)

-- ---- A blank directory

module _ (D D' : Directories) (m : Frames) (R R' : Roles) (T : Tables D m R) (p f : ℕ) (none : D p ≡ None) (free : R f ≡ Some Free) (blank : m f ≡ replicate 4096 0)
    (own : D' p ≡ Some f) (others : (q : ℕ) → q ≢ p → D' q ≡ D q) (role : R' f ≡ Some (Directory p)) (roles : (g : ℕ) → g ≢ f → R' g ≡ R g) where
  no_table_own : (s : ℕ) → table_in D' m p s ≡ None
  no_table_own s =
      ap (option_and_then (λ d. table_of m d s)) own ∙ (ap word_table (ap (λ l. word_in l s) blank ∙ zero_word 4096 s))

  same_tables : (q s : ℕ) → table_in D' m q s ≡ table_in D m q s
  same_tables q s = grind (arith, cases_eq, no_table_own)

  same_entry : (q : Slot) → entry_in D' m q ≡ entry_in D m q
  same_entry q = entry_by_table D' m q ∙ ap (option_and_then (λ table. word_entry (word_in (m table) (index_number q.page)))) (same_tables q.pid (slot_number q.page)) ∙ sym (entry_by_table D m q)

  same_directory_entries : entries_in D' m ≡ entries_in D m
  unfolding entries_in
  same_directory_entries = same_map _ _ (λ q. get-collect slot_order (entry_in D' m) user_slots q ∙ ap (λ x. cond (list_any (same slot_order q) user_slots) x None) (same_entry q) ∙ sym (get-collect slot_order (entry_in D m) user_slots q))

  tables-directory : Tables D' m R'
  tables-directory = record {
    zero_role = roles 0 (λ is. let a = T.zero_role in let k : R 0 ≡ R f = ap R is in cc) ∙ T.zero_role;
    zero_bytes = T.zero_bytes;
    reserved = λ g is. T.reserved g (sym (roles g (λ same. let k : R' g ≡ R' f = ap R' same in cc)) ∙ is);
    directory = grind (arith, cases_eq);
    directory_back = grind (arith, cases_eq);
    table = λ q s t is. let old : R t ≡ Some (Table q s) = T.table q s t (sym (same_tables q s) ∙ is) in roles t (λ same. let k : R t ≡ R f = ap R same in cc) ∙ old;
    table_back = λ q s t is. same_tables q s ∙ T.table_back q s t (sym (roles t (λ same. let k : R' t ≡ R' f = ap R' same in cc)) ∙ is);
    dir_words = grind (arith, cases_eq, own_word);
    outside = grind (arith, cases_eq, own_word);
    table_words = λ q s t i is l. T.table_words q s t i (sym (same_tables q s) ∙ is) l;
    long = grind (arith, cases_eq);
  }
    where
      own_word : (q d s : ℕ) → q ≡ p → D' q ≡ Some d → dir_word m d s ≡ 0
      own_word q d s same is = let e : Some f ≡ Some d = sym own ∙ ap D' (sym same) ∙ is in let g : f ≡ d = cc in ap (λ x. word_in (m x) s) (sym g) ∙ ap (λ l. word_in l s) blank ∙ zero_word 4096 s

-- ---- A process with a blank directory costs one

no_pages : (D : Directories) (m : Frames) (p page : ℕ) → D p ≡ None → map.get (entries_in D m) (at_page p page) ≡ None
no_pages D m p page none = grind (arith, get-entries_in)

pub empty_cost : (S : Spaces) (p : ℕ) → ((page : ℕ) → map.get S (at_page p page) ≡ None) → cost S p ≡ 1
empty_cost S p none = ap cost_of (same_set (pages_of S p) set.empty (λ page. contains-pages_of S p page ∙ ap is_some (none page)))

-- the costs with a process that has no page, and those of all others
pub total-directory : (directories without : List (Option ℕ)) (S : Spaces) (p d : ℕ) → p < 64
    → directory_of directories p ≡ Some d → directory_of without p ≡ None
    → ((q : ℕ) → q ≢ p → directory_of without q ≡ directory_of directories q) → ((page : ℕ) → map.get S (at_page p page) ≡ None)
    → total_cost directories S ≡ total_cost without S + 1
unfolding total_cost
total-directory directories without S p d few live none others pages =
    sum_one (live_cost (directory_of directories) S) (live_cost (directory_of without) S) p 1 0 64 (omega arith) (omega arith)
    (ap (λ x. if is_some x then cost S p else 0) live ∙ empty_cost S p pages
    ∙ sym (ap (λ x. (if is_some x then cost S p else 0) + 1) none))
    (λ q n. sym (ap (λ x. if is_some x then cost S q else 0) (others q n)))

pub space_added : (directories : List (Option ℕ)) (bytes one : List ℕ) (roles roles' : List Role) (p f : ℕ) → IsSpaces directories bytes roles → p < 64 → directory_of directories p ≡ None
    → 2 + total_cost directories (spaces_in directories bytes) ≤ length roles → IsTaken roles f (Directory p) roles' → frame_bytes one ≡ with_frame (frame_bytes bytes) f (replicate 4096 0) → length one ≡ length bytes
    → SpaceAdded directories p bytes roles (slice_set directories p (Some f)) one roles'
unfolding spaces_in
space_added directories bytes one roles roles' p f s few none room taken is long_one =
    let D : Directories = directory_of directories in
    let directories' : List (Option ℕ) = slice_set directories p (Some f) in
    let D' : Directories = directory_of directories' in
    let m : Frames = frame_bytes bytes in
    let m1 : Frames = with_frame m f (replicate 4096 0) in
    let R : Roles = slice_get roles in
    let R' : Roles = slice_get roles' in
    let sound = s.sound in
    let T : Tables D m R = sound.tables in
    let free : R f ≡ Some Free = taken.was_free in
    let loose : Loose R f = free_loose R f free in
    let Ta : Tables D m1 R = tables-loose D m R T f (replicate 4096 0) loose (length-replicate {A = ℕ} 4096 0) in
    let blank : m1 f ≡ replicate 4096 0 = with_frame-same m f (replicate 4096 0) in
    let l : p < length directories = let n = sound.pids in omega arith in
    let own : D' p ≡ Some f = directory_set directories p (Some f) l in
    let others : (q : ℕ) → q ≢ p → D' q ≡ D q = λ q n. directory_kept directories p (Some f) q n in
    let role : R' f ≡ Some (Directory p) = role_own roles roles' f Free (Directory p) free taken.now in
    let kept : (g : ℕ) → g ≢ f → R' g ≡ R g = role_other roles roles' f (Directory p) taken.now in
    let E : Entries = entries_in D m in
    let E1 : entries_in D' m1 ≡ E = same_directory_entries D D' m1 R R' Ta p f none free blank own others role kept ∙ loose-entries D m R T f (replicate 4096 0) loose in
    let E2 : entries_in D' (frame_bytes one) ≡ E = ap (entries_in D') is ∙ E1 in
    let page_kept : (q : Slot) (x : PageEntry) → map.get E q ≡ Some x → m1 x.frame ≡ m x.frame = λ q x found.
    with_frame-other m f x.frame _ (no_free R x.frame f (sound.pages.pages q x found) free) in
    let spaces : spaces_of (entries_in D' (frame_bytes one)) (frame_bytes one) ≡ spaces_of E m = (λ i. spaces_of (E2 i) (is i)) ∙ same_bytes E m m1 page_kept in
    let same_length : length roles' ≡ length roles = ap length taken.now ∙ length-set roles f (Directory p) in
    let weight : frames_weight roles' ≡ frames_weight roles + 1 = weight-taken roles roles' f (Directory p) taken in
    let pages : (page : ℕ) → map.get (spaces_of E m) (at_page p page) ≡ None = λ page. get-spaces_of E m (at_page p page) ∙ ap (option_map (cell_of E m (at_page p page))) (no_pages D m p page none) in
    let total : total_cost directories' (spaces_of (entries_in D' (frame_bytes one)) (frame_bytes one)) ≡ total_cost directories (spaces_of E m) + 1 = ap (total_cost directories') spaces ∙ total-directory directories' directories (spaces_of E m) p f few own none (λ q n. sym (others q n)) pages in
    let w = s.weighs in
    record {
      after = record {
        sound = record {
          size = long_one ∙ sound.size ∙ ap (λ n. 4096 * n) (sym same_length);
          few = subst (λ n. n ≤ 1048576) (sym same_length) sound.few;
          pids = length-set directories p (Some f) ∙ sound.pids;
          tables = subst (λ x. Tables D' x R') (sym is) (tables-directory D D' m1 R R' Ta p f none free blank own others role kept);
          pages = subst (λ x. Pages x R') (sym E2) (pages-role E R R' f sound.pages (λ h. cc) (λ c h. cc) (λ c h. cc) kept);
        };
        in_use = λ q r t found.
            let back : table_in D m1 q r ≡ Some t = sym (same_tables D D' m1 R R' Ta p f none free blank own others role kept q r) ∙ ap (λ x. table_in D' x q r) (sym is) ∙ found in
            let old : table_in D m q r ≡ Some t = sym (loose-tables D m R T f (replicate 4096 0) loose q r) ∙ back in
            let u = s.in_use q r t old in
            (u.0, u.1, ap (λ y. is_present (word_in y u.0)) ((λ i. is i t) ∙ loose-table D m R T f (replicate 4096 0) loose q r t old) ∙ u.2);
        weighs = let z : lazy_count (entries_in D' (frame_bytes one)) ≡ lazy_count E = ap lazy_count E2 in omega (arith, w, weight, total, z);
        within = omega (arith, room, same_length, total);
      };
      spaces = spaces;
      cost = total;
      live = ap is_some own;
      others = others;
      stay = grind (arith, places_by, stay_same, same_tables, loose-tables);
      entries = λ q. ap (λ x. entry_in D' x q) is
          ∙ same_entry D D' m1 R R' Ta p f none free blank own others role kept q
          ∙ loose-entry D m R T f (replicate 4096 0) loose q;
      length = same_length;
    }

-- where the costs leave room, a frame for a directory is free
pub room_for_directory : (directories : List (Option ℕ)) (bytes : List ℕ) (roles : List Role) → IsSpaces directories bytes roles → 2 + total_cost directories (spaces_in directories bytes) ≤ length roles → 0 < free_frames roles
room_for_directory directories bytes roles s room = let a = s.weighs in let l = free_where_light directories bytes roles s.sound in omega (arith, a, l, room)

-- ---- No space at all

pub no_directory : (n p : ℕ) → directory_of (replicate n None) p ≡ None
no_directory zero p = refl
no_directory (suc n) zero = refl
no_directory (suc n) (suc p) = no_directory n p

free_or_none : (n f : ℕ) (r : Role) → slice_get (replicate n Free) f ≡ Some r → r ≡ Free
free_or_none zero f r h = cc
free_or_none (suc n) zero r h = let e : Free ≡ r = cc in sym e
free_or_none (suc n) (suc f) r h = free_or_none n f r h

-- what each frame is at first
opening_role : (n f : ℕ) (r : Role) → slice_get (opening_roles n) f ≡ Some r → ((f ≡ 0) × (r ≡ Reserved)) ⊎ (r ≡ Free)
unfolding opening_roles
opening_role n f r h = grind (arith, free_or_none)

light : (n : ℕ) → frames_weight (replicate n Free) ≡ 0
light zero = refl
light (suc n) = let s = sum_by-cons weight Free (replicate n Free) in let r = light n in omega (arith, s, r)

opening_weight : (n : ℕ) → 0 < n → frames_weight (opening_roles n) ≡ 1
unfolding opening_roles
opening_weight zero h = absurd (omega arith)
opening_weight (suc n) h = let s = sum_by-cons weight Reserved (replicate n Free) in let r = light n in omega (arith, s, r)

pub opening_length : (n : ℕ) → length (opening_roles n) ≡ n
unfolding opening_roles
opening_length n = length-set (replicate n Free) 0 Reserved ∙ length-replicate {A = Role} n Free

opening_reserved : (n : ℕ) → 0 < n → slice_get (opening_roles n) 0 ≡ Some Reserved
unfolding opening_roles
opening_reserved n h = grind arith

blank_length : (n : ℕ) → length (blank_bytes n) ≡ 4096 * n
unfolding blank_bytes
blank_length n = length-replicate {A = ℕ} (4096 * n) 0

nothing_costs : (D : Directories) (S : Spaces) (a n : ℕ) → ((p : ℕ) → D p ≡ None) → sum_by (live_cost D S) (range_with_len a n) ≡ 0
nothing_costs D S a zero none = refl
nothing_costs D S a (suc n) none = grind (arith, sum_by-cons, nothing_costs D S (a + 1) n none)

pub opening_cost : (S : Spaces) → total_cost (replicate 64 None) S ≡ 0
unfolding total_cost
opening_cost S = nothing_costs (directory_of (replicate 64 None)) S 0 64 (no_directory 64)

opening_entries : (m : Frames) → entries_in (directory_of (replicate 64 None)) m ≡ map.empty
opening_entries m = same_map _ _ (λ q. no_pages (directory_of (replicate 64 None)) m q.pid q.page (no_directory 64 q.pid))

pub opening_spaces : (bytes : List ℕ) → spaces_in (replicate 64 None) bytes ≡ map.empty
unfolding spaces_in
opening_spaces bytes = ap (λ E. spaces_of E (frame_bytes bytes)) (opening_entries (frame_bytes bytes))

pub opening_is_sound : (n : ℕ) → 16 ≤ n → n ≤ 1048576 → IsSpaces (replicate 64 None) (blank_bytes n) (opening_roles n)
opening_is_sound n low high =
    let D : Directories = directory_of (replicate 64 None) in
    let m : Frames = frame_bytes (blank_bytes n) in
    let R : Roles = slice_get (opening_roles n) in
    let long = opening_length n in
    let weight : frames_weight (opening_roles n) ≡ 1 = opening_weight n (omega arith) in
    record {
      sound = record {
        size = (blank_length n) ∙ ap (λ k. 4096 * k) (sym long);
        few = subst (λ k. k ≤ 1048576) (sym long) high;
        pids = refl;
        tables = record {
          zero_role = opening_reserved n (omega arith);
          zero_bytes = frame-blank n 0 (omega arith);
          reserved = λ f is. elim (opening_role n f Reserved is) [ inl h ↦ h.0 | inr h ↦ cc ];
          directory = λ p d is. let a = no_directory 64 p in cc;
          directory_back = λ p d is. elim (opening_role n d (Directory p) is) [ inl h ↦ let e = h.1 in cc | inr h ↦ cc ];
          table = λ p s t is. let a : table_in D m p s ≡ None = ap (option_and_then (λ d. table_of m d s)) (no_directory 64 p) in cc;
          table_back = λ p s t is. elim (opening_role n t (Table p s) is) [ inl h ↦ let e = h.1 in cc | inr h ↦ cc ];
          dir_words = λ p d s is i. let a = no_directory 64 p in absurd (let b : Some d ≡ None = sym is ∙ a in cc);
          outside = λ p d s is i out. let a = no_directory 64 p in absurd (let b : Some d ≡ None = sym is ∙ a in cc);
          table_words = λ p s t i is l. let a : table_in D m p s ≡ None = ap (option_and_then (λ d. table_of m d s)) (no_directory 64 p) in absurd (let b : Some t ≡ None = sym is ∙ a in cc);
          long = λ f r is. let w : f < length (opening_roles n) = slice_get_within (opening_roles n) f r is in ap length (frame-blank n f (omega (arith, w, long))) ∙ length-replicate {A = ℕ} 4096 0;
        };
        pages = record {
          pages = λ slot e found. let a : map.get (entries_in D m) slot ≡ None = ap (λ E. map.get E slot) (opening_entries m) in absurd (let b : Some e ≡ None = sym found ∙ a in cc);
          counts = λ f c is. elim (opening_role n f (Page c) is) [ inl h ↦ absurd (let e = h.1 in cc) | inr h ↦ absurd (cc) ];
        };
      };
      in_use = λ p s t found. let a : table_in D m p s ≡ None = ap (option_and_then (λ d. table_of m d s)) (no_directory 64 p) in absurd (let b : Some t ≡ None = sym found ∙ a in cc);
      weighs = let z : lazy_count (entries_in D m) ≡ 0 = ap lazy_count (opening_entries m) in omega (arith, weight, z);
      within = omega (arith, opening_cost (spaces_in (replicate 64 None) (blank_bytes n)), long, low);
    }

-- a process without a directory has nothing mapped
pub no_cell : (directories : List (Option ℕ)) (bytes : List ℕ) (p page : ℕ) → directory_of directories p ≡ None → map.get (spaces_in directories bytes) (at_page p page) ≡ None
unfolding spaces_in
no_cell directories bytes p page none = grind (arith, get-spaces_of, no_pages)

-- one process costs no more than all together
pub cost_within : (directories : List (Option ℕ)) (S : Spaces) (p : ℕ) → length directories ≡ 64 → is_some (directory_of directories p) ≡ true → cost S p ≤ total_cost directories S
unfolding total_cost
cost_within directories S p long live =
    let few : p < 64 = (grind (arith, live_small)) in
    (omega (arith, (ap (λ b. if b then cost S p else 0) live), (among p 0 64 (omega arith) (omega arith))))
  where
    among : (p a n : ℕ) → a ≤ p → p < a + n → live_cost (directory_of directories) S p ≤ sum_by (live_cost (directory_of directories) S) (range_with_len a n)
    among p a zero low high = absurd (omega arith)
    among p a (suc n) low high = elim (cases_eq p a) [
      | inl same ↦
          let s = sum_by-cons (live_cost (directory_of directories) S) a (range_with_len (a + 1) n) in
          omega (arith, s, ap (live_cost (directory_of directories) S) same)
      | inr differ ↦
          let r = among p (a + 1) n (omega arith) (omega arith) in
          omega (arith, sum_by-cons (live_cost (directory_of directories) S) a (range_with_len (a + 1) n), r)
    ]
