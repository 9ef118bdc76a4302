-- What a copy of a page leaves, and then a copy of all pages of a process.
use Rattle.address_space.proofs.Prelude.{names, Entries, group_of, spaces_of, ◌≡◌, ◌≢◌, ℕ, ◌+◌, ◌<◌, ◌≤◌, true, false, cond, List, length, refl, ap, sym, ◌∙◌, subst, arith, inl, inr, Option, Some, None, length-set, ◌==◌, unwrap_or, option_and_then, option_map, is_some, slice_get, if◌then◌else◌, slot_number, IsUserPage, frame_number, Map, get-insert, same_itself, same_map, same_apart, some_value, frame_bytes, with_frame, with_frame_bytes, with_frame-same, with_frame-other, length-frame, frames-with_frame_bytes, Role, Free, Page, IsTaken, weight-taken, PageEntry, Frames, dir_word, table_of, entry_at, with_entry, is_lazy_entry, Slot, slot_order, Cell, Spaces, cell_or_fresh, copy_of, copied, cost, cost_of, fresh, pages_of, regions_of, at_page, Directories, Roles, directory_of, table_in, entries_in, spaces_in, live_cost, total_cost, Tables, IsSound, IsSpaces, InUseAt, TableGiven, IsEmptySpace, SlotCopied, PageCopied, CopiedBelow, PagesCopied, cases_eq, cases_lt, ne_eqb, eq-eqb, nat_eq_equiv, none_goes}
use Rattle.address_space.proofs.costs.Copied.{get-copied}
use Rattle.address_space.proofs.Lemmas.{Room, mapped, same_pages, total-insert, sum_one, cost-within, Loose, get-entries_in, get-spaces_of, lone_refines, alone_lazy, alone_real, cell_at, mapped_read, in_user_slots, loose-tables, loose-entries, tables-loose, tables-role, use_loose, same_bytes, pages-fresh, pages-lazy, lazy-more, lazy-real, no_free, unused, IsReady, entry_added, inside, live_small, none_before, role_own, role_other, free_loose, page_loose, holds_inside, MapStays, map_kept, get_user, entry_rules, no_cell_outside, no_cell_unmapped, empty_cost, same_entry, read_entry, stay_same, places_by, places_then}
use Rattle.page_words.specs.FiniteMap as map
use Rattle.page_words.specs.FiniteSet as set

-- ---- One page

-- the entry of a copy on this frame
abbrev pub copied_entry : PageEntry → ℕ → PageEntry
copied_entry e f = record e { frame = f; accessed = false; dirty = false }

-- memory and roles that are ready for a new entry at a slot, on a frame of its own with the bytes of an old one
pub record IsCopyReady (directories : List (Option ℕ)) (bytes : List ℕ) (roles : List Role) (d page : ℕ) (slot : Slot) (e : PageEntry) (f : ℕ) (one : List ℕ) (roles' : List Role) : Type 0 where
  pub ready : IsReady directories bytes roles d page slot (copied_entry e f) one roles'
  pub copy : frame_bytes one f ≡ frame_bytes bytes e.frame
  pub alone : group_of (map.insert (entries_in (directory_of directories) (frame_bytes bytes)) slot (copied_entry e f)) slot f ≡ set.insert set.empty slot
  pub apart : (q : Slot) (x : PageEntry) → map.get (entries_in (directory_of directories) (frame_bytes bytes)) q ≡ Some x → (x.frame == 0) ≡ false → (f == x.frame) ≡ false

-- the entry was put in
entry_copied : (directories : List (Option ℕ)) (bytes one two : List ℕ) (roles roles' : List Role) (from source p d page t f : ℕ) (e : PageEntry) → IsSound directories bytes roles
    → directory_of directories from ≡ Some source → directory_of directories p ≡ Some d → 0x40000 ≤ page → page < 0xf0000
    → map.get (spaces_in directories bytes) (at_page p page) ≡ None → table_of (frame_bytes bytes) d (slot_number page) ≡ Some t → entry_at (frame_bytes bytes) source page ≡ Some e
    → IsCopyReady directories bytes roles d page (at_page p page) e f one roles'
    → frame_bytes two ≡ with_entry (frame_bytes one) (frame_number (dir_word (frame_bytes one) d (slot_number page))) page (copied_entry e f) → length two ≡ length one
    → SlotCopied directories from p page bytes roles two roles'
unfolding spaces_in
entry_copied directories bytes one two roles roles' from source p d page t f e sound home live low high unmapped there here ready is_two long_two =
    let D : Directories = directory_of directories in
    let m : Frames = frame_bytes bytes in
    let m2 : Frames = frame_bytes two in
    let e' : PageEntry = copied_entry e f in
    let slot : Slot = at_page p page in
    let given : Slot = at_page from page in
    let E : Entries = entries_in D m in
    let none : map.get E slot ≡ None = none_before E m slot (map.get E slot) (sym (get-spaces_of E m slot) ∙ unmapped) in
    let added = entry_added directories bytes one two roles roles' p d page t e' sound live low high none there ready.ready is_two long_two in
    let own : map.get (map.insert E slot e') slot ≡ Some e' = get-insert E slot e' slot ∙ ap (λ b. cond b (Some e') (map.get E slot)) (same_itself slot_order slot) in
    let copy : m2 f ≡ m e.frame = added.held f (ready.ready.pages.pages slot e' own) ∙ ready.copy in
    let found : map.get E given ≡ Some e = get_user D m from source page e home (live_small directories from source sound.pids home) low high here in
    record {
      slot = added.slot;
      spaces = (λ i. spaces_of (added.entries i) m2) ∙ lone_refines E m2 slot e' (λ g _. ap (names g) none) ready.alone ready.apart
          ∙ (λ i. map.insert (same_bytes E m m2 added.kept i) slot (record { write = e.write; may = e.may; accessed = false; dirty = false; bytes = copy i; holders = set.insert set.empty slot }))
          ∙ sym (ap (λ c. map.insert (spaces_of E m) slot (copy_of slot c)) (cell_at E m given e found));
      entries = (e', added.entries, sym (ap is_lazy_entry (ap (option_and_then (λ x. entry_at m x page)) home ∙ here)));
      linked = added.linked;
    }

-- a lazy page was copied
pub lazy_copied : (directories : List (Option ℕ)) (bytes two : List ℕ) (roles : List Role) (from source p d page t : ℕ) (e : PageEntry) → IsSound directories bytes roles
    → directory_of directories from ≡ Some source → directory_of directories p ≡ Some d → 0x40000 ≤ page → page < 0xf0000
    → map.get (spaces_in directories bytes) (at_page p page) ≡ None → table_of (frame_bytes bytes) d (slot_number page) ≡ Some t → entry_at (frame_bytes bytes) source page ≡ Some e → e.lazy ≡ true
    → frame_bytes two ≡ with_entry (frame_bytes bytes) (frame_number (dir_word (frame_bytes bytes) d (slot_number page))) page (copied_entry e e.frame) → length two ≡ length bytes
    → SlotCopied directories from p page bytes roles two roles
unfolding spaces_in
lazy_copied directories bytes two roles from source p d page t e sound home live low high unmapped there here lazy is_two long_two =
    let m : Frames = frame_bytes bytes in
    let E : Entries = entries_in (directory_of directories) m in
    let slot : Slot = at_page p page in
    let none : map.get E slot ≡ None = none_before E m slot (map.get E slot) (sym (get-spaces_of E m slot) ∙ unmapped) in
    let rules = entry_rules directories bytes roles from source page e sound home here in
    let zero : e.frame ≡ 0 = rules.zero lazy in
    let more = lazy-more E slot (copied_entry e e.frame) none zero in
    entry_copied directories bytes bytes two roles roles from source p d page t e.frame e sound home live low high unmapped there here
    (record {
      ready = grind (arith, pages-lazy);
      copy = refl;
      alone = alone_lazy (map.insert E slot (copied_entry e e.frame)) slot e.frame zero;
      apart = λ q x found real. ap (λ n. n == x.frame) zero ∙ nat_eq_equiv.symm 0 x.frame ∙ real;
    })
    is_two long_two

-- a page that isn't lazy was copied to a frame of its own
pub real_copied : (directories : List (Option ℕ)) (bytes one two : List ℕ) (roles roles' : List Role) (from source p d page t f : ℕ) (e : PageEntry) → IsSound directories bytes roles
    → directory_of directories from ≡ Some source → directory_of directories p ≡ Some d → 0x40000 ≤ page → page < 0xf0000
    → map.get (spaces_in directories bytes) (at_page p page) ≡ None → table_of (frame_bytes bytes) d (slot_number page) ≡ Some t → entry_at (frame_bytes bytes) source page ≡ Some e → e.lazy ≡ false
    → IsTaken roles f (Page 1) roles' → length (frame_bytes bytes e.frame) ≡ 4096 → frame_bytes one ≡ with_frame (frame_bytes bytes) f (frame_bytes bytes e.frame) → length one ≡ length bytes
    → frame_bytes two ≡ with_entry (frame_bytes one) (frame_number (dir_word (frame_bytes one) d (slot_number page))) page (copied_entry e f) → length two ≡ length one
    → SlotCopied directories from p page bytes roles two roles'
unfolding spaces_in
real_copied directories bytes one two roles roles' from source p d page t f e sound home live low high unmapped there here real taken whole is_one long_one is_two long_two =
    let D : Directories = directory_of directories in
    let m : Frames = frame_bytes bytes in
    let new : List ℕ = m e.frame in
    let m1 : Frames = with_frame m f new in
    let E : Entries = entries_in D m in
    let slot : Slot = at_page p page in
    let e' : PageEntry = copied_entry e f in
    let R : Roles = slice_get roles in
    let R' : Roles = slice_get roles' in
    let T : Tables D m R = sound.tables in
    let none : map.get E slot ≡ None = none_before E m slot (map.get E slot) (sym (get-spaces_of E m slot) ∙ unmapped) in
    let rules = entry_rules directories bytes roles from source page e sound home here in
    let free : R f ≡ Some Free = taken.was_free in
    let up : 1 ≤ f = above T free in
    let own : R' f ≡ Some (Page 1) = role_own roles roles' f Free (Page 1) free taken.now in
    let others : (g : ℕ) → g ≢ f → R' g ≡ R g = role_other roles roles' f (Page 1) taken.now in
    let loose : Loose R f = free_loose R f free in
    let Ta : Tables D m1 R = tables-loose D m R T f new loose whole in
    let Tb : Tables D m1 R' = tables-role D m1 R R' f Free Ta free loose (page_loose R' f 1 own) others in
    let apart : (q : Slot) (x : PageEntry) → map.get E q ≡ Some x → x.frame ≢ f = λ q x found. no_free R x.frame f (sound.pages.pages q x found) free in
    let as_many = lazy-real E slot e' none (λ z. omega (arith, z, up)) in
    let table : table_in D m1 p (slot_number page) ≡ table_in D m p (slot_number page) = loose-tables D m R T f new loose p (slot_number page) in
    entry_copied directories bytes one two roles roles' from source p d page t f e sound home live low high unmapped there here
    (record {
      ready = record {
        size = long_one;
        length = (ap length taken.now ∙ length-set roles f (Page 1));
        small = (inside directories bytes roles f Free sound free).small;
        tables = subst (λ x. Tables D x R') (sym is_one) Tb;
        pages = pages-fresh E R R' slot e' sound.pages none free own others;
        entries = ap (entries_in D) is_one ∙ loose-entries D m R T f new loose;
        table = ap (λ x. table_of x d (slot_number page)) is_one ∙ sym (ap (option_and_then (λ x. table_of m1 x (slot_number page))) live) ∙ table ∙ ap (option_and_then (λ x. table_of m x (slot_number page))) live;
        rules = record { frame = λ _. up; zero = λ h. cc; clean = λ h. refl; right = rules.right; touched = λ h. cc };
        kept = λ q x found. (λ i. is_one i x.frame) ∙ with_frame-other m f x.frame new (apart q x found);
        weight = omega (arith, weight-taken roles roles' f (Page 1) taken, as_many);
        used = λ q r u. subst (λ x. InUseAt D x q r) (sym is_one) (use_loose D m R T f new loose q r u);
        linked = λ q r. ap (λ x. table_in D x q r) is_one ∙ loose-tables D m R T f new loose q r;
      };
      copy = (λ i. is_one i f) ∙ with_frame-same m f new;
      alone = alone_real E slot e' (unused E R f sound.pages free) (ne_eqb f 0 (λ z. omega (arith, z, up)));
      apart = λ q x found _. ne_eqb f x.frame (λ same. apart q x found (sym same));
    })
    is_two long_two
  where
    above : Tables (directory_of directories) (frame_bytes bytes) (slice_get roles) → slice_get roles f ≡ Some Free → 1 ≤ f
    above T free = let n : f ≢ 0 = (λ is. let a = T.zero_role in let k : slice_get roles 0 ≡ slice_get roles f = ap (slice_get roles) (sym is) in cc) in omega arith

-- what a copy of a page's frame to a free one leaves of a page map
pub record FrameCopied (directories : List (Option ℕ)) (bytes one : List ℕ) (d f g : ℕ) : Type 0 where
  pub whole : length (frame_bytes bytes g) ≡ 4096
  pub is : frame_bytes one ≡ with_frame (frame_bytes bytes) f (frame_bytes bytes g)
  pub kept : MapStays one bytes d

pub frame_copied : (directories : List (Option ℕ)) (bytes one : List ℕ) (roles : List Role) (from source p d page f : ℕ) (e : PageEntry) → IsSound directories bytes roles
    → directory_of directories from ≡ Some source → directory_of directories p ≡ Some d → 0x40000 ≤ page → page < 0xf0000 → entry_at (frame_bytes bytes) source page ≡ Some e → slice_get roles f ≡ Some Free
    → one ≡ with_frame_bytes bytes f (frame_bytes bytes e.frame) → length one ≡ length bytes → FrameCopied directories bytes one d f e.frame
frame_copied directories bytes one roles from source p d page f e sound home live low high here free is long =
    let there = get_user (directory_of directories) (frame_bytes bytes) from source page e home (live_small directories from source sound.pids home) low high here in
    let fits = (holds_inside directories bytes roles e.frame sound (sound.pages.pages (at_page from page) e there)).fits in
    let whole : length (frame_bytes bytes e.frame) ≡ 4096 = length-frame bytes e.frame fits in
    let now : frame_bytes one ≡ with_frame (frame_bytes bytes) f (frame_bytes bytes e.frame) = ap frame_bytes is ∙ frames-with_frame_bytes bytes (frame_bytes bytes e.frame) f (inside directories bytes roles f Free sound free).fits whole in
    record { whole = whole; is = now; kept = map_kept directories bytes one roles p d f (frame_bytes bytes e.frame) sound live (free_loose (slice_get roles) f free) whole now long }

-- the entry of a page, as the map of all entries has it
seen : (directories : List (Option ℕ)) (bytes : List ℕ) (p d page : ℕ) → length directories ≡ 64 → directory_of directories p ≡ Some d → 0x40000 ≤ page → page < 0xf0000
    → map.get (entries_in (directory_of directories) (frame_bytes bytes)) (at_page p page) ≡ entry_at (frame_bytes bytes) d page
seen directories bytes p d page long live low high = grind (arith, get-entries_in, in_user_slots, live_small)

-- an entry stays where all entries do
pub entry_stays : (directories : List (Option ℕ)) (bytes bytes1 : List ℕ) (p d page : ℕ) → length directories ≡ 64 → directory_of directories p ≡ Some d → 0x40000 ≤ page → page < 0xf0000
    → entries_in (directory_of directories) (frame_bytes bytes1) ≡ entries_in (directory_of directories) (frame_bytes bytes) → entry_at (frame_bytes bytes1) d page ≡ entry_at (frame_bytes bytes) d page
entry_stays directories bytes bytes1 p d page long live low high same_entries = grind (arith, seen)

-- a page was copied, for which a table was given first
pub page_copied : (directories : List (Option ℕ)) (bytes bytes1 bytes2 : List ℕ) (roles roles1 roles2 : List Role) (from source to page : ℕ) → IsSpaces directories bytes roles → directory_of directories from ≡ Some source
    → 0x40000 ≤ page → page < 0xf0000 → Room directories (spaces_in directories bytes) roles to page
    → TableGiven directories to (slot_number page) bytes roles bytes1 roles1 → SlotCopied directories from to page bytes1 roles1 bytes2 roles2 → PageCopied directories from to page bytes roles bytes2 roles2
page_copied directories bytes bytes1 bytes2 roles roles1 roles2 from source to page s home low high room given made =
    let D : Directories = directory_of directories in
    let slot : Slot = at_page to page in
    let stays = entry_stays directories bytes bytes1 from source page s.sound.pids home low high given.entries in
    record {
      after = mapped directories bytes bytes1 bytes2 roles roles1 roles2 to page s room given made.slot;
      spaces = made.spaces ∙ ap (λ x. map.insert x slot (copy_of slot (cell_or_fresh x (at_page from page)))) given.spaces;
      entries = grind arith;
      stay = places_then none_goes D (frame_bytes bytes) D (frame_bytes bytes1) D (frame_bytes bytes2)
          (places_by none_goes D (frame_bytes bytes) D (frame_bytes bytes1)
          (stay_same none_goes (entries_in D (frame_bytes bytes)) (entries_in D (frame_bytes bytes1)) given.entries)
          given.tables) made.slot.stay;
      tables = λ q r t found. made.linked q r ∙ given.tables q r t found;
      length = made.slot.length ∙ given.length;
    }

-- ---- All pages of a process, from the lowest on

-- what was put at a slot stands there, and at the others what stood there
put_here : {X : Type 0} (m : Map slot_order X) (slot : Slot) (x : X) → map.get (map.insert m slot x) slot ≡ Some x
put_here m slot x = get-insert m slot x slot ∙ ap (λ b. cond b (Some x) (map.get m slot)) (same_itself slot_order slot)

pub put_other : {X : Type 0} (m : Map slot_order X) (slot : Slot) (x : X) (q : Slot) → q ≢ slot → map.get (map.insert m slot x) q ≡ map.get m q
put_other m slot x q n = get-insert m slot x q ∙ ap (λ b. cond b (Some x) (map.get m q)) (same_apart slot_order q slot n)

-- a slot that isn't mapped has no entry
no_entry : (directories : List (Option ℕ)) (bytes : List ℕ) (q : Slot) → map.get (spaces_in directories bytes) q ≡ None → map.get (entries_in (directory_of directories) (frame_bytes bytes)) q ≡ None
unfolding spaces_in
no_entry directories bytes q none = grind (arith, none_before, get-spaces_of)

pub copied_at_first : (directories : List (Option ℕ)) (bytes : List ℕ) (roles : List Role) (from to : ℕ) → IsSpaces directories bytes roles → IsEmptySpace (spaces_in directories bytes) to → CopiedBelow directories from to 0x40000 bytes roles bytes roles
copied_at_first directories bytes roles from to s empty = record {
  after = s;
  others = λ q n. refl;
  below = λ page l. empty page ∙ sym (ap (option_map (copy_of (at_page to page))) (no_cell_outside directories bytes roles from page s.sound (inl l)));
  rest = λ page l. empty page;
  other_entries = λ q n. refl;
  stay = grind (arith, places_by, stay_same);
  lazy = λ page l. ap is_lazy_entry (no_entry directories bytes (at_page to page) (empty page)) ∙ sym (ap is_lazy_entry (no_entry directories bytes (at_page from page) (no_cell_outside directories bytes roles from page s.sound (inl l))));
  length = refl;
  low = omega arith;
  high = omega arith;
}

-- pages that aren't mapped are passed over
pub copied_over : (directories : List (Option ℕ)) (bytes one : List ℕ) (roles roles1 : List Role) (from to next beyond : ℕ) → CopiedBelow directories from to next bytes roles one roles1
    → next ≤ beyond → beyond ≤ 0xf0000 → ((page : ℕ) → next ≤ page → page < beyond → map.get (spaces_in directories bytes) (at_page from page) ≡ None)
    → CopiedBelow directories from to beyond bytes roles one roles1
copied_over directories bytes one roles roles1 from to next beyond so_far up high unmapped =
    record {
      after = so_far.after;
      others = so_far.others;
      below = grind (arith, cases_lt, unmapped);
      rest = λ page l. so_far.rest page (omega (arith, up, l));
      other_entries = so_far.other_entries;
      stay = so_far.stay;
      lazy = grind (arith, cases_lt, no_entry, unmapped);
      length = so_far.length;
      low = omega (arith, so_far.low, up);
      high = high;
    }

-- so it is with pages without an entry
pub copied_past : (directories : List (Option ℕ)) (bytes one : List ℕ) (roles roles1 : List Role) (from source to next beyond : ℕ) → IsEmptySpace (spaces_in directories bytes) to → CopiedBelow directories from to next bytes roles one roles1
    → directory_of directories from ≡ Some source → next ≤ beyond → beyond ≤ 0xf0000 → ((page : ℕ) → next ≤ page → page < beyond → entry_at (frame_bytes one) source page ≡ None)
    → CopiedBelow directories from to beyond bytes roles one roles1
copied_past directories bytes one roles roles1 from source to next beyond empty so_far home up high none =
    copied_over directories bytes one roles roles1 from to next beyond so_far up high unmapped
  where
    unmapped : (page : ℕ) → next ≤ page → page < beyond → map.get (spaces_in directories bytes) (at_page from page) ≡ None
    unmapped page above less = elim (cases_eq from to) [
      | inl same ↦ ap (λ n. map.get (spaces_in directories bytes) (at_page n page)) same ∙ empty page
      | inr differ ↦ sym (so_far.others (at_page from page) differ) ∙ no_cell_unmapped directories one from source page home (none page above less)
    ]

module _ (directories : List (Option ℕ)) (bytes one : List ℕ) (roles roles1 : List Role) (from source to target page : ℕ) (so_far : CopiedBelow directories from to page bytes roles one roles1)
    (home : directory_of directories from ≡ Some source) (live : directory_of directories to ≡ Some target) (user : IsUserPage page) (here : is_some (entry_at (frame_bytes one) source page) ≡ true) where
  abbrev pub S : Spaces
  S = spaces_in directories bytes

  abbrev pub S1 : Spaces
  S1 = spaces_in directories one

  abbrev pub slot : Slot
  slot = at_page to page

  mapped_there : is_some (map.get S1 (at_page from page)) ≡ true
  mapped_there = grind (arith, mapped_read, live_small)

  -- a process with a page to copy is another one than that without any
  apart : from ≢ to
  apart same = let a = mapped_there in let b = so_far.rest page (omega arith) in let k : map.get S1 (at_page from page) ≡ None = ap (λ n. map.get S1 (at_page n page)) same ∙ b in let l : false ≡ true = sym (ap is_some k) ∙ a in cc

  cell : (c : Cell) × (map.get S1 (at_page from page) ≡ Some c)
  cell = some_value (map.get S1 (at_page from page)) mapped_there

  was : map.get S (at_page from page) ≡ Some cell.0
  was = sym (so_far.others (at_page from page) apart) ∙ cell.1

  abbrev pub more : Cell → Spaces
  more c = map.insert S1 slot c

  other_page : (other : ℕ) → other ≢ page → at_page to other ≢ slot
  other_page other n e = n (ap (λ (q : Slot). q.page) e)

  other_process : (q : Slot) → q.pid ≢ to → q ≢ slot
  other_process q n e = n (ap (λ (q : Slot). q.pid) e)

  -- a page that has a copy has been there to be copied
  copied_from : (c : Cell) (other : ℕ) → map.contains_key (more c) (at_page to other) ≡ true → map.contains_key S (at_page from other) ≡ true
  copied_from c other h = elim (cases_eq other page) [
    | inl same ↦ ap (λ n. map.contains_key S (at_page from n)) same ∙ ap is_some was
    | inr differ ↦ grind (arith, put_other, other_page, cases_lt)
  ]

  -- what all processes cost with one page more of that one
  total_grown : IsEmptySpace S to → to < 64 → (c : Cell) → total_cost directories (more c) + 1 ≡ total_cost directories S + cost (more c) to
  unfolding total_cost
  total_grown empty few c =
      let pages : ℕ = set.len (regions_of (pages_of (more c) to)) + set.len (pages_of (more c) to) in
      let own : cost (more c) to ≡ cost S to + pages = omega (arith, empty_cost S to empty) in
      let e = sum_one (live_cost (directory_of directories) (more c)) (live_cost (directory_of directories) S) to pages 0 64 (omega arith) (omega (arith, few))
      (ap (λ x. if is_some x then cost (more c) to else 0) live ∙ own ∙ sym (ap (λ x. (if is_some x then cost S to else 0) + pages) live))
      (λ q n. ap (λ k. if is_some (directory_of directories q) then k else 0) (ap cost_of (same_pages (more c) S q q (λ other. ap is_some (put_other S1 slot c (at_page q other) (other_process (at_page q other) n) ∙ so_far.others (at_page q other) n))))) in
      omega (arith, e)

  -- the costs leave room for a copy of this page
  pub room_for_copy : IsSpaces directories bytes roles → IsEmptySpace S to → cost S from + total_cost directories S ≤ length roles → Room directories S1 roles1 to page
  room_for_copy s empty room =
      let c : Cell = cell.0 in
      let few : to < 64 = live_small directories to target s.sound.pids live in
      let b = total_grown empty few c in
      let d = cost-within S (more c) from to (copied_from c) in
      let n = so_far.length in
      omega (arith, total-insert directories S1 slot c target few live (so_far.rest page (omega arith)), b, d, n, room)

  pub copied_next : (two : List ℕ) (roles2 : List Role) → PageCopied directories from to page one roles1 two roles2 → CopiedBelow directories from to (page + 1) bytes roles two roles2
  copied_next two roles2 made =
      record {
        after = made.after;
        others = λ q n. ap (λ x. map.get x q) made.spaces ∙ put_other S1 slot copy q (other_process q n) ∙ so_far.others q n;
        below = λ other l. ap (λ x. map.get x (at_page to other)) made.spaces ∙ elim (cases_eq other page) [
          | inl same ↦ ap (λ n. map.get (more copy) (at_page to n)) same ∙ put_here S1 slot copy ∙ sym (ap (λ n. option_map (copy_of (at_page to n)) (map.get S (at_page from n))) same ∙ ap (option_map (copy_of slot)) was ∙ ap (λ x. Some (copy_of slot x)) (sym (ap (λ x. unwrap_or x (fresh (at_page from page) true)) cell.1)))
          | inr differ ↦ put_other S1 slot copy (at_page to other) (other_page other differ) ∙ so_far.below other (omega (arith, l, differ))
        ];
        rest = λ other l. ap (λ x. map.get x (at_page to other)) made.spaces ∙ put_other S1 slot copy (at_page to other) (other_page other (λ same. omega (arith, l, same))) ∙ so_far.rest other (omega (arith, l));
        other_entries = λ q n. ap (λ x. map.get x q) made.entries.1 ∙ put_other E1 slot made.entries.0 q (other_process q n) ∙ so_far.other_entries q n;
        stay = places_then none_goes (directory_of directories) (frame_bytes bytes) (directory_of directories)
            (frame_bytes one) (directory_of directories) (frame_bytes two) so_far.stay made.stay;
        lazy = λ other l. ap (λ x. is_lazy_entry (map.get x (at_page to other))) made.entries.1 ∙ elim (cases_eq other page) [
          | inl same ↦ grind (arith, E1, put_here, seen, apart, E)
          | inr differ ↦ ap is_lazy_entry (put_other E1 slot made.entries.0 (at_page to other) (other_page other differ)) ∙ so_far.lazy other (omega (arith, l, differ))
        ];
        length = made.length ∙ so_far.length;
        low = omega (arith, so_far.low);
        high = omega (arith, user.1);
      }
    where
      E : Entries
      E = entries_in (directory_of directories) (frame_bytes bytes)

      E1 : Entries
      E1 = entries_in (directory_of directories) (frame_bytes one)

      copy : Cell
      copy = copy_of slot (cell_or_fresh S1 (at_page from page))

pub copied_at_last : (directories : List (Option ℕ)) (bytes one : List ℕ) (roles roles1 : List Role) (from to : ℕ) → IsSpaces directories bytes roles
    → CopiedBelow directories from to 0xf0000 bytes roles one roles1 → PagesCopied directories from to bytes roles one roles1
copied_at_last directories bytes one roles roles1 from to s so_far = record {
  after = so_far.after;
  spaces = same_map S1 (copied S from to) (λ q. (grind (arith, S1, cases_lt, unmapped, S, eq-eqb, ne_eqb))
      ∙ sym (get-copied S from to q));
  lazy = λ page.
      ap is_lazy_entry (same_entry directories one roles1 so_far.after.sound (at_page to page) ∙ sym (read_entry directories one roles1 so_far.after.sound (at_page to page)))
      ∙ (grind (arith, cases_lt, no_entry, unmapped))
      ∙ ap is_lazy_entry (read_entry directories bytes roles s.sound (at_page from page) ∙ sym (same_entry directories bytes roles s.sound (at_page from page)));
  stay = so_far.stay;
  length = so_far.length;
}
  where
    S : Spaces
    S = spaces_in directories bytes

    S1 : Spaces
    S1 = spaces_in directories one

    E : Entries
    E = entries_in (directory_of directories) (frame_bytes bytes)

    E1 : Entries
    E1 = entries_in (directory_of directories) (frame_bytes one)

    -- no page behind the user range is there to be copied
    unmapped : (page : ℕ) → 0xf0000 ≤ page → map.get S (at_page from page) ≡ None
    unmapped page past = no_cell_outside directories bytes roles from page s.sound (inr past)
