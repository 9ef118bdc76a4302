-- A page that gets an entry: its table, which may be linked for it, the count of the table, and the entry.
use Rattle.address_space.proofs.Prelude.{◌≡◌, ℕ, ◌+◌, ◌*◌, ◌^◌, ◌<◌, ◌≤◌, Bool, false, List, length, refl, ap, sym, ◌∙◌, subst, arith, inl, inr, Option, Some, None, ◌≢◌, true, length-set, is_some, slice_get, slice_set, option_and_then, slot_number, IsUserPage, frame_number, frame_bytes, Role, Page, free_frames, IsPageBelow, frames_weight, PageEntry, Frames, dir_word, table_of, entry_at, with_entry, Slot, at_page, fresh, cell_or_fresh, copy_of, joined, directory_of, table_in, entries_in, spaces_in, Roles, IsSound, IsSpaces, Names, Inside, Tables, IsCounted, AreCountedSpaces, KeepsCounts, AlwaysMapsAlike, MapsOneMore, region_pages, pages_under, TableGiven, SlotAdded, PageAdded, SlotJoined, SlotCopied, PageCopied, weight-set, Entries, spaces_of, some_value, ne_eqb, TableGot, TableReady, TakesPage, CountedUp, EntryCopied}
use Rattle.address_space.proofs.Lemmas.{Room, room_for_page, mapped, counted_roles, table_counted, table_count, count_there, count_fits, page_counted, region_more, one_inserted, alike_taken, page_map_of, inside, table_by_word, table_given, table_given_there, lazy_entry, page_added, page_loose, none_before, role_own, role_other, entry_added, HasPage, page_of_name, count_few, key-joined, tables-role, same_bytes, pages-join, lazy-real, get-spaces_of, join_refines}
use Rattle.address_space.proofs.steps.Copies.{copied_entry, lazy_copied, real_copied, frame_copied, entry_stays, page_copied}
use Rattle.page_words.specs.FiniteMap as map

-- ---- What a slot that joins a group leaves.

pub slot_joined : (directories : List (Option ℕ)) (bytes two : List ℕ) (roles roles' : List Role) (giver giver_page p d page f c : ℕ) (right : Bool) → IsSound directories bytes roles → directory_of directories p ≡ Some d
    → 0x40000 ≤ page → page < 0xf0000 → map.get (spaces_in directories bytes) (at_page p page) ≡ None → is_some (table_of (frame_bytes bytes) d (slot_number page)) ≡ true
    → Names (entries_in (directory_of directories) (frame_bytes bytes)) (at_page giver giver_page) f → slice_get roles f ≡ Some (Page c) → roles' ≡ slice_set roles f (Page (c + 1))
    → frame_bytes two ≡ with_entry (frame_bytes bytes) (frame_number (dir_word (frame_bytes bytes) d (slot_number page))) page (record { frame = f; write = right; may = right; accessed = false; dirty = false; lazy = false }) → length two ≡ length bytes
    → SlotJoined directories giver giver_page p page right bytes roles two roles'
unfolding spaces_in
slot_joined directories bytes two roles roles' giver giver_page p d page f c right sound live low high unmapped table given role now is_two long_two =
    let m : Frames = frame_bytes bytes in
    let R' : Roles = slice_get roles' in
    let slot : Slot = at_page p page in
    let e : PageEntry = record { frame = f; write = right; may = right; accessed = false; dirty = false; lazy = false } in
    let E : Entries = entries_in (directory_of directories) m in
    let at = some_value (table_of m d (slot_number page)) table in
    let own : R' f ≡ Some (Page (c + 1)) = role_own roles roles' f (Page c) (Page (c + 1)) role now in
    let others : (g : ℕ) → g ≢ f → R' g ≡ slice_get roles g = role_other roles roles' f (Page (c + 1)) now in
    let none : map.get E slot ≡ None = none_before E m slot (map.get E slot) (sym (get-spaces_of E m slot) ∙ unmapped) in
    let named : e ≡ record e { frame = given.0.frame } = (λ i. record e { frame = sym given.2 i }) in
    let up : 1 ≤ f = above sound.tables in
    let as_many = lazy-real E slot e none (λ z. omega (arith, z, up)) in
    let added = entry_added directories bytes bytes two roles roles' p d page at.0 e sound live low high none at.1 (record {
      size = refl;
      length = (ap length now ∙ length-set roles f (Page (c + 1)));
      small = (inside directories bytes roles f (Page c) sound role).small;
      tables = tables-role (directory_of directories) m (slice_get roles) R' f (Page c) sound.tables role (page_loose (slice_get roles) f c role) (page_loose R' f (c + 1) own) others;
      pages = pages-join E (slice_get roles) R' slot e c sound.pages none role own others;
      entries = refl;
      table = refl;
      rules = record { frame = λ _. up; zero = λ h. cc; clean = λ h. cc; right = λ h. h; touched = λ h. h };
      kept = λ q x found. refl;
      weight = omega (arith, weight-set roles f (Page c) (Page (c + 1)) role, ap frames_weight now, as_many);
      used = λ q r u. u;
      linked = λ q r. refl;
    }) is_two long_two in
    record {
      slot = added.slot;
      spaces = (λ i. spaces_of (added.entries i) (frame_bytes two)) ∙ (λ i. spaces_of (map.insert E slot (named i)) (frame_bytes two))
          ∙ join_refines E (frame_bytes two) (at_page giver giver_page) slot given.0 right given.1 (ne_eqb given.0.frame 0 (λ z. let s = given.2 in omega (arith, z, s, up))) none
          ∙ ap (λ x. joined x (at_page giver giver_page) slot right) (same_bytes E m (frame_bytes two) added.kept);
    }
  where
    above : Tables (directory_of directories) (frame_bytes bytes) (slice_get roles) → 1 ≤ f
    above T = let n : f ≢ 0 = (λ z. let a = T.zero_role in let r = role in let k : slice_get roles 0 ≡ slice_get roles f = ap (slice_get roles) (sym z) in cc) in omega arith

-- an entry that was written into a table, by the directory's word that leads to it
pub entry_by_word : (m two : Frames) (d page t : ℕ) (e : PageEntry) → table_of m d (slot_number page) ≡ Some t → two ≡ with_entry m t page e → two ≡ with_entry m (frame_number (dir_word m d (slot_number page))) page e
entry_by_word m two d page t e there is = is ∙ sym (ap (λ x. with_entry m x page e) (table_by_word (dir_word m d (slot_number page)) t there))

-- nothing has to be linked where a table is there
table_stays : (directories : List (Option ℕ)) (bytes : List ℕ) (roles : List Role) (p d s t : ℕ) → IsSound directories bytes roles → directory_of directories p ≡ Some d → table_of (frame_bytes bytes) d s ≡ Some t
    → TableGiven directories p s bytes roles bytes roles
table_stays directories bytes roles p d s t sound live there =
    let named : table_in (directory_of directories) (frame_bytes bytes) p s ≡ Some t = ap (option_and_then (λ x. table_of (frame_bytes bytes) x s)) live ∙ there in
    grind arith

-- what is known once a page's table is there
record Ready (directories : List (Option ℕ)) (bytes : List ℕ) (roles : List Role) (p d page t : ℕ) (one : List ℕ) (roles1 : List Role) : Type 0 where
  given : TableGiven directories p (slot_number page) bytes roles one roles1
  there : table_of (frame_bytes one) d (slot_number page) ≡ Some t
  counted : KeepsCounts (spaces_in directories bytes) roles (spaces_in directories one) roles1

module _ (directories : List (Option ℕ)) (bytes : List ℕ) (roles : List Role) (p d page t : ℕ) (one : List ℕ) (roles1 : List Role) (before : IsSpaces directories bytes roles) (user : IsUserPage page) (live : directory_of directories p ≡ Some d) where
  low : 256 ≤ slot_number page
  low = let h = user.0 in omega (arith, h)

  high : slot_number page < 960
  high = let h = user.1 in omega (arith, h)

  ready : TableReady bytes roles p d (slot_number page) t one roles1 → Ready directories bytes roles p d page t one roles1
  ready (inl s) =
      subst (λ b. Ready directories bytes roles p d page t b roles1) (sym s.same_bytes)
      (subst (λ r. Ready directories bytes roles p d page t bytes r) (sym s.same_roles)
      (record { given = table_stays directories bytes roles p d (slot_number page) t before.sound live s.there; there = s.there; counted = λ counts is. is }))
  ready (inr n) =
      let given = table_given directories bytes one roles roles1 p d (slot_number page) t before.sound live low high n.none n.taken n.linked n.long in
      record {
        given = given;
        there = ap (λ x. option_and_then (λ y. table_of (frame_bytes one) y (slot_number page)) x) (sym live) ∙ table_given_there directories bytes one roles roles1 p d (slot_number page) t before.sound live low high n.none n.taken n.linked;
        counted = table_counted directories bytes one roles roles1 p d (slot_number page) t before.sound live low high n.none n.taken given.spaces;
      }

  module _ (linked : TableReady bytes roles p d (slot_number page) t one roles1) where
    pub ready_given : TableGiven directories p (slot_number page) bytes roles one roles1
    ready_given = (ready linked).given

    pub ready_table : table_of (frame_bytes one) d (slot_number page) ≡ Some t
    ready_table = (ready linked).there

    -- the table lies in memory
    pub ready_inside : 4096 * t + 4096 ≤ length one
    ready_inside = (page_map_of directories one roles1 p d ready_given.sound live).tables_inside (slot_number page) t (let h = high in omega (arith, h)) ready_table

    ready_unmapped : map.get (spaces_in directories bytes) (at_page p page) ≡ None → map.get (spaces_in directories one) (at_page p page) ≡ None
    ready_unmapped none = ap (λ x. map.get x (at_page p page)) ready_given.spaces ∙ none

    -- a page of zeros
    pub zero_added : (write : Bool) (two : List ℕ) → map.get (spaces_in directories bytes) (at_page p page) ≡ None → frame_bytes two ≡ with_entry (frame_bytes one) t page (lazy_entry write) → length two ≡ length one
        → PageAdded directories p page write one roles1 two roles1
    zero_added write two none is long =
        page_added directories one two roles1 p d page t write ready_given.sound live user.0 user.1 (ready_unmapped none) ready_table
        (entry_by_word (frame_bytes one) (frame_bytes two) d page t (lazy_entry write) ready_table is) long

    pub zero_more : (write : Bool) (two : List ℕ) → map.get (spaces_in directories bytes) (at_page p page) ≡ None → PageAdded directories p page write one roles1 two roles1
        → MapsOneMore (spaces_in directories one) (at_page p page) (spaces_in directories two)
    zero_more write two none added =
        one_inserted (spaces_in directories one) (spaces_in directories two) (at_page p page) (fresh (at_page p page) write) (ready_unmapped none) (λ q. ap (λ x. map.contains_key x q) added.spaces)

    -- a page on the frame of another
    pub ready_names : (slot : Slot) (f : ℕ) → Names (entries_in (directory_of directories) (frame_bytes bytes)) slot f → Names (entries_in (directory_of directories) (frame_bytes one)) slot f
    ready_names slot f = subst (λ E. Names E slot f) (sym ready_given.entries)

    pub ready_page : (slot : Slot) (f : ℕ) → Names (entries_in (directory_of directories) (frame_bytes bytes)) slot f → 1 ≤ f → HasPage roles1 f
    ready_page slot f named up = page_of_name directories one roles1 slot f ready_given.sound (ready_names slot f named) up

    pub ready_below : (slot : Slot) (f : ℕ) → Names (entries_in (directory_of directories) (frame_bytes bytes)) slot f → 1 ≤ f → IsPageBelow roles1 f 4294967295
    ready_below slot f named up =
        let r = ready_page slot f named up in
        record { count = r.count; page = r.page; below = count_few (directory_of directories) (frame_bytes one) (slice_get roles1) f r.count ready_given.sound.pages r.page }

    pub ready_small : (slot : Slot) (f : ℕ) → Names (entries_in (directory_of directories) (frame_bytes bytes)) slot f → 1 ≤ f → f < 2 ^ 20
    ready_small slot f named up = let r = ready_page slot f named up in (inside directories one roles1 f (Page r.count) ready_given.sound r.page).small

    pub holder_added : (giver giver_page f c : ℕ) (right : Bool) (two : List ℕ) (roles2 : List Role) → map.get (spaces_in directories bytes) (at_page p page) ≡ None
        → Names (entries_in (directory_of directories) (frame_bytes bytes)) (at_page giver giver_page) f → slice_get roles1 f ≡ Some (Page c) → roles2 ≡ slice_set roles1 f (Page (c + 1))
        → frame_bytes two ≡ with_entry (frame_bytes one) t page (record { frame = f; write = right; may = right; accessed = false; dirty = false; lazy = false }) → length two ≡ length one
        → SlotJoined directories giver giver_page p page right one roles1 two roles2
    holder_added giver giver_page f c right two roles2 none named role now is long =
        slot_joined directories one two roles1 roles2 giver giver_page p d page f c right ready_given.sound live user.0 user.1 (ready_unmapped none) (ap is_some ready_table) (ready_names (at_page giver giver_page) f named) role now
        (entry_by_word (frame_bytes one) (frame_bytes two) d page t (record { frame = f; write = right; may = right; accessed = false; dirty = false; lazy = false }) ready_table is) long

    pub holder_more : (giver giver_page : ℕ) (right : Bool) (two : List ℕ) (roles2 : List Role) → map.get (spaces_in directories bytes) (at_page p page) ≡ None → SlotJoined directories giver giver_page p page right one roles1 two roles2
        → MapsOneMore (spaces_in directories one) (at_page p page) (spaces_in directories two)
    holder_more giver giver_page right two roles2 none joined =
        let S = spaces_in directories one in
        let slot = at_page p page in
        one_inserted S (spaces_in directories two) slot (cell_or_fresh S slot) (ready_unmapped none) (λ q. ap (λ x. map.contains_key x q) joined.spaces ∙ key-joined S (at_page giver giver_page) slot right (cell_or_fresh S slot) q)

    pub ready_lies : (f : ℕ) → Inside bytes f → Inside one f
    ready_lies f lies = record { fits = subst (λ n. 4096 * f + 4096 ≤ n) (sym (grind arith)) lies.fits; small = lies.small }

    pub ready_free : Room directories (spaces_in directories bytes) roles p page → 0 < free_frames roles1
    ready_free room = room_for_page directories bytes one roles roles1 p page before room ready_given

    module _ (from source : ℕ) (e e' : PageEntry) (one2 two : List ℕ) (roles2 : List Role) (home : directory_of directories from ≡ Some source) (here : entry_at (frame_bytes bytes) source page ≡ Some e)
        (none : map.get (spaces_in directories bytes) (at_page p page) ≡ None) (made : EntryCopied one roles1 e e' one2 roles2) where
      here1 : entry_at (frame_bytes one) source page ≡ Some e
      here1 = entry_stays directories bytes one from source page before.sound.pids home user.0 user.1 ready_given.entries ∙ here

      pub copy_added : frame_bytes two ≡ with_entry (frame_bytes one2) t page e' → length two ≡ length one2 → SlotCopied directories from p page one roles1 two roles2
      copy_added is long = by made
        where
          by : EntryCopied one roles1 e e' one2 roles2 → SlotCopied directories from p page one roles1 two roles2
          by (inl s) =
              subst (λ r. SlotCopied directories from p page one roles1 two r) (sym s.same_roles)
              (lazy_copied directories one two roles1 from source p d page t e ready_given.sound home live user.0 user.1 (ready_unmapped none) ready_table here1 s.lazy
              (entry_by_word (frame_bytes one) (frame_bytes two) d page t (copied_entry e e.frame) ready_table (is ∙ (λ i. with_entry (frame_bytes (s.same_bytes i)) t page (s.entry i))))
              (long ∙ ap length s.same_bytes))
          by (inr c) =
              let copied = frame_copied directories one one2 roles1 from source p d page c.frame e ready_given.sound home live user.0 user.1 here1 c.taken.was_free c.copy c.long in
              real_copied directories one one2 two roles1 roles2 from source p d page t c.frame e ready_given.sound home live user.0 user.1 (ready_unmapped none) ready_table here1 c.real c.taken copied.whole copied.is c.long
              (entry_by_word (frame_bytes one2) (frame_bytes two) d page t (copied_entry e c.frame) (copied.kept.tables (slot_number page) ∙ ready_table) (is ∙ ap (with_entry (frame_bytes one2) t page) c.entry)) long

      pub copy_alike : AlwaysMapsAlike roles1 roles2
      copy_alike = by made
        where
          by : EntryCopied one roles1 e e' one2 roles2 → AlwaysMapsAlike roles1 roles2
          by (inl s) = λ S f. ap (λ r. pages_under S r f) s.same_roles
          by (inr c) = λ S. alike_taken S roles1 roles2 c.frame (Page 1) c.taken refl

      pub copy_more : SlotCopied directories from p page one roles1 two roles2 → MapsOneMore (spaces_in directories one) (at_page p page) (spaces_in directories two)
      copy_more added =
          let S = spaces_in directories one in
          let slot = at_page p page in
          one_inserted S (spaces_in directories two) slot (copy_of slot (cell_or_fresh S (at_page from page))) (ready_unmapped none) (λ q. ap (λ x. map.contains_key x q) added.spaces)

      -- the table that was given leads to the copy
      pub copy_linked : SlotCopied directories from p page one roles1 two roles2 → table_in (directory_of directories) (frame_bytes two) p (slot_number page) ≡ Some t
      copy_linked added = added.linked p (slot_number page) ∙ ap (option_and_then (λ x. table_of (frame_bytes one) x (slot_number page))) live ∙ ready_table

      pub copy_whole : Room directories (spaces_in directories bytes) roles p page → SlotCopied directories from p page one roles1 two roles2 → PageCopied directories from p page bytes roles two roles2
      copy_whole room added = page_copied directories bytes one two roles roles1 roles2 from source p page before home user.0 user.1 room ready_given added

    module _ (counts : List ℕ) (C : IsCounted (spaces_in directories bytes) roles counts) where
      counted1 : IsCounted (spaces_in directories one) roles1 counts
      counted1 = (ready linked).counted counts C

      pub ready_count : t < length counts
      ready_count = count_there directories one roles1 counts p d page t 0 ready_given.sound live user ready_table counted1

      pub ready_fits : (n : ℕ) → slice_get counts t ≡ Some n → n ≤ 1024
      ready_fits n is = count_fits directories one roles1 counts p d page t n ready_given.sound live user ready_table counted1 is

      -- how many pages each table maps once the page has its entry
      pub added_counted : (two : List ℕ) (roles2 : List Role) → MapsOneMore (spaces_in directories one) (at_page p page) (spaces_in directories two) → AlwaysMapsAlike roles1 roles2
          → IsCounted (spaces_in directories two) roles2 (slice_set counts t (region_pages (spaces_in directories two) p (slot_number page)))
      added_counted two roles2 more alike =
          let S = spaces_in directories one in
          let n = region_pages S p (slot_number page) in
          let named = ap (option_and_then (λ x. table_of (frame_bytes one) x (slot_number page))) live ∙ ready_table in
          let is = table_count S S directories one roles1 counts p (slot_number page) t n ready_given.sound named counted1 in
          let right = page_counted directories one roles1 counts p d page t n ready_given.sound live user ready_table counted1 is (spaces_in directories two) more in
          counted_roles (spaces_in directories two) roles1 roles2 (slice_set counts t (region_pages (spaces_in directories two) p (slot_number page))) (alike (spaces_in directories two))
          (subst (λ k. IsCounted (spaces_in directories two) roles1 (slice_set counts t k)) (sym (region_more S (spaces_in directories two) p page more)) right)

      -- the type's invariant once the page has its entry, and is counted
      pub added_kept : (two counts2 : List ℕ) (roles2 : List Role) → Room directories (spaces_in directories bytes) roles p page → SlotAdded directories p page one roles1 two roles2
          → MapsOneMore (spaces_in directories one) (at_page p page) (spaces_in directories two) → AlwaysMapsAlike roles1 roles2 → CountedUp counts t counts2 → AreCountedSpaces directories two roles2 counts2
      added_kept two counts2 roles2 room added more alike up =
          let S = spaces_in directories one in
          let n = region_pages S p (slot_number page) in
          let named = ap (option_and_then (λ x. table_of (frame_bytes one) x (slot_number page))) live ∙ ready_table in
          let is = table_count S S directories one roles1 counts p (slot_number page) t n ready_given.sound named counted1 in
          record {
            spaces = mapped directories bytes one two roles roles1 roles2 p page before room ready_given added;
            counted = subst (IsCounted (spaces_in directories two) roles2) (sym (up n is ∙ ap (slice_set counts t) (sym (region_more S (spaces_in directories two) p page more)))) (added_counted two roles2 more alike);
          }

-- ---- The copy of a page, in its region's table

pub record CopyMade (D : List (Option ℕ)) (from p page t : ℕ) (bytes : List ℕ) (roles : List Role) (two : List ℕ) (roles2 : List Role) : Type 0 where
  pub whole : PageCopied D from p page bytes roles two roles2
  pub table : table_in (directory_of D) (frame_bytes two) p (slot_number page) ≡ Some t
  pub counted : (counts : List ℕ) → IsCounted (spaces_in D bytes) roles counts → IsCounted (spaces_in D two) roles2 (slice_set counts t (region_pages (spaces_in D two) p (slot_number page)))

module _ (D : List (Option ℕ)) (bytes : List ℕ) (roles : List Role) (p page t : ℕ) (one : List ℕ) (roles1 : List Role) (takes : TakesPage D bytes roles p page) (got : TableGot D bytes roles p page t one roles1) where
  pub got_sound : IsSound D one roles1
  got_sound = (ready_given D bytes roles p got.0 page t one roles1 takes.spaces takes.user got.1 got.2).sound

  pub got_inside : (one2 : List ℕ) → length one2 ≡ length one → 4096 * t + 4096 ≤ length one2
  got_inside one2 long = subst (λ n. 4096 * t + 4096 ≤ n) (sym long) (ready_inside D bytes roles p got.0 page t one roles1 takes.spaces takes.user got.1 got.2)

  pub got_lies : (f : ℕ) → Inside bytes f → Inside one f
  got_lies = ready_lies D bytes roles p got.0 page t one roles1 takes.spaces takes.user got.1 got.2

  pub got_free : 0 < free_frames roles1
  got_free = ready_free D bytes roles p got.0 page t one roles1 takes.spaces takes.user got.1 got.2 takes.room

  pub copy_made : (from source : ℕ) (e e' : PageEntry) (one2 two : List ℕ) (roles2 : List Role) → directory_of D from ≡ Some source → entry_at (frame_bytes bytes) source page ≡ Some e
      → map.get (spaces_in D bytes) (at_page p page) ≡ None → EntryCopied one roles1 e e' one2 roles2 → frame_bytes two ≡ with_entry (frame_bytes one2) t page e' → length two ≡ length one2
      → CopyMade D from p page t bytes roles two roles2
  copy_made from source e e' one2 two roles2 home here none made is long =
      let added = copy_added D bytes roles p got.0 page t one roles1 takes.spaces takes.user got.1
      got.2 from source e e' one2 two roles2 home here none made is long in
      record {
        whole = copy_whole D bytes roles p got.0 page t one roles1 takes.spaces takes.user got.1
            got.2 from source e e' one2 two roles2 home here none made takes.room added;
        table = copy_linked D bytes roles p got.0 page t one roles1 takes.spaces takes.user got.1
            got.2 from source e e' one2 two roles2 home here none made added;
        counted = λ counts right. added_counted D bytes roles p got.0 page t one roles1 takes.spaces takes.user got.1 got.2 counts right two roles2
            (copy_more D bytes roles p got.0 page t one roles1 takes.spaces takes.user got.1
            got.2 from source e e' one2 two roles2 home here none made added)
            (copy_alike D bytes roles p got.0 page t one roles1 takes.spaces takes.user got.1
            got.2 from source e e' one2 two roles2 home here none made);
      }
