-- The places of a process's other pages, after an access through one.
use Rattle.address_space.proofs.Prelude.{◌≡◌, ◌≢◌, ◌+◌, ◌<◌, ◌≤◌, ◌^◌, ℕ, true, false, List, length, ap, sym, ◌∙◌, inl, inr, Option, Some, None, is_some, arith, slice_get, option_map, option_and_then, slot_number, IsUserPage, frame_bytes, length-frame, Role, PageEntry, Frames, table_of, entry_at, entry_word, with_entry, entry_word-lt, Found, Place, Slot, at_page, write_at, Directories, directory_of, table_in, entry_in, PageFilled, EntryIs, BytesStored, place_by, place_in, found_of, refl, TableGiven, IsSound, Inner}
use Rattle.address_space.proofs.Insides.{AreCountedInside, found_at}
use Rattle.address_space.proofs.entries.EntrySteps.{entry_by_table, entry_kept, tables_kept, entry_other}
use Rattle.address_space.proofs.steps.FoundPages.{found_known, found_lies}
use Rattle.address_space.proofs.steps.Stores.{frame_written, length-write_at, stored_place}

-- a place is that of its table and its entry
place_same : (D : Directories) (m m' : Frames) (p page : ℕ) → table_in D m' p (slot_number page) ≡ table_in D m p (slot_number page)
    → entry_in D m' (at_page p page) ≡ entry_in D m (at_page p page) → place_by m' page (table_in D m' p (slot_number page)) ≡ place_by m page (table_in D m p (slot_number page))
place_same D m m' p page tables entries = grind (arith, entry_by_table)

-- the region of a mapped page has a table
linked_found : (m : Frames) (page : ℕ) (x : Option ℕ) → is_some (found_of (place_by m page x)) ≡ true → (t : ℕ) × (x ≡ Some t)
linked_found m page None h = absurd (let k = h in cc)
linked_found m page (Some t) h = (t, refl)

-- where an entry is written at another page
entry_beside : (directories : List (Option ℕ)) (one two : List ℕ) (roles : List Role) (p d page : ℕ) (f : Found) (e : PageEntry) → IsSound directories one roles → directory_of directories p ≡ Some d
    → table_of (frame_bytes one) d (slot_number page) ≡ Some f.table → f.page ≡ page → e.frame < 2 ^ 20 → EntryIs one f e two
    → (other : ℕ) → other ≢ page → place_in directories two p other ≡ place_in directories one p other
entry_beside directories one two roles p d page f e sound live table same small (inl stays) other differ = ap (λ bytes. place_in directories bytes p other) stays.1
entry_beside directories one two roles p d page f e sound live table same small (inr written) other differ =
    let D : Directories = directory_of directories in
    let m : Frames = frame_bytes one in
    let is : frame_bytes two ≡ with_entry m f.table page e = written ∙ ap (λ n. with_entry m f.table n e) same in
    let lt = entry_word-lt e small in
    place_same D m (frame_bytes two) p other
    (ap (λ n. table_in D n p (slot_number other)) is ∙ tables_kept D m (slice_get roles) sound.tables p d page f.table (entry_word e) live table lt p (slot_number other))
    (ap (λ n. entry_in D n (at_page p other)) is ∙ entry_other D m (slice_get roles) sound.tables p d page f.table (entry_word e) live table lt (at_page p other) (λ k. differ (ap (λ (s : Slot). s.page) k)))

module _ (inner : Inner) (p page : ℕ) (f : Found) (before : AreCountedInside inner) (user : IsUserPage page) (is : found_at inner p page ≡ Some f) where
  -- a load
  pub loaded_beside : (two : List ℕ) → EntryIs inner.memory f (record f.entry { accessed = true }) two
      → (other : ℕ) → other ≢ page → place_in inner.directories two p other ≡ place_in inner.directories inner.memory p other
  loaded_beside two put =
      let there = found_known inner p page f before user is in
      entry_beside inner.directories inner.memory two inner.frames p there.directory page f (record f.entry { accessed = true }) before.spaces.sound there.live there.table there.same_page (found_lies inner p page f before user is).frame.small put

  -- its frame has 4,096 bytes, after a part was written too
  pub part_long : (at : ℕ) (new : List ℕ) → at + length new ≤ 4096 → length (write_at (frame_bytes inner.memory f.entry.frame) at new) ≡ 4096
  part_long at new inside =
      let long = length-frame inner.memory f.entry.frame (found_lies inner p page f before user is).frame.fits in
      length-write_at (frame_bytes inner.memory f.entry.frame) at new (omega (arith, long, inside)) ∙ long

  -- a store
  pub stored_beside : (two : List ℕ) (at : ℕ) (new : List ℕ) → f.entry.lazy ≡ false → length (write_at (frame_bytes inner.memory f.entry.frame) at new) ≡ 4096 → BytesStored inner.memory f at new two
      → (other : ℕ) → other ≢ page → place_in inner.directories two p other ≡ place_in inner.directories inner.memory p other
  stored_beside two at new real long s other differ =
      let there = found_known inner p page f before user is in
      let D : Directories = directory_of inner.directories in
      let place = stored_place inner.directories inner.memory inner.frames p there.directory page f.entry before.spaces.sound there.live user.0 user.1 there.here real in
      let w = frame_written inner.directories inner.memory s.between inner.frames f.entry.frame (write_at (frame_bytes inner.memory f.entry.frame) at new) before.spaces.sound place.loose long s.written s.between_long in
      let table : table_of (frame_bytes s.between) there.directory (slot_number page) ≡ Some f.table =
      sym (ap (option_and_then (λ x. table_of (frame_bytes s.between) x (slot_number page))) there.live)
      ∙ w.tables p (slot_number page) ∙ ap (option_and_then (λ x. table_of (frame_bytes inner.memory) x (slot_number page))) there.live ∙ there.table in
      entry_beside inner.directories s.between two inner.frames p there.directory page f (record f.entry { accessed = true; dirty = true }) w.sound there.live table there.same_page (found_lies inner p page f before user is).frame.small s.entry other differ
      ∙ place_same D (frame_bytes inner.memory) (frame_bytes s.between) p other (w.tables p (slot_number other))
      (ap (option_and_then (λ x. entry_at (frame_bytes s.between) x other)) there.live ∙ w.entry p there.directory other there.live ∙ sym (ap (option_and_then (λ x. entry_at (frame_bytes inner.memory) x other)) there.live))

-- and of every process, after a lazy page got its frame
pub filled_beside : {directories : List (Option ℕ)} {bytes bytes' : List ℕ} {roles roles' : List Role} {p page : ℕ} → PageFilled directories p page bytes roles bytes' roles'
    → (q other : ℕ) → at_page q other ≢ at_page p page → place_in directories bytes' q other ≡ place_in directories bytes q other
filled_beside {directories} {bytes} {bytes'} {roles} {roles'} filled q other differ =
    place_same (directory_of directories) (frame_bytes bytes) (frame_bytes bytes') q other (filled.tables q (slot_number other)) (filled.others (at_page q other) differ)

-- and of each mapped one, after a page more was mapped
pub added_beside : {directories : List (Option ℕ)} {bytes one : List ℕ} {roles roles1 : List Role} {p d page t : ℕ} (two : List ℕ) (e : PageEntry) → TableGiven directories p (slot_number page) bytes roles one roles1
    → directory_of directories p ≡ Some d → table_of (frame_bytes one) d (slot_number page) ≡ Some t → e.frame < 2 ^ 20 → frame_bytes two ≡ with_entry (frame_bytes one) t page e
    → (q other : ℕ) → at_page q other ≢ at_page p page → is_some (found_of (place_in directories bytes q other)) ≡ true → place_in directories two q other ≡ place_in directories bytes q other
added_beside {directories} {bytes} {one} {roles} {roles1} {p} {d} {page} {t} two e given live there small is q other differ mapped =
    let D : Directories = directory_of directories in
    let m : Frames = frame_bytes one in
    let T = given.sound.tables in
    let lt = entry_word-lt e small in
    let table = linked_found (frame_bytes bytes) other (table_in D (frame_bytes bytes) q (slot_number other)) mapped in
    let same = given.tables q (slot_number other) table.0 table.1 ∙ sym table.1 in
    place_same D (frame_bytes bytes) (frame_bytes two) q other
    (ap (λ n. table_in D n q (slot_number other)) is ∙ tables_kept D m (slice_get roles1) T p d page t (entry_word e) live there lt q (slot_number other) ∙ same)
    (ap (λ n. entry_in D n (at_page q other)) is ∙ entry_other D m (slice_get roles1) T p d page t (entry_word e) live there lt (at_page q other) differ
    ∙ entry_kept D D (frame_bytes bytes) m (at_page q other) same (given.kept q (slot_number other)))

-- ---- The second page of an access, by its place

module _ (directories : List (Option ℕ)) (bytes : List ℕ) (p : ℕ) (x : Option ℕ) (y : Option Place) (at : y ≡ option_map (place_in directories bytes p) x) where
  pub second_none : y ≡ None → x ≡ None
  second_none none = grind (arith, at, none)

  pub second_there : (page : ℕ) (place : Place) → x ≡ Some page → y ≡ Some place → place ≡ place_in directories bytes p page
  second_there page place is found = grind (arith, at, is, found)

  pub second_is : (place : Place) → y ≡ Some place → is_some x ≡ true
  second_is place found = grind (arith, at, found)
