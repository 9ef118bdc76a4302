-- A page that was found: what is known of it, and what an access through it leaves.
use Rattle.address_space.proofs.Prelude.{◌≡◌, ℕ, ◌+◌, ◌^◌, ◌<◌, ◌≤◌, Bool, true, false, List, length, refl, ap, sym, ◌∙◌, subst, arith, inl, inr, Option, Some, None, replicate, is_some, slice_get, option_and_then, option_map, slot_number, index_number, byte_count, IsUserPage, Size, frame_bytes, word_in, with_word_in, with_frame-same, word_in_same, length-frame, PageEntry, Frames, dir_word, table_of, word_entry, entry_at, with_entry, entry_word, is_lazy_entry, IsKernelEntry, entry_word-lt, word_entry-entry_word, Found, need, Slot, Spaces, Cell, cell_or_fresh, bytes_of, stored, accessed, protected, at_page, FramesStay, none_goes, of_lazy, cell_of, Directories, directory_of, entry_in, entries_in, spaces_in, PageFilled, EntryPut, Touched, takes_stores_through, is_lazy_at, takes_stores, image_from, AreCountedSpaces, IsSound, Names, IsPageBelow, free_frames, Free, Page, Table, shown, Role, length-replicate, lazy_found, found_by, found_in, LiesIn, EntryIs, BytesStored, FrameGiven, Inner}
use Rattle.address_space.proofs.entries.EntrySteps.{tables_kept}
use Rattle.address_space.proofs.standing.FramesStand.{frames_stay}
use Rattle.address_space.proofs.costs.AccessCosts.{kept, key-stored}
use Rattle.address_space.proofs.standing.Standing.{stores_read, lazy_read, same_lazy, lazy_kept, real_kept}
use Rattle.address_space.proofs.steps.Touches.{kept_touched}
use Rattle.address_space.proofs.Insides.{AreCountedInside, spaces_at, image_at, table_at, found_at}
use Rattle.address_space.proofs.entries.Readings.{mapped_read, get-spaces_in, group_counted}
use Rattle.address_space.proofs.frames.FewHolders.{count_few}
use Rattle.address_space.proofs.costs.CostSteps.{need-one, need-two}
use Rattle.address_space.specs.declared.Cell.{Cell as Shown}
use Rattle.address_space.proofs.steps.Openings.{no_cell}
use Rattle.address_space.proofs.steps.Steps.{page_map_of, live_small, table_by_word, map_kept, zeroed, inside, free_loose}
use Rattle.address_space.proofs.steps.LazyFilling.{page_filled, room_to_fill}
use Rattle.address_space.proofs.steps.CountSteps.{counts_kept, alike_taken}
use Rattle.address_space.proofs.steps.Stores.{frame_written, length-write_at, named_entry, page_of_name, named_inside, entry_rules, cell_read, flags_set, stored_place, page_stored, length-bytes_of}
use Rattle.page_words.specs.FiniteMap as map

-- what was found is the entry of the page's slot
pub found_entry : (D : Directories) (m : Frames) (p page : ℕ) → option_map (λ (f : Found). f.entry) (found_in D m p page) ≡ entry_in D m (at_page p page)
found_entry D m p page = grind arith

-- what is known of a page that was found
pub record Known (directories : List (Option ℕ)) (bytes : List ℕ) (p page : ℕ) (f : Found) : Type 0 where
  pub directory : ℕ
  pub live : directory_of directories p ≡ Some directory
  pub same_page : f.page ≡ page
  pub table : table_of (frame_bytes bytes) directory (slot_number page) ≡ Some f.table
  pub here : entry_at (frame_bytes bytes) directory page ≡ Some f.entry

pub known : (directories : List (Option ℕ)) (bytes : List ℕ) (p page : ℕ) (f : Found) → found_in (directory_of directories) (frame_bytes bytes) p page ≡ Some f → Known directories bytes p page f
known directories bytes p page f is = grind (arith, (frame_bytes bytes))

-- a page is found just where it is mapped
pub found_mapped : (inner : Inner) (p page : ℕ) → AreCountedInside inner → IsUserPage page
    → is_some (found_at inner p page) ≡ is_some (map.get (spaces_at inner) (at_page p page))
found_mapped inner p page before user =
    sym (grind arith) ∙ ap is_some (found_entry (directory_of inner.directories) (frame_bytes inner.memory) p page) ∙ (grind (arith, no_cell, mapped_read, live_small))

-- whether what was found takes stores
pub found_takes : (inner : Inner) (p page : ℕ) → AreCountedInside inner → IsUserPage page
    → takes_stores_through (option_map (λ (f : Found). f.entry) (found_at inner p page)) ≡ takes_stores (spaces_at inner) (image_at inner) (at_page p page)
found_takes inner p page before user = ap takes_stores_through (found_entry (directory_of inner.directories) (frame_bytes inner.memory) p page) ∙ stores_read inner.directories inner.memory inner.frames p page before.spaces.sound user.0 user.1

-- what an access left
pub record Left (inner : Inner) (S : Spaces) (bytes' : List ℕ) : Type 0 where
  pub spaces : spaces_in inner.directories bytes' ≡ S
  pub kept : AreCountedSpaces inner.directories bytes' inner.frames inner.counts.items
  -- the same slots are lazy
  pub lazy : (q : Slot) → is_lazy_at (image_from inner.directories bytes' inner.frames) q ≡ is_lazy_at (image_at inner) q
  -- and each names its frame
  pub stay : FramesStay none_goes (image_at inner)
      (image_from inner.directories bytes' inner.frames)

-- ---- What stands at a page

-- its cell
pub found_cells : (inner : Inner) (p page : ℕ) → p < 64 → IsUserPage page
    → map.get (spaces_at inner) (at_page p page) ≡ option_map (cell_of (entries_in (directory_of inner.directories) (frame_bytes inner.memory)) (frame_bytes inner.memory) (at_page p page)) (option_map (λ (f : Found). f.entry) (found_at inner p page))
found_cells inner p page few user = grind (arith, get-spaces_in, found_entry)

none_of : (x : Option Cell) → is_some x ≡ false → x ≡ None
none_of x h = grind arith

-- nothing is mapped where nothing is found
pub absent_cell : (inner : Inner) (p page : ℕ) → AreCountedInside inner → IsUserPage page → found_at inner p page ≡ None → map.get (spaces_at inner) (at_page p page) ≡ None
absent_cell inner p page before user is = none_of (map.get (spaces_at inner) (at_page p page)) (sym (found_mapped inner p page before user) ∙ ap is_some is)

-- what one more page costs without a table of its region, and beside one
pub need_without : (inner : Inner) (p page : ℕ) → table_at inner p page ≡ None → need (spaces_at inner) p page ≡ 2
unfolding spaces_in
need_without inner p page is = need-two (directory_of inner.directories) (frame_bytes inner.memory) p page is

pub need_with : (inner : Inner) (p page t : ℕ) → AreCountedInside inner → IsUserPage page → table_at inner p page ≡ Some t → need (spaces_at inner) p page ≡ 1
unfolding spaces_in
need_with inner p page t before user is = need-one (directory_of inner.directories) (frame_bytes inner.memory) p page t (grind (arith, live_small)) user.0 user.1 is (before.spaces.in_use p (slot_number page))

-- a page is found at the entry that was written for it
pub found_written : (directories : List (Option ℕ)) (bytes two : List ℕ) (roles : List Role) (p d page t : ℕ) (e : PageEntry) → IsSound directories bytes roles → directory_of directories p ≡ Some d
    → table_of (frame_bytes bytes) d (slot_number page) ≡ Some t → e.frame < 2 ^ 20 → frame_bytes two ≡ with_entry (frame_bytes bytes) t page e
    → found_in (directory_of directories) (frame_bytes two) p page ≡ Some (record { page = page; table = t; entry = e })
found_written directories bytes two roles p d page t e sound live there small is =
    let D : Directories = directory_of directories in
    let m : Frames = frame_bytes bytes in
    let m2 : Frames = with_entry m t page e in
    let index = index_number page in
    let named = ap (option_and_then (λ x. table_of m x (slot_number page))) live ∙ there in
    let long = sound.tables.long t (Table p (slot_number page)) (sound.tables.table p (slot_number page) t named) in
    let lt = entry_word-lt e small in
    ap (λ n. found_in D n p page) is
    ∙ ap (option_and_then (found_by m2 page)) (tables_kept D m (slice_get roles) sound.tables p d page t (entry_word e) live there lt p (slot_number page) ∙ named)
    ∙ ap (found_word page t) (ap (λ l. word_in l index) (with_frame-same m t (with_word_in (m t) index (entry_word e))) ∙ word_in_same (m t) index (entry_word e) long (omega arith) lt)
    ∙ ap (option_map (λ x. record { page = page; table = t; entry = x })) (word_entry-entry_word e small)
  where
    found_word : ℕ → ℕ → ℕ → Option Found
    found_word page t w = option_map (λ x. record { page = page; table = t; entry = x }) (word_entry w)

-- ---- A page that was found, whose invariant holds

module _ (inner : Inner) (p page : ℕ) (f : Found) (before : AreCountedInside inner) (user : IsUserPage page) (is : found_at inner p page ≡ Some f) where
  there : Known inner.directories inner.memory p page f
  there = known inner.directories inner.memory p page f is

  few : p < 64
  few = live_small inner.directories p there.directory before.spaces.sound.pids there.live

  pub found_lies : LiesIn inner.memory f
  found_lies = record {
    table = (page_map_of inner.directories inner.memory inner.frames p there.directory before.spaces.sound there.live).tables_inside (slot_number page) f.table (let h = user.1 in omega (arith, h)) there.table;
    frame = named_inside inner.directories inner.memory inner.frames p there.directory page f.entry before.spaces.sound there.live user.0 user.1 there.here;
  }

  pub found_cell : cell_or_fresh (spaces_at inner) (at_page p page) ≡ cell_of (entries_in (directory_of inner.directories) (frame_bytes inner.memory)) (frame_bytes inner.memory) (at_page p page) f.entry
  found_cell = cell_read inner.directories inner.memory p there.directory page f.entry there.live few user.0 user.1 there.here

  -- what stands at its slot
  pub found_get : map.get (spaces_at inner) (at_page p page) ≡ Some (cell_of (entries_in (directory_of inner.directories) (frame_bytes inner.memory)) (frame_bytes inner.memory) (at_page p page) f.entry)
  found_get = found_cells inner p page few user ∙ ap (λ x. option_map (cell_of (entries_in (directory_of inner.directories) (frame_bytes inner.memory)) (frame_bytes inner.memory) (at_page p page)) (option_map (λ (f : Found). f.entry) x)) is

  -- it is lazy as the image says
  pub found_real : is_lazy_at (image_at inner) (at_page p page) ≡ f.entry.lazy
  found_real = sym (lazy_read inner.directories inner.memory inner.frames p there.directory page before.spaces.sound there.live) ∙ ap is_lazy_entry there.here

  rules : IsKernelEntry f.entry
  rules = entry_rules inner.directories inner.memory inner.frames p there.directory page f.entry before.spaces.sound there.live there.here

  -- the frame of a page that isn't lazy has a count
  pub found_below : f.entry.lazy ≡ false → IsPageBelow inner.frames f.entry.frame 4294967295
  found_below real =
      let n = named_entry inner.directories inner.memory inner.frames p there.directory page f.entry before.spaces.sound there.live user.0 user.1 there.here in
      let r = page_of_name inner.directories inner.memory inner.frames (at_page p page) f.entry.frame before.spaces.sound n (rules.frame real) in
      record { count = r.count; page = r.page; below = count_few (directory_of inner.directories) (frame_bytes inner.memory) (slice_get inner.frames) f.entry.frame r.count before.spaces.sound.pages r.page }

  pub found_known : Known inner.directories inner.memory p page f
  found_known = there

  -- its slot names its frame, which is not frame 0 unless it is lazy
  pub found_named : Names (entries_in (directory_of inner.directories) (frame_bytes inner.memory)) (at_page p page) f.entry.frame
  found_named = named_entry inner.directories inner.memory inner.frames p there.directory page f.entry before.spaces.sound there.live user.0 user.1 there.here

  pub found_least : f.entry.lazy ≡ false → 1 ≤ f.entry.frame
  found_least = rules.frame

  -- its cell, as it is shown
  pub found_shown : (c : Shown) → c ≡ record { write = f.entry.write; may = f.entry.may; accessed = f.entry.accessed; dirty = f.entry.dirty; holders = c.holders }
      → (f.entry.lazy ≡ true → c.holders ≡ 1) → (f.entry.lazy ≡ false → slice_get inner.frames f.entry.frame ≡ Some (Page c.holders)) → Some c ≡ option_map shown (map.get (spaces_at inner) (at_page p page))
  found_shown c flags lazy real =
      let count = group_counted inner.directories inner.memory inner.frames (at_page p page) f.entry c.holders before.spaces.sound rules lazy real in
      ap Some (flags ∙ (λ i. record { write = f.entry.write; may = f.entry.may; accessed = f.entry.accessed; dirty = f.entry.dirty; holders = count i }))
      ∙ sym (ap (option_map shown) (found_cells inner p page few user ∙ ap (λ x. option_map (cell_of (entries_in (directory_of inner.directories) (frame_bytes inner.memory)) (frame_bytes inner.memory) (at_page p page)) (option_map (λ (f : Found). f.entry) x)) is))

  entry_put_at : (one two : List ℕ) (e' : PageEntry) → table_of (frame_bytes one) there.directory (slot_number page) ≡ Some f.table → EntryIs one f e' two → EntryPut one there.directory page f.entry e' two
  entry_put_at one two e' table (inl stays) = inl stays
  entry_put_at one two e' table (inr written) =
      inr (written ∙ ap (λ g. with_entry (frame_bytes one) f.table g e') there.same_page ∙ sym (ap (λ t. with_entry (frame_bytes one) t page e') (table_by_word (dir_word (frame_bytes one) there.directory (slot_number page)) f.table table)))

  -- the slot is mapped
  pub found_there : is_some (map.get (spaces_at inner) (at_page p page)) ≡ true
  found_there = sym (found_mapped inner p page before user) ∙ ap is_some is

  left : (two : List ℕ) (S : Spaces) → Touched inner.directories S inner.memory inner.frames two → ((q : Slot) → map.contains_key S q ≡ map.contains_key (spaces_at inner) q) → Left inner S two
  left two S touched keys = record {
    spaces = touched.spaces;
    kept = kept_touched inner.directories inner.memory two inner.frames inner.counts.items S before touched keys;
    lazy = lazy_kept inner.directories inner.memory two inner.frames before.spaces.sound touched.sound touched.lazy;
    stay = grind (arith, frames_stay);
  }

  -- flags that are written, which its cell gets
  flags_left : (two : List ℕ) (write accessed dirty : Bool) (c : Cell)
      → IsKernelEntry (record f.entry { write = write; accessed = accessed; dirty = dirty })
      → EntryIs inner.memory f (record f.entry { write = write; accessed = accessed; dirty = dirty }) two
      → length two ≡ length inner.memory
      → c ≡ record (cell_or_fresh (spaces_at inner) (at_page p page)) { write = write; accessed = accessed; dirty = dirty }
      → Left inner (map.insert (spaces_at inner) (at_page p page) c) two
  flags_left two write accessed dirty c rules' put long is_c =
      let e' : PageEntry = record f.entry { write = write; accessed = accessed; dirty = dirty } in
      left two (map.insert (spaces_at inner) (at_page p page) c)
      (flags_set inner.directories inner.memory two inner.frames p there.directory page f.entry write accessed dirty c
      before.spaces.sound there.live user.0 user.1 there.here rules' (entry_put_at inner.memory two e' there.table put) long
      (is_c ∙ ap (λ (x : Cell). record x { write = write; accessed = accessed; dirty = dirty }) found_cell))
      (kept (spaces_at inner) (at_page p page) c found_there)

  -- a load
  pub found_loaded : (two : List ℕ) → EntryIs inner.memory f (record f.entry { accessed = true }) two → length two ≡ length inner.memory → Left inner (accessed (spaces_at inner) (at_page p page)) two
  found_loaded two put long =
      flags_left two f.entry.write true f.entry.dirty _ (grind (arith, rules)) put long (grind (arith, found_cell))

  -- a change of the right
  pub found_protected : (two : List ℕ) (write : Bool) → (write ≡ true → (cell_or_fresh (spaces_at inner) (at_page p page)).may ≡ true) → EntryIs inner.memory f (record f.entry { write = write }) two → length two ≡ length inner.memory
      → Left inner (protected (spaces_at inner) (at_page p page) write) two
  found_protected two write may put long =
      flags_left two write f.entry.accessed f.entry.dirty _ (grind (arith, rules, found_cell)) put long
      (grind (arith, found_cell))

  -- marks that are cleared
  pub found_cleaned : (two : List ℕ) → EntryIs inner.memory f (record f.entry { accessed = false; dirty = false }) two → length two ≡ length inner.memory
      → Left inner (map.insert (spaces_at inner) (at_page p page) (record (cell_or_fresh (spaces_at inner) (at_page p page)) { accessed = false; dirty = false })) two
  found_cleaned two put long =
      flags_left two f.entry.write false false _ (grind (arith, rules)) put long (grind (arith, found_cell))

  -- bytes written as one
  pub found_part : (two : List ℕ) (at : ℕ) (new : List ℕ) → f.entry.lazy ≡ false → at + length new ≤ 4096 → BytesStored inner.memory f at new two
      → Left inner (stored (spaces_at inner) (at_page p page) at new) two
  found_part two at new real inside s =
      left two (stored (spaces_at inner) (at_page p page) at new)
      (let d = there.directory in
      let place = stored_place inner.directories inner.memory inner.frames p d page f.entry before.spaces.sound there.live user.0 user.1 there.here real in
      let size = place.long in
      let long = length-write_at (frame_bytes inner.memory f.entry.frame) at new (omega (arith, size, inside)) ∙ size in
      let kept = map_kept inner.directories inner.memory s.between inner.frames p d f.entry.frame _ before.spaces.sound there.live place.loose long s.written s.between_long in
      page_stored inner.directories inner.memory s.between two inner.frames p d page at new f.entry before.spaces.sound there.live user.0 user.1 there.here real long s.written s.between_long
      (entry_put_at s.between two (record f.entry { accessed = true; dirty = true }) (kept.tables (slot_number page) ∙ there.table) s.entry) s.long)
      (λ q. key-stored (spaces_at inner) (at_page p page) at new (cell_or_fresh (spaces_at inner) (at_page p page)) q ∙ kept (spaces_at inner) (at_page p page) (cell_or_fresh (spaces_at inner) (at_page p page)) found_there q)

  -- a store
  pub found_stored : (two : List ℕ) (at : ℕ) (size : Size) (value : ℕ) → f.entry.lazy ≡ false → at + byte_count size ≤ 4096 → BytesStored inner.memory f at (bytes_of (byte_count size) value) two
      → Left inner (stored (spaces_at inner) (at_page p page) at (bytes_of (byte_count size) value)) two
  found_stored two at size value real inside s =
      let n = length-bytes_of (byte_count size) value in
      found_part two at (bytes_of (byte_count size) value) real (omega (arith, n, inside)) s

  -- the bytes of its cell
  pub found_bytes : (cell_or_fresh (spaces_at inner) (at_page p page)).bytes ≡ frame_bytes inner.memory f.entry.frame
  found_bytes = ap (λ (c : Cell). c.bytes) found_cell

  pub found_long : length (cell_or_fresh (spaces_at inner) (at_page p page)).bytes ≡ 4096
  found_long = ap length found_bytes ∙ length-frame inner.memory f.entry.frame found_lies.frame.fits

  -- a frame of its own
  pub found_filled : (e' : PageEntry) (two : List ℕ) (roles' : List Role) → f.entry.lazy ≡ true → FrameGiven inner.memory inner.frames f e' two roles' → PageFilled inner.directories p page inner.memory inner.frames two roles'
  found_filled e' two roles' lazy g =
      let R = slice_get inner.frames in
      let free = g.taken.was_free in
      let is = zeroed inner.memory g.between g.frame (inside inner.directories inner.memory inner.frames g.frame Free before.spaces.sound free) g.zeros in
      let kept = map_kept inner.directories inner.memory g.between inner.frames p there.directory g.frame (replicate 4096 0) before.spaces.sound there.live (free_loose R g.frame free) (length-replicate {A = ℕ} 4096 0) is g.between_long in
      let table = kept.tables (slot_number page) ∙ there.table in
      let written = g.entry ∙ ap (λ n. with_entry (frame_bytes g.between) f.table n (record f.entry { frame = g.frame; lazy = false })) there.same_page
      ∙ sym (ap (λ t. with_entry (frame_bytes g.between) t page (record f.entry { frame = g.frame; lazy = false })) (table_by_word (dir_word (frame_bytes g.between) there.directory (slot_number page)) f.table table)) in
      page_filled inner.directories inner.memory g.between two inner.frames roles' p there.directory page g.frame f.entry before.spaces there.live user.0 user.1 there.here lazy g.taken is g.between_long written g.long

  pub filled_kept : (e' : PageEntry) (two : List ℕ) (roles' : List Role) → FrameGiven inner.memory inner.frames f e' two roles' → PageFilled inner.directories p page inner.memory inner.frames two roles' → AreCountedSpaces inner.directories two roles' inner.counts.items
  filled_kept e' two roles' g filled = record {
    spaces = filled.after;
    counted = counts_kept (spaces_at inner) (spaces_in inner.directories two) inner.frames roles' filled.spaces (alike_taken (spaces_at inner) inner.frames roles' g.frame (Page 1) g.taken refl) inner.counts.items before.counted;
  }

  -- each slot but that one names its frame
  pub filled_stay : (two : List ℕ) (roles' : List Role)
      → PageFilled inner.directories p page inner.memory inner.frames two roles'
      → FramesStay (of_lazy p page) (image_at inner)
      (image_from inner.directories two roles')
  filled_stay two roles' filled = grind (arith, frames_stay)

  -- and it is found there
  pub filled_found : (e' : PageEntry) (two : List ℕ) (roles' : List Role) → FrameGiven inner.memory inner.frames f e' two roles'
      → found_in (directory_of inner.directories) (frame_bytes two) p page ≡ Some (record { page = page; table = f.table; entry = e' })
  filled_found e' two roles' g =
      let free = g.taken.was_free in
      let at = inside inner.directories inner.memory inner.frames g.frame Free before.spaces.sound free in
      let is = zeroed inner.memory g.between g.frame at g.zeros in
      let loose = free_loose (slice_get inner.frames) g.frame free in
      let long = length-replicate {A = ℕ} 4096 0 in
      let kept = map_kept inner.directories inner.memory g.between inner.frames p there.directory g.frame (replicate 4096 0) before.spaces.sound there.live loose long is g.between_long in
      let w = frame_written inner.directories inner.memory g.between inner.frames g.frame (replicate 4096 0) before.spaces.sound loose long is g.between_long in
      found_written inner.directories g.between two inner.frames p there.directory page f.table e' w.sound there.live (kept.tables (slot_number page) ∙ there.table)
      (subst (λ (e : PageEntry). e.frame < 2 ^ 20) (sym g.same) at.small)
      (g.entry ∙ (λ i. with_entry (frame_bytes g.between) f.table (there.same_page i) (sym g.same i)))

  pub room_found : f.entry.lazy ≡ true → 0 < free_frames inner.frames
  room_found lazy = room_to_fill inner.directories inner.memory inner.frames p there.directory page f.entry before.spaces there.live user.0 user.1 there.here lazy

-- whether what was found is lazy
pub found_lazy : (inner : Inner) (p page : ℕ) → AreCountedInside inner → IsUserPage page → (x : Option Found) → x ≡ found_at inner p page → lazy_found x ≡ is_lazy_at (image_at inner) (at_page p page)
found_lazy inner p page before user None is = sym (grind (arith, same_lazy, found_entry))
found_lazy inner p page before user (Some f) is = sym (found_real inner p page f before user (sym is))

-- a page that was filled isn't lazy
pub filled_real : (directories : List (Option ℕ)) (bytes bytes' : List ℕ) (roles roles' : List Role) (p page : ℕ) → PageFilled directories p page bytes roles bytes' roles' → is_lazy_at (image_from directories bytes' roles') (at_page p page) ≡ false
filled_real directories bytes bytes' roles roles' p page filled = same_lazy directories bytes' roles' filled.after.sound (at_page p page) ∙ ap is_lazy_entry filled.real.1 ∙ filled.real.2

-- and no other page became lazy
pub filled_others : (directories : List (Option ℕ)) (bytes bytes' : List ℕ) (roles roles' : List Role) (p page : ℕ) → IsSound directories bytes roles → PageFilled directories p page bytes roles bytes' roles'
    → (q : Slot) → is_lazy_at (image_from directories bytes roles) q ≡ false → is_lazy_at (image_from directories bytes' roles') q ≡ false
filled_others directories bytes bytes' roles roles' p page sound filled = real_kept directories bytes bytes' roles roles' sound filled.after.sound filled.fewer
