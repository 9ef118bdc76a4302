-- The effect of a store, a load and a change of the right through a mapped slot.
use Rattle.address_space.proofs.Prelude.{◌≡◌, ℕ, ◌+◌, ◌*◌, ◌%◌, ◌^◌, ◌<◌, ◌≤◌, Bool, true, false, List, ◌++◌, length, take, drop, refl, ap, sym, ◌∙◌, subst, arith, inl, inr, Option, Some, length-append, length-drop, zero, append_assoc, is_some, slice_get, slice_set, splice, option_and_then, slot_number, index_number, byte_count, Size, frame_number, IsKernelTableWord, frame_bytes, word_in, with_word, with_frame, Role, Table, Page, PageEntry, Frames, dir_word, table_of, word_entry, entry_at, with_entry, entry_word, IsKernelEntry, entry_word-names, entry_word-lt, entry_word-present, word_entry-entry_word, Slot, Cell, cell_or_fresh, write_at, bytes_of, stored, at_page, Entries, holders_of, cell_of, spaces_of, Directories, Roles, directory_of, table_in, entries_in, spaces_in, total_cost, Tables, Pages, HoldsPage, IsSound, InUseAt, Names, Inside, InUse, ne_eqb, with_frame-other, frames-with_word_at, frames-with_byte, set_split, length-take-le, EntryPut, Touched}
use Rattle.byteorder.specs.Endian.{little_bytes}
use Rattle.address_space.proofs.entries.UserSlots.{in_user_slots}
pub use Rattle.address_space.proofs.steps.Bytes.{length-bytes as length-bytes_of}
use Rattle.address_space.proofs.costs.CostSteps.{total-kept}
use Rattle.address_space.proofs.entries.EntrySteps.{Loose, get-entries_in, entries-insert, tables-entry, tables_kept, use_kept}
use Rattle.address_space.proofs.frames.FrameSteps.{loose-entry, loose-entries, loose-tables, tables-loose, use_loose}
use Rattle.address_space.proofs.frames.PageSteps.{same_bytes, pages-same, no_table, lazy-same}
use Rattle.address_space.proofs.entries.Refinement.{insert_there, store_refines, flags_refine, cell_at}
use Rattle.address_space.proofs.steps.Steps.{inside, holds_inside, live_small, page_loose, table_by_word, sound_by}
use Rattle.address_space.proofs.entries.Staying.{places_put}
use Rattle.page_words.specs.FiniteMap as map

-- ---- Bytes

four_bytes : (w : ℕ) → little_bytes 4 w ≡ bytes_of 4 w
four_bytes w = grind arith

pub word_is_write : (frame : List ℕ) (at w : ℕ) → with_word frame at w ≡ write_at frame at (bytes_of 4 w)
unfolding with_word
word_is_write frame at w = ap (λ (b : List ℕ). take at frame ++ (b ++ drop (at + 4) frame)) (four_bytes w) ∙ sym (append_assoc (take at frame) (bytes_of 4 w) (drop (at + 4) frame))

-- bytes spliced in are written there
pub part_is_write : (frame : List ℕ) (at : ℕ) (new : List ℕ) → splice frame at (at + length new) new ≡ write_at frame at new
part_is_write frame at new = sym (append_assoc (take at frame) new (drop (at + length new) frame))

-- ---- Entries

-- what an entry comes from: a table and its word
pub record Found (D : Directories) (m : Frames) (p d page : ℕ) (e : PageEntry) : Type 0 where
  pub table : ℕ
  pub there : table_of m d (slot_number page) ≡ Some table
  pub word : word_entry (word_in (m table) (index_number page)) ≡ Some e

pub found : (D : Directories) (m : Frames) (p d page : ℕ) (e : PageEntry) → entry_at m d page ≡ Some e → Found D m p d page e
found D m p d page e is = grind arith

-- an entry that a kernel word holds keeps its rules
pub allowed : (word : ℕ) (e : PageEntry) → IsKernelTableWord word → word_entry word ≡ Some e → IsKernelEntry e
allowed word e k h = grind arith

pub get_user : (D : Directories) (m : Frames) (p d page : ℕ) (e : PageEntry) → D p ≡ Some d → p < 64 → 0x40000 ≤ page → page < 0xf0000 → entry_at m d page ≡ Some e → map.get (entries_in D m) (at_page p page) ≡ Some e
get_user D m p d page e live few low high is = grind (arith, get-entries_in, in_user_slots)

-- the rules of an entry that is in use
pub entry_rules : (directories : List (Option ℕ)) (bytes : List ℕ) (roles : List Role) (p d page : ℕ) (e : PageEntry) → IsSound directories bytes roles → directory_of directories p ≡ Some d → entry_at (frame_bytes bytes) d page ≡ Some e → IsKernelEntry e
entry_rules directories bytes roles p d page e sound live is =
    let D : Directories = directory_of directories in
    let m : Frames = frame_bytes bytes in
    let f = found D m p d page e is in
    let up : table_in D m p (slot_number page) ≡ Some f.table = ap (option_and_then (λ x. table_of m x (slot_number page))) live ∙ f.there in
    allowed (word_in (m f.table) (index_number page)) e (sound.tables.table_words p (slot_number page) f.table (index_number page) up (omega arith)) f.word

pub record HasPage (roles : List Role) (f : ℕ) : Type 0 where
  pub count : ℕ
  pub page : slice_get roles f ≡ Some (Page count)

-- a frame other than frame 0 that an entry names is a page
pub page_held : (directories : List (Option ℕ)) (bytes : List ℕ) (roles : List Role) (f : ℕ) → IsSound directories bytes roles → HoldsPage (slice_get roles f) → 1 ≤ f → HasPage roles f
page_held directories bytes roles f sound (inl r) up = absurd (let z = sound.tables.reserved f r in omega (arith, z, up))
page_held directories bytes roles f sound (inr h) up = record { count = h.0; page = h.1 }

-- ---- An access

-- the entry of a slot was written with another on the same frame
pub record EntrySet (directories : List (Option ℕ)) (p page : ℕ) (e e' : PageEntry) (bytes : List ℕ) (roles : List Role) (bytes' : List ℕ) : Type 0 where
  pub sound : IsSound directories bytes' roles
  pub named : map.get (entries_in (directory_of directories) (frame_bytes bytes)) (at_page p page) ≡ Some e
  pub entries : entries_in (directory_of directories) (frame_bytes bytes') ≡ map.insert (entries_in (directory_of directories) (frame_bytes bytes)) (at_page p page) e'
  pub spaces : spaces_in directories bytes' ≡ spaces_of (map.insert (entries_in (directory_of directories) (frame_bytes bytes)) (at_page p page) e') (frame_bytes bytes)
  pub in_use : InUse (directory_of directories) (frame_bytes bytes) → InUse (directory_of directories) (frame_bytes bytes')
  pub tables : (q r : ℕ) → table_in (directory_of directories) (frame_bytes bytes') q r ≡ table_in (directory_of directories) (frame_bytes bytes) q r

pub entry_set : (directories : List (Option ℕ)) (bytes two : List ℕ) (roles : List Role) (p d page : ℕ) (e e' : PageEntry) → IsSound directories bytes roles → directory_of directories p ≡ Some d
    → 0x40000 ≤ page → page < 0xf0000 → entry_at (frame_bytes bytes) d page ≡ Some e → IsKernelEntry e' → e'.frame ≡ e.frame
    → frame_bytes two ≡ with_entry (frame_bytes bytes) (frame_number (dir_word (frame_bytes bytes) d (slot_number page))) page e' → length two ≡ length bytes
    → EntrySet directories p page e e' bytes roles two
unfolding spaces_in
entry_set directories bytes two roles p d page e e' sound live low high is_entry rules kept is_two long_two =
    let few : p < 64 = live_small directories p d sound.pids live in
    let D : Directories = directory_of directories in
    let m : Frames = frame_bytes bytes in
    let R : Roles = slice_get roles in
    let T : Tables D m R = sound.tables in
    let slot : Slot = at_page p page in
    let E : Entries = entries_in D m in
    let f = found D m p d page e is_entry in
    let t : ℕ = f.table in
    let m2 : Frames = with_entry m t page e' in
    let there : map.get E slot ≡ Some e = get_user D m p d page e live few low high is_entry in
    let small : e'.frame < 2 ^ 20 = subst (λ g. g < 2 ^ 20) (sym kept) (holds_inside directories bytes roles e.frame sound (sound.pages.pages slot e there)).small in
    let up_table : table_in D m p (slot_number page) ≡ Some t = ap (option_and_then (λ x. table_of m x (slot_number page))) live ∙ f.there in
    let role_t : R t ≡ Some (Table p (slot_number page)) = T.table p (slot_number page) t up_table in
    let is : frame_bytes two ≡ m2 = is_two ∙ ap (λ g. with_entry m g page e') (table_by_word (dir_word m d (slot_number page)) t f.there) in
    let E2 : entries_in D (frame_bytes two) ≡ map.insert E slot e' = ap (entries_in D) is ∙ entries-insert D m R T p d page t (entry_word e') live f.there (entry_word-lt e' small) e' (word_entry-entry_word e' small) few low high in
    let P2 : Pages (map.insert E slot e') R = pages-same E R slot e e' sound.pages there kept in
    let page_kept : (q : Slot) (x : PageEntry) → map.get (map.insert E slot e') q ≡ Some x → m2 x.frame ≡ m x.frame = λ q x was.
    with_frame-other m t x.frame _ (no_table R x.frame t p (slot_number page) (P2.pages q x was) role_t) in
    record {
      sound = sound_by directories bytes two roles roles _ _ sound long_two refl is (tables-entry D m R T p d page t (entry_word e') live f.there (entry_word-lt e' small) (inr (entry_word-names e' small rules))) E2 P2;
      named = there;
      entries = E2;
      spaces = (λ i. spaces_of (E2 i) (is i)) ∙ same_bytes (map.insert E slot e') m m2 page_kept;
      in_use = λ before q r. subst (λ x. InUseAt D x q r) (sym is) (use_kept D m R T p d page t (entry_word e') live f.there (entry_word-lt e' small) (entry_word-present e') q r (before q r));
      tables = λ q r. ap (λ x. table_in D x q r) is ∙ tables_kept D m R T p d page t (entry_word e') live f.there (entry_word-lt e' small) q r;
    }

-- the same, where an entry that stays isn't written
pub entry_put : (directories : List (Option ℕ)) (bytes two : List ℕ) (roles : List Role) (p d page : ℕ) (e e' : PageEntry) → IsSound directories bytes roles → directory_of directories p ≡ Some d
    → 0x40000 ≤ page → page < 0xf0000 → entry_at (frame_bytes bytes) d page ≡ Some e → IsKernelEntry e' → e'.frame ≡ e.frame
    → EntryPut bytes d page e e' two → length two ≡ length bytes → EntrySet directories p page e e' bytes roles two
unfolding spaces_in
entry_put directories bytes two roles p d page e e' sound live low high is_entry rules kept (inr written) long_two =
    entry_set directories bytes two roles p d page e e' sound live low high is_entry rules kept written long_two
entry_put directories bytes two roles p d page e e' sound live low high is_entry rules kept (inl (same_entry, stays)) long_two =
    let D : Directories = directory_of directories in
    let E : Entries = entries_in D (frame_bytes bytes) in
    let slot : Slot = at_page p page in
    let there : map.get E slot ≡ Some e = get_user D (frame_bytes bytes) p d page e live (live_small directories p d sound.pids live) low high is_entry in
    let back : map.insert E slot e' ≡ E = ap (map.insert E slot) same_entry ∙ insert_there E slot e there in
    record {
      sound = subst (λ b. IsSound directories b roles) (sym stays) sound;
      named = there;
      entries = ap (λ b. entries_in D (frame_bytes b)) stays ∙ sym back;
      spaces = ap (spaces_in directories) stays ∙ ap (λ x. spaces_of x (frame_bytes bytes)) (sym back);
      in_use = λ before. subst (λ b. InUse D (frame_bytes b)) (sym stays) before;
      tables = λ q r. ap (λ b. table_in D (frame_bytes b) q r) stays;
    }

-- the bytes of a page's own frame were written
pub record FrameWritten (directories : List (Option ℕ)) (bytes : List ℕ) (roles : List Role) (one : List ℕ) : Type 0 where
  pub sound : IsSound directories one roles
  pub entries : entries_in (directory_of directories) (frame_bytes one) ≡ entries_in (directory_of directories) (frame_bytes bytes)
  pub entry : (p d page : ℕ) → directory_of directories p ≡ Some d → entry_at (frame_bytes one) d page ≡ entry_at (frame_bytes bytes) d page
  pub in_use : InUse (directory_of directories) (frame_bytes bytes) → InUse (directory_of directories) (frame_bytes one)
  pub tables : (q r : ℕ) → table_in (directory_of directories) (frame_bytes one) q r ≡ table_in (directory_of directories) (frame_bytes bytes) q r

pub frame_written : (directories : List (Option ℕ)) (bytes one : List ℕ) (roles : List Role) (f : ℕ) (new : List ℕ) → IsSound directories bytes roles → Loose (slice_get roles) f → length new ≡ 4096
    → frame_bytes one ≡ with_frame (frame_bytes bytes) f new → length one ≡ length bytes → FrameWritten directories bytes roles one
frame_written directories bytes one roles f new sound loose long_new is long_one =
    let D : Directories = directory_of directories in
    let m : Frames = frame_bytes bytes in
    let R : Roles = slice_get roles in
    let T : Tables D m R = sound.tables in
    let E1 : entries_in D (frame_bytes one) ≡ entries_in D m = ap (entries_in D) is ∙ loose-entries D m R T f new loose in
    record {
      sound = sound_by directories bytes one roles roles _ _ sound long_one refl is (tables-loose D m R T f new loose long_new) E1 sound.pages;
      entries = E1;
      entry = λ p d page live.
          ap (λ x. entry_at x d page) is
          ∙ sym (ap (option_and_then (λ d. entry_at (with_frame m f new) d page)) live) ∙ loose-entry D m R T f new loose (at_page p page) ∙ ap (option_and_then (λ d. entry_at m d page)) live;
      in_use = λ before q r. subst (λ x. InUseAt D x q r) (sym is) (use_loose D m R T f new loose q r (before q r));
      tables = λ q r. ap (λ x. table_in D x q r) is ∙ loose-tables D m R T f new loose q r;
    }

-- an access that completes stores what the machine stores
pub page_stored : (directories : List (Option ℕ)) (bytes one two : List ℕ) (roles : List Role) (p d page at : ℕ) (written : List ℕ) (e : PageEntry) → IsSound directories bytes roles → directory_of directories p ≡ Some d
    → 0x40000 ≤ page → page < 0xf0000 → entry_at (frame_bytes bytes) d page ≡ Some e → e.lazy ≡ false → length (write_at (frame_bytes bytes e.frame) at written) ≡ 4096
    → frame_bytes one ≡ with_frame (frame_bytes bytes) e.frame (write_at (frame_bytes bytes e.frame) at written) → length one ≡ length bytes
    → EntryPut one d page e (record e { accessed = true; dirty = true }) two → length two ≡ length one
    → Touched directories (stored (spaces_in directories bytes) (at_page p page) at written) bytes roles two
unfolding spaces_in
page_stored directories bytes one two roles p d page at written e sound live low high is_entry real long is1 long_one is_two long_two =
    let D : Directories = directory_of directories in
    let m : Frames = frame_bytes bytes in
    let E : Entries = entries_in D m in
    let slot : Slot = at_page p page in
    let e' : PageEntry = record e { accessed = true; dirty = true } in
    let rules = entry_rules directories bytes roles p d page e sound live is_entry in
    let up : 1 ≤ e.frame = rules.frame real in
    let there : map.get E slot ≡ Some e = get_user D m p d page e live (live_small directories p d sound.pids live) low high is_entry in
    let own = page_held directories bytes roles e.frame sound (sound.pages.pages slot e there) up in
    let w = frame_written directories bytes one roles e.frame (write_at (m e.frame) at written) sound (page_loose (slice_get roles) e.frame own.count own.page) long is1 long_one in
    let rules' : IsKernelEntry e' = record { frame = rules.frame; zero = rules.zero; clean = λ is. cc; right = rules.right; touched = λ _. refl } in
    let h = entry_put directories one two roles p d page e e' w.sound live low high (w.entry p d page live ∙ is_entry) rules' refl is_two long_two in
    let E2 : entries_in D (frame_bytes two) ≡ map.insert E slot e' = h.entries ∙ ap (λ x. map.insert x slot e') w.entries in
    record {
      sound = h.sound;
      spaces = h.spaces ∙ (λ i. spaces_of (map.insert (w.entries i) slot e') (is1 i)) ∙ store_refines E m slot e at written there (ne_eqb e.frame 0 (λ z. omega (arith, z, up)));
      cost = (λ i. total_cost directories (spaces_of (E2 i) (frame_bytes two))) ∙ total-kept directories E m (frame_bytes two) slot e e' there;
      in_use = λ before. h.in_use (w.in_use before);
      lazy = ap (λ x. holders_of x 0) E2 ∙ lazy-same E slot e e' there refl;
      stay = places_put D m D (frame_bytes two) slot e e' there refl E2 (λ q r t found. h.tables q r ∙ w.tables q r ∙ found);
    }

-- an entry's flags alone were written, and its slot's cell has the same
pub flags_set : (directories : List (Option ℕ)) (bytes two : List ℕ) (roles : List Role) (p d page : ℕ) (e : PageEntry)
    (write accessed dirty : Bool) (c : Cell) → IsSound directories bytes roles → directory_of directories p ≡ Some d
    → 0x40000 ≤ page → page < 0xf0000 → entry_at (frame_bytes bytes) d page ≡ Some e
    → IsKernelEntry (record e { write = write; accessed = accessed; dirty = dirty })
    → EntryPut bytes d page e (record e { write = write; accessed = accessed; dirty = dirty }) two
    → length two ≡ length bytes
    → c ≡ record (cell_of (entries_in (directory_of directories) (frame_bytes bytes)) (frame_bytes bytes) (at_page p page)
    e) { write = write; accessed = accessed; dirty = dirty }
    → Touched directories (map.insert (spaces_in directories bytes) (at_page p page) c) bytes roles two
unfolding spaces_in
flags_set directories bytes two roles p d page e write accessed dirty c sound live low high here rules put long cell =
    let m : Frames = frame_bytes bytes in
    let E : Entries = entries_in (directory_of directories) m in
    let slot : Slot = at_page p page in
    let e' : PageEntry = record e { write = write; accessed = accessed; dirty = dirty } in
    let h = entry_put directories bytes two roles p d page e e' sound live low high here rules refl put long in
    record {
      sound = h.sound;
      spaces = h.spaces ∙ flags_refine E m slot e e' h.named refl
          ∙ ap (map.insert (spaces_of E m) slot)
          (ap (λ (x : Cell). record x { write = write; may = e.may; accessed = accessed; dirty = dirty })
          (cell_at E m slot e h.named) ∙ sym cell);
      cost = (λ i. total_cost directories (spaces_of (h.entries i) (frame_bytes two))) ∙ total-kept directories E m (frame_bytes two) slot e e' h.named;
      in_use = h.in_use;
      lazy = ap (λ x. holders_of x 0) h.entries ∙ lazy-same E slot e e' h.named refl;
      stay = places_put (directory_of directories) m (directory_of directories) (frame_bytes two) slot e e' h.named refl h.entries (λ q r t found. h.tables q r ∙ found);
    }

pub length-write_at : (frame : List ℕ) (at : ℕ) (new : List ℕ) → at + length new ≤ length frame → length (write_at frame at new) ≡ length frame
length-write_at frame at new fits = grind (arith, length-append, length-take-le, length-drop)

-- ---- Bytes of a page, by their place in memory

pub byte_is_write : (frame : List ℕ) (at v : ℕ) → at < length frame → slice_set frame at (v % 256) ≡ write_at frame at (bytes_of 1 v)
byte_is_write frame at v l = grind (arith, set_split, append_assoc)

pub byte_placed : (bytes one : List ℕ) (f at v : ℕ) → Inside bytes f → at < 4096 → one ≡ slice_set bytes (4096 * f + at) v
    → frame_bytes one ≡ with_frame (frame_bytes bytes) f (slice_set (frame_bytes bytes f) at v)
byte_placed bytes one f at v i l is = ap frame_bytes is ∙ frames-with_byte bytes f at v l i.fits

-- a word of a page, by its place in memory
pub word_placed : (bytes one : List ℕ) (f at word : ℕ) → Inside bytes f → at + 4 ≤ 4096 → one ≡ with_word bytes (4096 * f + at) word
    → frame_bytes one ≡ with_frame (frame_bytes bytes) f (with_word (frame_bytes bytes f) at word)
word_placed bytes one f at word i l is = ap frame_bytes is ∙ frames-with_word_at bytes f at word l i.fits

-- ---- Entries that were read

-- a frame other than frame 0 that a slot's entry names is a page
pub page_of_name : (directories : List (Option ℕ)) (bytes : List ℕ) (roles : List Role) (slot : Slot) (f : ℕ) → IsSound directories bytes roles → Names (entries_in (directory_of directories) (frame_bytes bytes)) slot f → 1 ≤ f → HasPage roles f
page_of_name directories bytes roles slot f sound given up = page_held directories bytes roles f sound (subst (λ g. HoldsPage (slice_get roles g)) given.2 (sound.pages.pages slot given.0 given.1)) up

-- the entry that was read is the one that the map has
pub named_entry : (directories : List (Option ℕ)) (bytes : List ℕ) (roles : List Role) (p d page : ℕ) (e : PageEntry) → IsSound directories bytes roles → directory_of directories p ≡ Some d → 0x40000 ≤ page → page < 0xf0000
    → entry_at (frame_bytes bytes) d page ≡ Some e → Names (entries_in (directory_of directories) (frame_bytes bytes)) (at_page p page) e.frame
named_entry directories bytes roles p d page e sound live low high is = grind (arith, get_user, live_small)

-- where a store through an entry goes
pub record Place (bytes : List ℕ) (roles : List Role) (d page : ℕ) (e : PageEntry) : Type 0 where
  pub inside : Inside bytes e.frame
  pub loose : Loose (slice_get roles) e.frame
  pub long : length (frame_bytes bytes e.frame) ≡ 4096
  pub table : is_some (table_of (frame_bytes bytes) d (slot_number page)) ≡ true

pub stored_place : (directories : List (Option ℕ)) (bytes : List ℕ) (roles : List Role) (p d page : ℕ) (e : PageEntry) → IsSound directories bytes roles → directory_of directories p ≡ Some d → 0x40000 ≤ page → page < 0xf0000
    → entry_at (frame_bytes bytes) d page ≡ Some e → e.lazy ≡ false → Place bytes roles d page e
stored_place directories bytes roles p d page e sound live low high is real =
    let n = named_entry directories bytes roles p d page e sound live low high is in
    let r = page_of_name directories bytes roles (at_page p page) e.frame sound n ((entry_rules directories bytes roles p d page e sound live is).frame real) in
    record {
      inside = inside directories bytes roles e.frame (Page r.count) sound r.page;
      loose = page_loose (slice_get roles) e.frame r.count r.page;
      long = sound.tables.long e.frame (Page r.count) r.page;
      table = ap is_some (found (directory_of directories) (frame_bytes bytes) p d page e is).there;
    }

-- the frame that an entry names lies in memory
pub named_inside : (directories : List (Option ℕ)) (bytes : List ℕ) (roles : List Role) (p d page : ℕ) (e : PageEntry) → IsSound directories bytes roles → directory_of directories p ≡ Some d → 0x40000 ≤ page → page < 0xf0000
    → entry_at (frame_bytes bytes) d page ≡ Some e → Inside bytes e.frame
named_inside directories bytes roles p d page e sound live low high is =
    let there = get_user (directory_of directories) (frame_bytes bytes) p d page e live (live_small directories p d sound.pids live) low high is in
    holds_inside directories bytes roles e.frame sound (sound.pages.pages (at_page p page) e there)

-- a page keeps its length under a store
pub written_long : (frame : List ℕ) (at : ℕ) (size : Size) (value : ℕ) → length frame ≡ 4096 → at + byte_count size ≤ 4096 → length (write_at frame at (bytes_of (byte_count size) value)) ≡ 4096
written_long frame at size value long l = length-write_at frame at (bytes_of (byte_count size) value) (let n = length-bytes_of (byte_count size) value in omega (arith, n, l, long)) ∙ long

-- the cell of a slot whose entry was read
pub cell_read : (directories : List (Option ℕ)) (bytes : List ℕ) (p d page : ℕ) (e : PageEntry) → directory_of directories p ≡ Some d → p < 64 → 0x40000 ≤ page → page < 0xf0000 → entry_at (frame_bytes bytes) d page ≡ Some e
    → cell_or_fresh (spaces_in directories bytes) (at_page p page) ≡ cell_of (entries_in (directory_of directories) (frame_bytes bytes)) (frame_bytes bytes) (at_page p page) e
unfolding spaces_in
cell_read directories bytes p d page e live few low high is = grind (arith, cell_at, get_user)
