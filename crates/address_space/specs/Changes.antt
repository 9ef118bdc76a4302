-- What each change of directories, memory and roles leaves.
use Rattle.std.specs.Prelude.{option_map, ◌≡◌, ◌≢◌, ◌⊎◌, ℕ, ◌+◌, ◌-◌, ◌*◌, ◌<◌, ◌≤◌, Bool, true, false, not, ◌&&◌, List, length, Option, Some, None, is_some}
use Rattle.address_space.specs.Below.{slot_number, index_number, frame_number, is_present, frame_bytes, word_in, Role, IsReleased, PageEntry, count_range, Frames, dir_word, table_of, with_entry, is_lazy_entry}
use Rattle.address_space.specs.Spaces.{cell_or_fresh, Slot, Spaces, cost, need, fresh, joined, without, is_slot, is_of, at_page, copy_of, copied}
use Rattle.address_space.specs.Cells.{holders_of}
use Rattle.address_space.specs.Stays.{FramesStay, LooseStay, PlacesStay, none_goes, of_page, of_lazy, of_process}
use Rattle.address_space.specs.Image.{image_of}
use Rattle.address_space.specs.View.{View, table_in, total_cost, spaces_in, entries_in, entry_in, directory_of}
use Rattle.address_space.specs.Sound.{InUse, IsSound, InUseAt, weight_in, IsSpaces}
use Rattle.page_words.specs.FiniteMap as map
use Rattle.page_words.specs.FiniteSet as set

-- how many frames a slot without a table needs more
abbrev pub table_need : Option ℕ → ℕ
table_need None = 1
table_need (Some table) = 0

-- a slot has a table, which was linked blank where it had none
pub record TableGiven (directories : List (Option ℕ)) (p s : ℕ) (bytes : List ℕ) (roles : List Role) (bytes' : List ℕ) (roles' : List Role) : Type 0 where
  pub sound : IsSound directories bytes' roles'
  pub entries : entries_in (directory_of directories) (frame_bytes bytes') ≡ entries_in (directory_of directories) (frame_bytes bytes)
  pub spaces : spaces_in directories bytes' ≡ spaces_in directories bytes
  pub table : (t : ℕ) × (table_in (directory_of directories) (frame_bytes bytes') p s ≡ Some t)
  -- each table that was there is there
  pub tables : (q r t : ℕ) → table_in (directory_of directories) (frame_bytes bytes) q r ≡ Some t
      → table_in (directory_of directories) (frame_bytes bytes') q r ≡ Some t
  pub kept : (q r t : ℕ) → table_in (directory_of directories) (frame_bytes bytes) q r ≡ Some t → frame_bytes bytes' t ≡ frame_bytes bytes t
  pub weight : weight_in directories bytes' roles' ≡ weight_in directories bytes roles + table_need (table_in (directory_of directories) (frame_bytes bytes) p s)
  pub length : length roles' ≡ length roles
  pub others : (q r : ℕ) → (q ≡ p → r ≡ s → ⊥) → InUseAt (directory_of directories) (frame_bytes bytes) q r → InUseAt (directory_of directories) (frame_bytes bytes') q r

-- a slot has an entry more: what the frames and the costs know of it
pub record SlotAdded (directories : List (Option ℕ)) (p page : ℕ) (bytes : List ℕ) (roles : List Role) (bytes' : List ℕ) (roles' : List Role) : Type 0 where
  pub sound : IsSound directories bytes' roles'
  pub cost : total_cost directories (spaces_in directories bytes') ≡ total_cost directories (spaces_in directories bytes) + need (spaces_in directories bytes) p page
  pub weight : weight_in directories bytes' roles' ≡ weight_in directories bytes roles + 1
  pub length : length roles' ≡ length roles
  pub own : InUseAt (directory_of directories) (frame_bytes bytes') p (slot_number page)
  pub others : (q r : ℕ) → (q ≡ p → r ≡ slot_number page → ⊥) → InUseAt (directory_of directories) (frame_bytes bytes) q r → InUseAt (directory_of directories) (frame_bytes bytes') q r
  pub stay : PlacesStay none_goes (directory_of directories) (frame_bytes bytes) (directory_of directories) (frame_bytes bytes')

-- a page of zeros was mapped
pub record PageAdded (directories : List (Option ℕ)) (p page : ℕ) (write : Bool) (bytes : List ℕ) (roles : List Role) (bytes' : List ℕ) (roles' : List Role) : Type 0 where
  pub slot : SlotAdded directories p page bytes roles bytes' roles'
  pub spaces : spaces_in directories bytes' ≡ map.insert (spaces_in directories bytes) (at_page p page) (fresh (at_page p page) write)
  pub lazy : (e : PageEntry) × (entry_in (directory_of directories) (frame_bytes bytes') (at_page p page) ≡ Some e) × (e.lazy ≡ true)

-- a slot joined the group of another
pub record SlotJoined (directories : List (Option ℕ)) (giver giver_page p page : ℕ) (right : Bool) (bytes : List ℕ) (roles : List Role) (bytes' : List ℕ) (roles' : List Role) : Type 0 where
  pub slot : SlotAdded directories p page bytes roles bytes' roles'
  pub spaces : spaces_in directories bytes' ≡ joined (spaces_in directories bytes) (at_page giver giver_page) (at_page p page) right

-- whether a store to an entry succeeds immediately: the page may be written, and has a frame of its own
abbrev pub takes_stores_through : Option PageEntry → Bool
takes_stores_through None = false
takes_stores_through (Some e) = e.write && not e.lazy

-- a page's entry, which was one, is another from now on; or it stays, as it was that already
abbrev pub EntryPut : List ℕ → ℕ → ℕ → PageEntry → PageEntry → List ℕ → Type 0
EntryPut bytes directory page e e' bytes' = ((e' ≡ e) × (bytes' ≡ bytes))
    ⊎ (frame_bytes bytes' ≡ with_entry (frame_bytes bytes) (frame_number (dir_word (frame_bytes bytes) directory (slot_number page))) page e')

-- the entry or the bytes of a mapped slot changed, which left these spaces
pub record Touched (directories : List (Option ℕ)) (spaces' : Spaces) (bytes : List ℕ) (roles : List Role) (bytes' : List ℕ) : Type 0 where
  pub sound : IsSound directories bytes' roles
  pub spaces : spaces_in directories bytes' ≡ spaces'
  pub cost : total_cost directories (spaces_in directories bytes') ≡ total_cost directories (spaces_in directories bytes)
  pub in_use : InUse (directory_of directories) (frame_bytes bytes) → InUse (directory_of directories) (frame_bytes bytes')
  -- the same slots are lazy: those that name frame 0
  pub lazy : holders_of (entries_in (directory_of directories) (frame_bytes bytes')) 0 ≡ holders_of (entries_in (directory_of directories) (frame_bytes bytes)) 0
  -- and each is on the frame that it was on
  pub stay : PlacesStay none_goes (directory_of directories) (frame_bytes bytes) (directory_of directories) (frame_bytes bytes')

-- a lazy page got a frame of its own
pub record PageFilled (directories : List (Option ℕ)) (p page : ℕ) (bytes : List ℕ) (roles : List Role) (bytes' : List ℕ) (roles' : List Role) : Type 0 where
  pub after : IsSpaces directories bytes' roles'
  pub spaces : spaces_in directories bytes' ≡ spaces_in directories bytes
  pub real : (e : PageEntry) × (entry_in (directory_of directories) (frame_bytes bytes') (at_page p page) ≡ Some e) × (e.lazy ≡ false)
  -- no other slot became lazy
  pub fewer : (q : Slot) → set.contains (holders_of (entries_in (directory_of directories) (frame_bytes bytes)) 0) q ≡ false → set.contains (holders_of (entries_in (directory_of directories) (frame_bytes bytes')) 0) q ≡ false
  pub stay : PlacesStay (of_lazy p page) (directory_of directories) (frame_bytes bytes) (directory_of directories) (frame_bytes bytes')
  -- no other entry changed, and no table
  pub tables : (q r : ℕ) → table_in (directory_of directories) (frame_bytes bytes') q r ≡ table_in (directory_of directories) (frame_bytes bytes) q r
  pub others : (q : Slot) → q ≢ at_page p page → entry_in (directory_of directories) (frame_bytes bytes') q ≡ entry_in (directory_of directories) (frame_bytes bytes) q
  pub length : length roles' ≡ length roles

-- a process got a blank directory
pub record SpaceAdded (directories : List (Option ℕ)) (p : ℕ) (bytes : List ℕ) (roles : List Role) (directories' : List (Option ℕ)) (bytes' : List ℕ) (roles' : List Role) : Type 0 where
  pub after : IsSpaces directories' bytes' roles'
  pub spaces : spaces_in directories' bytes' ≡ spaces_in directories bytes
  pub cost : total_cost directories' (spaces_in directories' bytes') ≡ total_cost directories (spaces_in directories bytes) + 1
  pub live : is_some (directory_of directories' p) ≡ true
  pub others : (q : ℕ) → q ≢ p → directory_of directories' q ≡ directory_of directories q
  pub stay : PlacesStay none_goes (directory_of directories) (frame_bytes bytes) (directory_of directories') (frame_bytes bytes')
  pub entries : (slot : Slot) → entry_in (directory_of directories') (frame_bytes bytes') slot ≡ entry_in (directory_of directories) (frame_bytes bytes) slot
  pub length : length roles' ≡ length roles

-- a table that was unlinked is free
pub record TableFreed (roles : List Role) (freed : Option ℕ) (roles' : List Role) : Type 0 where
  pub kept : freed ≡ None → roles' ≡ roles
  pub released : (t : ℕ) → freed ≡ Some t → IsReleased roles t roles'

-- the frame of an entry that went was released, where it had one
pub record EntryLeft (roles : List Role) (e : PageEntry) (roles' : List Role) : Type 0 where
  pub lazy : e.lazy ≡ true → roles' ≡ roles
  pub real : e.lazy ≡ false → IsReleased roles e.frame roles'

-- a slot left its group
pub record SlotRemoved (directories : List (Option ℕ)) (p page : ℕ) (bytes : List ℕ) (roles : List Role) (bytes' : List ℕ) (roles' : List Role) : Type 0 where
  pub after : IsSpaces directories bytes' roles'
  pub spaces : spaces_in directories bytes' ≡ without (spaces_in directories bytes) (is_slot p page)
  pub stay : PlacesStay (of_page p page) (directory_of directories) (frame_bytes bytes) (directory_of directories) (frame_bytes bytes')
  pub length : length roles' ≡ length roles

-- no page of a process is mapped
abbrev pub IsEmptySpace : Spaces → ℕ → Type 0
IsEmptySpace spaces p = (page : ℕ) → map.get spaces (at_page p page) ≡ None

-- a process's directory, without any page, went
pub record DirectoryDropped (directories : List (Option ℕ)) (p : ℕ) (bytes : List ℕ) (roles : List Role) (directories' : List (Option ℕ)) (roles' : List Role) : Type 0 where
  pub after : IsSpaces directories' bytes roles'
  pub spaces : spaces_in directories' bytes ≡ spaces_in directories bytes
  pub none : directory_of directories' p ≡ None
  pub others : (q : ℕ) → q ≢ p → directory_of directories' q ≡ directory_of directories q
  pub stay : PlacesStay none_goes (directory_of directories) (frame_bytes bytes) (directory_of directories') (frame_bytes bytes)
  pub length : length roles' ≡ length roles

-- a page of a process has a copy at the same page of another, which is lazy where the page is
pub record SlotCopied (directories : List (Option ℕ)) (from to page : ℕ) (bytes : List ℕ) (roles : List Role) (bytes' : List ℕ) (roles' : List Role) : Type 0 where
  pub slot : SlotAdded directories to page bytes roles bytes' roles'
  pub spaces : spaces_in directories bytes' ≡ map.insert (spaces_in directories bytes) (at_page to page) (copy_of (at_page to page) (cell_or_fresh (spaces_in directories bytes) (at_page from page)))
  pub entries : (e : PageEntry) × (entries_in (directory_of directories) (frame_bytes bytes') ≡ map.insert (entries_in (directory_of directories) (frame_bytes bytes)) (at_page to page) e) × (e.lazy ≡ is_lazy_entry (entry_in (directory_of directories) (frame_bytes bytes) (at_page from page)))
  -- each slot of a directory leads to the table that it led to
  pub linked : (q r : ℕ) → table_in (directory_of directories) (frame_bytes bytes') q r ≡ table_in (directory_of directories) (frame_bytes bytes) q r

-- a page of a process has a copy at the same page of another, and the frames and the costs agree again
pub record PageCopied (directories : List (Option ℕ)) (from to page : ℕ) (bytes : List ℕ) (roles : List Role) (bytes' : List ℕ) (roles' : List Role) : Type 0 where
  pub after : IsSpaces directories bytes' roles'
  pub spaces : spaces_in directories bytes' ≡ map.insert (spaces_in directories bytes) (at_page to page) (copy_of (at_page to page) (cell_or_fresh (spaces_in directories bytes) (at_page from page)))
  pub entries : (e : PageEntry) × (entries_in (directory_of directories) (frame_bytes bytes') ≡ map.insert (entries_in (directory_of directories) (frame_bytes bytes)) (at_page to page) e) × (e.lazy ≡ is_lazy_entry (entry_in (directory_of directories) (frame_bytes bytes) (at_page from page)))
  pub stay : PlacesStay none_goes (directory_of directories) (frame_bytes bytes) (directory_of directories) (frame_bytes bytes')
  pub tables : (q r t : ℕ) → table_in (directory_of directories) (frame_bytes bytes) q r ≡ Some t
      → table_in (directory_of directories) (frame_bytes bytes') q r ≡ Some t
  pub length : length roles' ≡ length roles

-- the pages of a process below one have copies at another's, which had none
pub record CopiedBelow (directories : List (Option ℕ)) (from to next : ℕ) (bytes : List ℕ) (roles : List Role) (bytes' : List ℕ) (roles' : List Role) : Type 0 where
  pub after : IsSpaces directories bytes' roles'
  pub others : (slot : Slot) → slot.pid ≢ to → map.get (spaces_in directories bytes') slot ≡ map.get (spaces_in directories bytes) slot
  pub below : (page : ℕ) → page < next → map.get (spaces_in directories bytes') (at_page to page) ≡ option_map (copy_of (at_page to page)) (map.get (spaces_in directories bytes) (at_page from page))
  pub rest : (page : ℕ) → next ≤ page → map.get (spaces_in directories bytes') (at_page to page) ≡ None
  pub other_entries : (slot : Slot) → slot.pid ≢ to → map.get (entries_in (directory_of directories) (frame_bytes bytes')) slot ≡ map.get (entries_in (directory_of directories) (frame_bytes bytes)) slot
  pub stay : PlacesStay none_goes (directory_of directories) (frame_bytes bytes) (directory_of directories) (frame_bytes bytes')
  pub lazy : (page : ℕ) → page < next → is_lazy_entry (map.get (entries_in (directory_of directories) (frame_bytes bytes')) (at_page to page)) ≡ is_lazy_entry (map.get (entries_in (directory_of directories) (frame_bytes bytes)) (at_page from page))
  pub length : length roles' ≡ length roles
  pub low : 0x40000 ≤ next
  pub high : next ≤ 0xf0000

-- a copy has reached an index of a region of the source, whose table this is; it began when the other process had no
-- page, and the costs left room for all
pub record CopyIn (directories : List (Option ℕ)) (from source to slot table index : ℕ) (bytes : List ℕ) (roles : List Role) (bytes' : List ℕ) (roles' : List Role) : Type 0 where
  pub home : directory_of directories from ≡ Some source
  pub before : IsSpaces directories bytes roles
  pub empty : IsEmptySpace (spaces_in directories bytes) to
  pub room : cost (spaces_in directories bytes) from + total_cost directories (spaces_in directories bytes) ≤ length roles
  pub so_far : CopiedBelow directories from to (1024 * slot + index) bytes roles bytes' roles'
  pub there : table_of (frame_bytes bytes') source slot ≡ Some table

-- how many words of a table are present from an index on
abbrev pub words_left : List ℕ → ℕ → ℕ → ℕ
words_left bytes table index = count_range (λ i. is_present (word_in (frame_bytes bytes table) i)) index (1024 - index)

-- some copy has reached the first page of a region
pub record IsCopying (directories : List (Option ℕ)) (to slot table : ℕ) (bytes' : List ℕ) (roles' : List Role) : Type 0 where
  pub from : ℕ
  pub source : ℕ
  pub bytes : List ℕ
  pub roles : List Role
  pub begun : CopyIn directories from source to slot table 0 bytes roles bytes' roles'

-- all pages of a process have copies at another's
pub record PagesCopied (directories : List (Option ℕ)) (from to : ℕ) (bytes : List ℕ) (roles : List Role) (bytes' : List ℕ) (roles' : List Role) : Type 0 where
  pub after : IsSpaces directories bytes' roles'
  pub spaces : spaces_in directories bytes' ≡ copied (spaces_in directories bytes) from to
  pub lazy : (page : ℕ) → is_lazy_entry (entry_in (directory_of directories) (frame_bytes bytes') (at_page to page)) ≡ is_lazy_entry (entry_in (directory_of directories) (frame_bytes bytes) (at_page from page))
  pub stay : PlacesStay none_goes (directory_of directories) (frame_bytes bytes) (directory_of directories) (frame_bytes bytes')
  pub length : length roles' ≡ length roles

-- ---- The pages of a process leave, from the lowest on

-- an entry went from a table, whose other words stay; it stays linked, or no word of it is present
pub record EntryGone (m : Frames) (directory table page : ℕ) (m' : Frames) : Type 0 where
  pub words : (i : ℕ) → i ≢ index_number page → word_in (m' table) i ≡ word_in (m table) i
  pub linked : (table_of m' directory (slot_number page) ≡ Some table)
      ⊎ ((table_of m' directory (slot_number page) ≡ None) × ((i : ℕ) → i < 1024 → is_present (word_in (m' table) i) ≡ false))

-- the pages of a process below one have left their groups
pub record DroppedBelow (v : View) (p from : ℕ) (v' : View) : Type 0 where
  pub directories : v'.directories ≡ v.directories
  pub spaces : without v'.spaces (is_of p) ≡ without v.spaces (is_of p)
  pub stay : FramesStay (of_process p) (image_of v) (image_of v')
  pub loose : LooseStay (image_of v) (image_of v')
  pub below : (page : ℕ) → page < from → map.get v'.spaces (at_page p page) ≡ None
  pub length : length v'.roles ≡ length v.roles
  pub low : 0x40000 ≤ from
  pub high : from ≤ 0xf0000
