-- Where each slot's walk leads, and when it leads to the same frame after a change.
use Rattle.std.specs.Prelude.{◌≡◌, ◌⊎◌, ◌<◌, ◌^◌, ℕ, Bool, true, false, ◌&&◌, ◌==◌, Option, Some, Ok, slice_get, option_map, option_and_then}
use Rattle.address_space.specs.Below.{frame_number, is_lazy, is_dirty, frame_bytes, Free, Page, PageEntry, Frames, slot_number, Access, walk_of}
use Rattle.address_space.specs.Spaces.{Slot, at_page, slot_at, is_slot, is_of}
use Rattle.address_space.specs.Cells.{Entries}
use Rattle.address_space.specs.Image.{Image, directory_at, table_at, page_word, is_lazy_at}
use Rattle.address_space.specs.View.{Directories, entries_in, table_in}
use Rattle.page_words.specs.FiniteMap as map

-- the directory of a slot's process, and the frame that the slot's word names: frame 0 for a lazy page
abbrev pub way_of : Image → Slot → Option (ℕ × ℕ)
way_of image slot = option_and_then (λ directory.
    option_map (λ word. (directory, frame_number word)) (page_word image slot)) (directory_at image slot.pid)

-- which slots' ways go, by the frame that the slot names
abbrev pub Gone : Type 0
Gone = Slot → ℕ → Bool

-- none goes
abbrev pub none_goes : Gone
none_goes slot frame = false

-- that of a page of a process
abbrev pub of_page : ℕ → ℕ → Gone
of_page p page slot frame = is_slot p page slot

-- those of a process
abbrev pub of_process : ℕ → Gone
of_process p slot frame = is_of p slot

-- that of a page of a process, where it is lazy
abbrev pub of_lazy : ℕ → ℕ → Gone
of_lazy p page slot frame = is_slot p page slot && (frame == 0)

-- a way that a process could have, of a mapped page or not, isn't gone
pub record Spares (gone : Gone) (p : ℕ) : Type 0 where
  pub page : ℕ
  pub frame : ℕ
  pub stays : gone (at_page p page) frame ≡ false

-- the walks that a change leaves, except those that are gone
pub record FramesStay (gone : Gone) (old new : Image) : Type 0 where
  -- a process keeps its directory, unless it is gone as a whole
  pub directories : (p directory : ℕ) → Spares gone p → directory_at old p ≡ Some directory
      → directory_at new p ≡ Some directory
  -- each way leads through the same table afterwards
  pub tables : (slot : Slot) (directory frame table : ℕ) → gone slot frame ≡ false
      → way_of old slot ≡ Some (directory, frame) → table_at old slot.pid (slot_number slot.page) ≡ Some table
      → table_at new slot.pid (slot_number slot.page) ≡ Some table
  -- and to the same frame
  pub ways : (slot : Slot) (directory frame : ℕ) → gone slot frame ≡ false
      → way_of old slot ≡ Some (directory, frame) → way_of new slot ≡ Some (directory, frame)

-- a frame is a page's, or free
abbrev pub IsLoose : Image → ℕ → Type 0
IsLoose image f = (slice_get image.roles f ≡ Some Free) ⊎ ((c : ℕ) × (slice_get image.roles f ≡ Some (Page c)))

-- each such frame keeps its bytes, and is one afterwards: it is cleared when it is given, not when it is freed
pub record LooseStay (old new : Image) : Type 0 where
  pub each : (f : ℕ) → IsLoose old f → (frame_bytes new.bytes f ≡ frame_bytes old.bytes f) × IsLoose new f

-- each walk that finds a frame goes the way of its slot, and the lazy slots, which are clean, are those whose way
-- leads to frame 0
pub record WaysAgree (image : Image) : Type 0 where
  pub lead : (p directory address frame : ℕ) (access : Access) → directory_at image p ≡ Some directory
      → address < 2 ^ 32 → walk_of image.bytes directory address access ≡ Ok frame
      → way_of image (slot_at p address) ≡ Some (directory, frame)
  pub lazy : (slot : Slot) (directory frame : ℕ) → way_of image slot ≡ Some (directory, frame)
      → is_lazy_at image slot ≡ (frame == 0)
  pub clean : (slot : Slot) (word : ℕ) → page_word image slot ≡ Some word → is_lazy word ≡ true → is_dirty word ≡ false

-- ---- By entries

-- the frame of a slot's entry
abbrev pub entry_frame : Entries → Slot → Option ℕ
entry_frame entries slot = option_map (λ (e : PageEntry). e.frame) (map.get entries slot)

-- entries that aren't gone keep their frames
abbrev pub EntriesStay : Gone → Entries → Entries → Type 0
EntriesStay gone old new = (slot : Slot) (frame : ℕ) → gone slot frame ≡ false → entry_frame old slot ≡ Some frame
    → entry_frame new slot ≡ Some frame

-- the table of a slot's region, where the slot's process has one
abbrev pub slot_table : Directories → Frames → Slot → Option ℕ
slot_table D m slot = table_in D m slot.pid (slot_number slot.page)

-- each entry stays on its frame, and in its table
pub record PlacesStay (gone : Gone) (D : Directories) (m : Frames) (D' : Directories) (m' : Frames) : Type 0 where
  pub entries : EntriesStay gone (entries_in D m) (entries_in D' m')
  pub tables : (slot : Slot) (frame table : ℕ) → gone slot frame ≡ false
      → entry_frame (entries_in D m) slot ≡ Some frame → slot_table D m slot ≡ Some table
      → slot_table D' m' slot ≡ Some table
