-- Where a page is, as directories and memory say, and what is written there.
use Rattle.std.specs.Prelude.{◌≡◌, ◌⊎◌, ℕ, ◌+◌, ◌*◌, ◌≤◌, Bool, true, false, List, length, replicate, Option, Some, None, is_some, slice_get, slice_set, option_and_then, option_map}
use Rattle.address_space.specs.Below.{slot_number, index_number, IsUserPage, frame_bytes, word_in, with_frame, with_frame_bytes, Role, Page, Table, IsTaken, Frames, table_of, word_entry, with_entry, with_table, PageEntry}
use Rattle.address_space.specs.declared.place.Found.{Found}
use Rattle.address_space.specs.Spaces.{need, write_at}
use Rattle.address_space.specs.View.{Directories, directory_of, spaces_in, table_in, total_cost}
use Rattle.address_space.specs.Sound.{Inside, IsSpaces}

-- ---- Where a page is

-- what a table has at a page
abbrev pub found_by : Frames → ℕ → ℕ → Option Found
found_by m page t = option_map (λ e. record { page = page; table = t; entry = e }) (word_entry (word_in (m t) (index_number page)))

-- what a process has at a page
abbrev pub found_in : Directories → Frames → ℕ → ℕ → Option Found
found_in D m p page = option_and_then (found_by m page) (table_in D m p (slot_number page))

-- its entry
abbrev pub entry_found : Option Found → Option PageEntry
entry_found x = option_map (λ (f : Found). f.entry) x

-- whether it is lazy
abbrev pub lazy_found : Option Found → Bool
lazy_found None = false
lazy_found (Some f) = f.entry.lazy

-- the table and the frame of what was found lie in memory
pub record LiesIn (bytes : List ℕ) (found : Found) : Type 0 where
  pub table : 4096 * found.table + 4096 ≤ length bytes
  pub frame : Inside bytes found.entry.frame

-- ---- What is written there

-- what was found has this entry from now on; or it stays, as it was that already
abbrev pub EntryIs : List ℕ → Found → PageEntry → List ℕ → Type 0
EntryIs bytes found e bytes' = ((e ≡ found.entry) × (bytes' ≡ bytes)) ⊎ (frame_bytes bytes' ≡ with_entry (frame_bytes bytes) found.table found.page e)

-- bytes of its frame were written, and then its entry
pub record BytesStored (bytes : List ℕ) (found : Found) (at : ℕ) (new : List ℕ) (bytes' : List ℕ) : Type 0 where
  pub between : List ℕ
  pub written : frame_bytes between ≡ with_frame (frame_bytes bytes) found.entry.frame (write_at (frame_bytes bytes found.entry.frame) at new)
  pub between_long : length between ≡ length bytes
  pub entry : EntryIs between found (record found.entry { accessed = true; dirty = true }) bytes'
  pub long : length bytes' ≡ length between

-- it got a frame of zeros of its own, and has this entry
pub record FrameGiven (bytes : List ℕ) (roles : List Role) (found : Found) (e : PageEntry) (bytes' : List ℕ) (roles' : List Role) : Type 0 where
  pub frame : ℕ
  pub same : e ≡ record found.entry { frame = frame; lazy = false }
  pub taken : IsTaken roles frame (Page 1) roles'
  pub between : List ℕ
  pub zeros : between ≡ with_frame_bytes bytes frame (replicate 4096 0)
  pub between_long : length between ≡ length bytes
  pub entry : frame_bytes bytes' ≡ with_entry (frame_bytes between) found.table found.page (record found.entry { frame = frame; lazy = false })
  pub long : length bytes' ≡ length between

-- ---- What is linked, counted and mapped

-- a slot of a directory has this table: the one that it had
pub record TableStays (bytes : List ℕ) (roles : List Role) (d s t : ℕ) (bytes' : List ℕ) (roles' : List Role) : Type 0 where
  pub there : table_of (frame_bytes bytes) d s ≡ Some t
  pub same_bytes : bytes' ≡ bytes
  pub same_roles : roles' ≡ roles

-- or a blank one, which was linked
pub record TableIsNew (bytes : List ℕ) (roles : List Role) (p d s t : ℕ) (bytes' : List ℕ) (roles' : List Role) : Type 0 where
  pub none : table_of (frame_bytes bytes) d s ≡ None
  pub taken : IsTaken roles t (Table p s) roles'
  pub linked : frame_bytes bytes' ≡ with_table (frame_bytes bytes) d s t
  pub long : length bytes' ≡ length bytes

-- a table of the region: the one that was there, or a new one
abbrev pub TableReady : List ℕ → List Role → ℕ → ℕ → ℕ → ℕ → List ℕ → List Role → Type 0
TableReady bytes roles p d s t bytes' roles' = TableStays bytes roles d s t bytes' roles' ⊎ TableIsNew bytes roles p d s t bytes' roles'

-- where a process has room for a page
pub record TakesPage (directories : List (Option ℕ)) (bytes : List ℕ) (roles : List Role) (p page : ℕ) : Type 0 where
  pub user : IsUserPage page
  pub live : is_some (directory_of directories p) ≡ true
  pub spaces : IsSpaces directories bytes roles
  pub room : 1 + total_cost directories (spaces_in directories bytes) + need (spaces_in directories bytes) p page ≤ length roles

-- its region has this table, by the process's directory
abbrev pub TableGot : List (Option ℕ) → List ℕ → List Role → ℕ → ℕ → ℕ → List ℕ → List Role → Type 0
TableGot directories bytes roles p page t bytes' roles' = (d : ℕ) × (directory_of directories p ≡ Some d) × TableReady bytes roles p d (slot_number page) t bytes' roles'

-- a table maps one page more
abbrev pub CountedUp : List ℕ → ℕ → List ℕ → Type 0
CountedUp counts t counts' = (n : ℕ) → slice_get counts t ≡ Some n → counts' ≡ slice_set counts t (n + 1)

-- the entry of the copy of a page: of a lazy page it is lazy, on no frame of its own
pub record CopiedLazy (bytes : List ℕ) (roles : List Role) (e e' : PageEntry) (bytes' : List ℕ) (roles' : List Role) : Type 0 where
  pub lazy : e.lazy ≡ true
  pub entry : e' ≡ record e { frame = e.frame; accessed = false; dirty = false }
  pub same_bytes : bytes' ≡ bytes
  pub same_roles : roles' ≡ roles

-- and of any other page it is on a frame of its own, with equal bytes
pub record CopiedReal (bytes : List ℕ) (roles : List Role) (e e' : PageEntry) (bytes' : List ℕ) (roles' : List Role) : Type 0 where
  pub real : e.lazy ≡ false
  pub frame : ℕ
  pub taken : IsTaken roles frame (Page 1) roles'
  pub entry : e' ≡ record e { frame = frame; accessed = false; dirty = false }
  pub copy : bytes' ≡ with_frame_bytes bytes frame (frame_bytes bytes e.frame)
  pub long : length bytes' ≡ length bytes

-- the copy of an entry, lazy or real
abbrev pub EntryCopied : List ℕ → List Role → PageEntry → PageEntry → List ℕ → List Role → Type 0
EntryCopied bytes roles e e' bytes' roles' = CopiedLazy bytes roles e e' bytes' roles' ⊎ CopiedReal bytes roles e e' bytes' roles'
