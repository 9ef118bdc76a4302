-- When directories, memory and roles agree.
use Rattle.std.specs.Prelude.{◌≡◌, ◌≢◌, ℕ, ◌+◌, ◌*◌, ◌^◌, ◌<◌, ◌≤◌, true, List, length, replicate, Option, Some, None, is_some, slice_get, ◌⊎◌}
use Rattle.address_space.specs.Below.{slot_number, IsKernelDirWord, IsKernelTableWord, is_present, frame_bytes, word_in, Role, Reserved, Directory, Table, Page, frames_weight, PageEntry, Frames, dir_word, entry_at}
use Rattle.address_space.specs.Spaces.{Slot}
use Rattle.address_space.specs.Cells.{Entries, holders_of, lazy_count}
use Rattle.address_space.specs.View.{table_in, total_cost, Roles, Directories, spaces_in, entries_in, directory_of}
use Rattle.page_words.specs.FiniteMap as map
use Rattle.page_words.specs.FiniteSet as set

-- the directories and tables: each name of a frame, and the role that says who names it
pub record Tables (D : Directories) (m : Frames) (R : Roles) : Type 0 where
  pub zero_role : R 0 ≡ Some Reserved
  pub zero_bytes : m 0 ≡ replicate 4096 0
  pub reserved : (f : ℕ) → R f ≡ Some Reserved → f ≡ 0
  pub directory : (p d : ℕ) → D p ≡ Some d → R d ≡ Some (Directory p)
  pub directory_back : (p d : ℕ) → R d ≡ Some (Directory p) → D p ≡ Some d
  pub table : (p s t : ℕ) → table_in D m p s ≡ Some t → R t ≡ Some (Table p s)
  pub table_back : (p s t : ℕ) → R t ≡ Some (Table p s) → table_in D m p s ≡ Some t
  pub dir_words : (p d s : ℕ) → D p ≡ Some d → s < 1024 → IsKernelDirWord (dir_word m d s)
  pub outside : (p d s : ℕ) → D p ≡ Some d → s < 1024 → (s < 256) ⊎ (960 ≤ s) → dir_word m d s ≡ 0
  pub table_words : (p s t i : ℕ) → table_in D m p s ≡ Some t → i < 1024 → IsKernelTableWord (word_in (m t) i)
  pub long : (f : ℕ) (r : Role) → R f ≡ Some r → length (m f) ≡ 4096

-- what an entry may name: the reserved frame, or a page
abbrev pub HoldsPage : Option Role → Type 0
HoldsPage role = (role ≡ Some Reserved) ⊎ ((c : ℕ) × (role ≡ Some (Page c)))

-- the pages: each frame that an entry names is frame 0 or a page, whose count is the number of its slots
pub record Pages (E : Entries) (R : Roles) : Type 0 where
  pub pages : (slot : Slot) (e : PageEntry) → map.get E slot ≡ Some e → HoldsPage (R e.frame)
  pub counts : (f c : ℕ) → R f ≡ Some (Page c) → (0 < c) × (c ≡ set.len (holders_of E f))

-- the frames of memory, without the costs
pub record IsSound (directories : List (Option ℕ)) (bytes : List ℕ) (roles : List Role) : Type 0 where
  pub size : length bytes ≡ 4096 * length roles
  pub few : length roles ≤ 1048576
  pub pids : length directories ≡ 64
  pub tables : Tables (directory_of directories) (frame_bytes bytes) (slice_get roles)
  pub pages : Pages (entries_in (directory_of directories) (frame_bytes bytes)) (slice_get roles)

-- the table of a slot, where there is one, has an entry
abbrev pub InUseAt : Directories → Frames → ℕ → ℕ → Type 0
InUseAt D m p s = (t : ℕ) → table_in D m p s ≡ Some t → (i : ℕ) × (i < 1024) × (is_present (word_in (m t) i) ≡ true)

-- each linked table has an entry
abbrev pub InUse : Directories → Frames → Type 0
InUse D m = (p s : ℕ) → InUseAt D m p s

-- what the frames weigh, with one more for each lazy page, as if it had its frame already
abbrev pub weight_in : List (Option ℕ) → List ℕ → List Role → ℕ
weight_in directories bytes roles = frames_weight roles + lazy_count (entries_in (directory_of directories) (frame_bytes bytes))

-- the type's invariant: the frames agree, and with the lazy pages weigh no more than the costs, so that none is missing
pub record IsSpaces (directories : List (Option ℕ)) (bytes : List ℕ) (roles : List Role) : Type 0 where
  pub sound : IsSound directories bytes roles
  pub in_use : InUse (directory_of directories) (frame_bytes bytes)
  pub weighs : weight_in directories bytes roles ≤ 1 + total_cost directories (spaces_in directories bytes)
  pub within : 1 + total_cost directories (spaces_in directories bytes) ≤ length roles

-- a frame lies in memory
pub record Inside (bytes : List ℕ) (f : ℕ) : Type 0 where
  pub fits : 4096 * f + 4096 ≤ length bytes
  pub small : f < 2 ^ 20

-- a slot's entry names a frame
abbrev pub Names : Entries → Slot → ℕ → Type 0
Names E slot f = (e : PageEntry) × (map.get E slot ≡ Some e) × (e.frame ≡ f)

-- no other page of the region has an entry
abbrev pub IsAlone : Frames → ℕ → ℕ → Type 0
IsAlone m directory page = (i : ℕ) → i < 1024 → slot_number page * 1024 + i ≢ page → entry_at m directory (slot_number page * 1024 + i) ≡ None

-- another page of the region has an entry
pub record IsShared (m : Frames) (directory page : ℕ) : Type 0 where
  pub other : ℕ
  pub low : 0x40000 ≤ other
  pub high : other < 0xf0000
  pub region : slot_number other ≡ slot_number page
  pub apart : other ≢ page
  pub mapped : is_some (entry_at m directory other) ≡ true
