-- What memory's own words say: the tables and pages that directories name, when directories, roles and words agree, and
-- which spaces they represent.
use Rattle.std.specs.Prelude.{◌≡◌, ℕ, ◌+◌, ◌*◌, ◌<◌, ◌≤◌, ◌↔◌, Bool, true, false, not, ◌&&◌, nat_lt, nat_le, if◌then◌else◌, IsTrue, MatchBool, List, length, Option, Some, None, slice_get, option_and_then, option_map, unwrap_or}
use Rattle.address_space.specs.Below.{slot_number, index_number, frame_number, is_present, is_accessed, is_dirty, has_may, IsKernelDirWord, frames_in_use, Order, Set, frame_bytes, word_in, Role, Reserved, Directory, Table, Page}
use Rattle.address_space.specs.Spaces.{Slot, slot_order, Cell, Spaces, cell_or_fresh, zeros}
use Rattle.address_space.specs.View.{View, Directories, directory_of}
use Rattle.address_space.specs.ImageWords.{is_lazy_word, lets_write, own_frame, IsTableWord}
use Rattle.page_words.specs.FiniteMap as map
use Rattle.page_words.specs.FiniteSet as set

-- what there is of address spaces outside the abstract machine
pub record Image : Type 0 where
  -- which words its tables hold: 1, or 2 where pages can be lazy
  pub version : ℕ
  -- each process's directory, where it has one
  pub directories : Directories
  -- 4,096 bytes for each frame
  pub bytes : List ℕ
  -- one for each frame
  pub roles : List Role

-- today's words, with these directories, memory and roles
abbrev pub image_from : List (Option ℕ) → List ℕ → List Role → Image
image_from directories bytes roles = record { version = 2; directories = directory_of directories; bytes = bytes; roles = roles }

-- what the address spaces keep outside the abstract machine
abbrev pub image_of : View → Image
image_of v = image_from v.directories v.bytes v.roles

-- ---- What an image names

-- the directory of process p
abbrev pub directory_at : Image → ℕ → Option ℕ
directory_at image p = image.directories p

-- the word of an index of a frame
abbrev pub word_of : Image → ℕ → ℕ → ℕ
word_of image frame index = word_in (frame_bytes image.bytes frame) index

-- whether a directory slot is of the user range
abbrev pub is_user_slot : ℕ → Bool
is_user_slot s = nat_le 256 s && nat_lt s 960

-- the frame that a directory word names, where it is present and of the user range
abbrev pub named_by : ℕ → ℕ → Option ℕ
named_by s word = if is_user_slot s && is_present word then Some (frame_number word) else None

-- the table that a process's directory names at a slot of the user range
abbrev pub table_at : Image → ℕ → ℕ → Option ℕ
table_at image p s = option_and_then (λ d. named_by s (word_of image d s)) (directory_at image p)

-- the word, where it is present and its table lies in memory
abbrev pub present_word : Image → ℕ → ℕ → Option ℕ
present_word image table word = if nat_lt table (length image.roles) && is_present word then Some word else None

-- the table word of a slot, where its table has a present one
abbrev pub page_word : Image → Slot → Option ℕ
page_word image slot = option_and_then (λ t. present_word image t (word_of image t (index_number slot.page))) (table_at image slot.pid (slot_number slot.page))

-- whether a slot has a lazy page
abbrev pub is_lazy_at : Image → Slot → Bool
is_lazy_at image slot = unwrap_or (option_map (is_lazy_word image.version) (page_word image slot)) false

-- whether a store to a slot succeeds as memory is: the slot is mapped, with the right to write, and not lazy
abbrev pub takes_stores : Spaces → Image → Slot → Bool
takes_stores spaces image slot = map.contains_key spaces slot && ((cell_or_fresh spaces slot).write && not (is_lazy_at image slot))

-- the frame of a slot's page, where it isn't lazy
abbrev pub page_frame : Image → Slot → Option ℕ
page_frame image slot = option_and_then (own_frame image.version) (page_word image slot)

-- ---- When an image is sound

-- n is the number of keys that have P
pub record IsCount {K : Type 0} (order : Order K) (n : ℕ) (P : K → Type 0) : Type 0 where
  pub members : Set order
  pub are : (key : K) → IsTrue (set.contains members key) ↔ P key
  pub count : n ≡ set.len members

-- frames, roles and words agree
pub record IsSoundImage (image : Image) : Type 0 where
  pub size : length image.bytes ≡ 4096 * length image.roles
  -- frame 0 alone is reserved, and holds zeros
  pub reserved : (f : ℕ) → f < length image.roles → (slice_get image.roles f ≡ Some Reserved) ↔ (f ≡ 0)
  pub zero_frame : frame_bytes image.bytes 0 ≡ zeros
  -- a frame is the directory of a process exactly where it has that role
  pub directories : (f p : ℕ) → (slice_get image.roles f ≡ Some (Directory p)) ↔ (directory_at image p ≡ Some f)
  -- a frame is the table of a process and a slot exactly where it has that role, so that it is named once
  pub tables : (f p s : ℕ) → (slice_get image.roles f ≡ Some (Table p s)) ↔ (table_at image p s ≡ Some f)
  -- each frame that a slot names is a page, and its count is the number of slots that name it, which is not 0
  pub pages : (slot : Slot) (f : ℕ) → page_frame image slot ≡ Some f → (c : ℕ) × (slice_get image.roles f ≡ Some (Page c))
  pub counts : (f c : ℕ) → slice_get image.roles f ≡ Some (Page c) → (0 < c) × IsCount slot_order c (λ slot. page_frame image slot ≡ Some f)
  -- directories and tables hold words that the kernel writes, directories none outside the user range
  pub directory_words : (p d s : ℕ) → directory_at image p ≡ Some d → s < 1024 → IsKernelDirWord (word_of image d s)
  pub no_more : (p d s : ℕ) → directory_at image p ≡ Some d → s < 1024 → is_user_slot s ≡ false → word_of image d s ≡ 0
  pub table_words : (p s t i : ℕ) → table_at image p s ≡ Some t → i < 1024 → IsTableWord image.version (word_of image t i)
  -- each table has a present word
  pub in_use : (p s t : ℕ) → table_at image p s ≡ Some t → (i : ℕ) × (i < 1024) × (is_present (word_of image t i) ≡ true)

-- the frames in use and the lazy pages are together at most this many
pub record LeavesRoom (image : Image) (total : ℕ) : Type 0 where
  pub lazy : ℕ
  pub counted : IsCount slot_order lazy (λ slot. IsTrue (is_lazy_at image slot))
  pub fit : frames_in_use image.roles + lazy ≤ total

-- ---- What an image stands for

-- the slots of one group: those that name one frame, and a lazy one by itself
abbrev pub IsOneGroup : Image → Slot → ℕ → Slot → Type 0
IsOneGroup image slot word other = MatchBool (is_lazy_word image.version word) (other ≡ slot) (page_frame image other ≡ Some (frame_number word))

-- a cell by its word, the bytes of its frame, which for a lazy one is frame 0, and its group
pub record CellStands (image : Image) (slot : Slot) (word : ℕ) (cell : Cell) : Type 0 where
  pub write : cell.write ≡ lets_write image.version word
  pub may : cell.may ≡ has_may word
  pub accessed : cell.accessed ≡ is_accessed word
  pub dirty : cell.dirty ≡ is_dirty word
  pub bytes : cell.bytes ≡ frame_bytes image.bytes (frame_number word)
  pub group : (other : Slot) → IsTrue (set.contains cell.holders other) ↔ IsOneGroup image slot word other

-- agreement of a slot's table word with its cell
abbrev pub SlotStands : Image → Slot → Option ℕ → Option Cell → Type 0
SlotStands image slot None None = Unit {0}
SlotStands image slot (Some word) (Some cell) = CellStands image slot word cell
SlotStands image slot None (Some cell) = ⊥
SlotStands image slot (Some word) None = ⊥

-- the image is sound, and the slots that it maps are those of the spaces
pub record StandsFor (image : Image) (spaces : Spaces) : Type 0 where
  pub sound : IsSoundImage image
  pub cells : (slot : Slot) → SlotStands image slot (page_word image slot) (map.get spaces slot)

-- an image represents at most one set of spaces
abbrev pub StandsForOne : Type 0
StandsForOne = (image : Image) (s t : Spaces) → StandsFor image s → StandsFor image t → s ≡ t
