-- The words of one directory and its tables, and what they say of each page. Memory is seen by its
-- frames, as a function from frames to bytes.
use Rattle.std.specs.Prelude.{◌≡◌, ◌≢◌, ℕ, ◌+◌, ◌*◌, ◌<◌, ◌≤◌, Bool, true, false, not, ◌&&◌, if◌then◌else◌, List, length, replicate, Option, Some, None}
use Rattle.std.specs.Option.{option_and_then}
use Rattle.page_words.specs.Addresses.{slot_number, index_number}
use Rattle.page_words.specs.Words.{with_flag, word_with_frame, frame_number, is_present, is_accessed, is_dirty, has_may, is_lazy, is_granted, IsKernelDirWord, IsKernelTableWord}
use Rattle.phys_memory.specs.Bytes.{frame_bytes, word_in, with_word_in, with_frame}
use Rattle.page_map.specs.declared.PageEntry.{PageEntry}

-- the bytes of each frame
abbrev pub Frames : Type 0
Frames = ℕ → List ℕ

-- the directory word of a slot
abbrev pub dir_word : Frames → ℕ → ℕ → ℕ
dir_word m directory slot = word_in (m directory) slot

-- the table that a directory word names
abbrev pub word_table : ℕ → Option ℕ
word_table word = if is_present word then Some (frame_number word) else None

-- the table of a slot, where it has one
abbrev pub table_of : Frames → ℕ → ℕ → Option ℕ
table_of m directory slot = word_table (dir_word m directory slot)

-- the entry that a present table word holds
abbrev pub entry_from : ℕ → PageEntry
entry_from word = record { frame = frame_number word; write = is_granted word; may = has_may word; accessed = is_accessed word; dirty = is_dirty word; lazy = is_lazy word }

-- the entry that a table word holds
abbrev pub word_entry : ℕ → Option PageEntry
word_entry word = if is_present word then Some (entry_from word) else None

-- whether there is an entry, and it is lazy
abbrev pub is_lazy_entry : Option PageEntry → Bool
is_lazy_entry None = false
is_lazy_entry (Some e) = e.lazy

-- the entry of a page, where there is one
abbrev pub entry_at : Frames → ℕ → ℕ → Option PageEntry
entry_at m directory page = option_and_then (λ table. word_entry (word_in (m table) (index_number page))) (table_of m directory (slot_number page))

-- whether the processor lets writes to an entry's page through: where they are granted and it has a frame
abbrev pub lets_writes : PageEntry → Bool
lets_writes e = e.write && not e.lazy

-- what the processor reads of the table word of an entry: present, a user's, with the entry's frame and flags
abbrev pub walked_word : PageEntry → ℕ
walked_word e = with_flag (with_flag (with_flag (with_flag (with_flag (with_flag (word_with_frame 0 e.frame) 0 true) 2 true) 1 (lets_writes e)) 9 e.may) 5 e.accessed) 6 e.dirty

-- the table word of an entry
abbrev pub entry_word : PageEntry → ℕ
entry_word e = with_flag (with_flag (walked_word e) 10 e.lazy) 11 e.write

-- an entry whose word the kernel writes: a lazy one is on frame 0 and clean, any other on another frame
pub record IsKernelEntry (e : PageEntry) : Type 0 where
  pub frame : e.lazy ≡ false → 1 ≤ e.frame
  pub zero : e.lazy ≡ true → e.frame ≡ 0
  pub clean : e.lazy ≡ true → e.dirty ≡ false
  pub right : e.write ≡ true → e.may ≡ true
  pub touched : e.dirty ≡ true → e.accessed ≡ true

-- memory with another entry at a page, in this table
abbrev pub with_entry : Frames → ℕ → ℕ → PageEntry → Frames
with_entry m table page e = with_frame m table (with_word_in (m table) (index_number page) (entry_word e))

-- memory with no entry at a page, in this table
abbrev pub without_entry : Frames → ℕ → ℕ → Frames
without_entry m table page = with_frame m table (with_word_in (m table) (index_number page) 0)

-- the directory word of a table: present, writable, a user's
abbrev pub link_word : ℕ → ℕ
link_word table = with_flag (with_flag (with_flag (word_with_frame 0 table) 0 true) 1 true) 2 true

-- memory with a blank table at a slot
abbrev pub with_table : Frames → ℕ → ℕ → ℕ → Frames
with_table m directory slot table = with_frame (with_frame m table (replicate 4096 0)) directory (with_word_in (m directory) slot (link_word table))

-- memory without the table of a slot
abbrev pub without_table : Frames → ℕ → ℕ → Frames
without_table m directory slot = with_frame m directory (with_word_in (m directory) slot 0)

-- a directory and its tables hold kernel words and are distinct frames of memory, which has n bytes
pub record TablesApart (n : ℕ) (m : Frames) (directory : ℕ) : Type 0 where
  pub long : (frame : ℕ) → 4096 * frame + 4096 ≤ n → length (m frame) ≡ 4096
  pub directory_inside : 4096 * directory + 4096 ≤ n
  pub tables_inside : (slot table : ℕ) → slot < 1024 → table_of m directory slot ≡ Some table → 4096 * table + 4096 ≤ n
  pub apart : (slot table : ℕ) → slot < 1024 → table_of m directory slot ≡ Some table → table ≢ directory
  pub distinct : (slot other table : ℕ) → slot < 1024 → other < 1024 → table_of m directory slot ≡ Some table → table_of m directory other ≡ Some table → slot ≡ other
  pub dir_words : (slot : ℕ) → slot < 1024 → IsKernelDirWord (dir_word m directory slot)
  pub table_words : (slot table index : ℕ) → slot < 1024 → index < 1024 → table_of m directory slot ≡ Some table → IsKernelTableWord (word_in (m table) index)

-- those of a directory in memory of these bytes
abbrev pub IsPageMap : List ℕ → ℕ → Type 0
IsPageMap bytes directory = TablesApart (length bytes) (frame_bytes bytes) directory

-- a frame that is neither the directory nor one of its tables
pub record IsForeign (m : Frames) (directory frame : ℕ) : Type 0 where
  pub no_directory : frame ≢ directory
  pub no_table : (slot table : ℕ) → slot < 1024 → table_of m directory slot ≡ Some table → frame ≢ table

-- a slot without a table, and a frame that can become its table
pub record IsFreshTable (m : Frames) (directory slot table : ℕ) : Type 0 where
  pub unlinked : table_of m directory slot ≡ None
  pub not_reserved : 1 ≤ table
  pub foreign : IsForeign m directory table

-- no other word of the page's table is present
abbrev pub IsLastEntry : Frames → ℕ → ℕ → Type 0
IsLastEntry m table page = (i : ℕ) → i < 1024 → is_present (word_in (without_entry m table page table) i) ≡ false

-- another word of the page's table is present
abbrev pub HasOtherEntry : Frames → ℕ → ℕ → Type 0
HasOtherEntry m table page = (i : ℕ) × (i < 1024) × (is_present (word_in (without_entry m table page table) i) ≡ true)

-- a page's entry is gone: its table stays where it has another entry, and is unlinked where it has none
pub record IsCleared (m : Frames) (directory page : ℕ) (freed : Option ℕ) (m' : Frames) : Type 0 where
  pub kept : freed ≡ None → (m' ≡ without_entry m (frame_number (dir_word m directory (slot_number page))) page)
      × ((i : ℕ) × (i < 1024) × (is_present (word_in (m' (frame_number (dir_word m directory (slot_number page)))) i) ≡ true))
  pub unlinked : (table : ℕ) → freed ≡ Some table → (table ≡ frame_number (dir_word m directory (slot_number page))) × (m' ≡ without_table (without_entry m table page) directory (slot_number page))
      × ((i : ℕ) → i < 1024 → is_present (word_in (without_entry m table page table) i) ≡ false)
