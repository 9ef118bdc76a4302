-- The laws of a page map: what its words and its finite map say of each other, and what the processor's
-- walk and its marks are on one.
use Rattle.std.specs.Prelude.{◌≡◌, ℕ, ◌+◌, ◌*◌, ◌^◌, ◌<◌, ◌≤◌, ◌⊎◌, true, not, ◌&&◌, if◌then◌else◌, List, length, replicate, Option, Some, None, Result, Ok, Err}
use Rattle.page_words.specs.Addresses.{IsUserPage, page_number, slot_number, index_number}
use Rattle.page_words.specs.Words.{frame_number, NamesTable, NamesPage}
use Rattle.page_words.specs.FiniteMap as map
use Rattle.phys_memory.specs.Bytes.{frame_bytes, word_in, with_word_in, with_frame}
use Rattle.table_walk.specs.declared.Access.{Access}
use Rattle.table_walk.specs.declared.WalkEnd.{WalkEnd}
use Rattle.table_walk.specs.declared.WalkEnd.TheVariants.{Outside}
use Rattle.table_walk.specs.Walk.{walk_of, not_present, not_allowed, is_write, is_outside}
use Rattle.table_walk.specs.Marks.{CanBeMarked, accessed_word, touched_word, marked}
use Rattle.page_map.specs.declared.PageEntry.{PageEntry}
use Rattle.page_map.specs.Entries.{Frames, dir_word, word_table, word_entry, entry_at, entry_word, lets_writes, link_word, IsKernelEntry, IsPageMap, IsForeign}
use Rattle.page_map.specs.Pages.{entries_of}

-- at a page of the user range the map has what the page's two words say
abbrev pub EntriesAreTheWords : Type 0
EntriesAreTheWords = (m : Frames) (directory page : ℕ) → IsUserPage page → map.get (entries_of m directory) page ≡ entry_at m directory page

-- and nothing at any other page
abbrev pub EntriesAreUserPages : Type 0
EntriesAreUserPages = (m : Frames) (directory page : ℕ) → (page < 0x40000) ⊎ (0xf0000 ≤ page) → map.get (entries_of m directory) page ≡ None

-- the word of an entry reads back as the entry
abbrev pub EntriesReadBack : Type 0
EntriesReadBack = (e : PageEntry) → e.frame < 2 ^ 20 → word_entry (entry_word e) ≡ Some e

-- the word of an entry is one that the kernel writes
abbrev pub EntryWordsAreKernelWords : Type 0
EntryWordsAreKernelWords = (e : PageEntry) → e.frame < 2 ^ 20 → IsKernelEntry e → NamesPage (entry_word e)

-- the word of a table reads back as the table
abbrev pub TablesReadBack : Type 0
TablesReadBack = (table : ℕ) → table < 2 ^ 20 → word_table (link_word table) ≡ Some table

-- the word of a table is one that the kernel writes
abbrev pub LinkWordsAreKernelWords : Type 0
LinkWordsAreKernelWords = (table : ℕ) → table < 2 ^ 20 → 1 ≤ table → NamesTable (link_word table)

-- a blank frame of memory is a page map
abbrev pub BlankFramesAreMaps : Type 0
BlankFramesAreMaps = (bytes : List ℕ) (directory : ℕ) → 4096 * directory + 4096 ≤ length bytes → frame_bytes bytes directory ≡ replicate 4096 0 → IsPageMap bytes directory

-- and maps no page
abbrev pub BlankFramesMapNothing : Type 0
BlankFramesMapNothing = (m : Frames) (directory : ℕ) → m directory ≡ replicate 4096 0 → entries_of m directory ≡ map.empty

-- how a walk ends at a page with this entry: as the entry's rights say, if its frame lies in memory
abbrev pub end_at_entry : List ℕ → ℕ → Access → Option PageEntry → Result ℕ WalkEnd
end_at_entry bytes address access None = not_present address access
end_at_entry bytes address access (Some e) =
    if is_write access && not (lets_writes e) then not_allowed address access
    else if is_outside bytes e.frame then Err Outside
    else Ok e.frame

-- the walk of a page map ends as the entry of the page says
abbrev pub WalksReadEntries : Type 0
WalksReadEntries = (bytes : List ℕ) (directory address : ℕ) (access : Access) → IsPageMap bytes directory → address < 2 ^ 32
    → walk_of bytes directory address access ≡ end_at_entry bytes address access (entry_at (frame_bytes bytes) directory (page_number address))

-- the entry of a page after an access to it
abbrev pub touched_entry : Access → PageEntry → PageEntry
touched_entry access e = record { frame = e.frame; write = e.write; may = e.may; accessed = true; dirty = (if is_write access then true else e.dirty); lazy = e.lazy }

-- memory with both words of a page as an access to it leaves them
abbrev pub with_touched_words : Frames → ℕ → ℕ → Access → Frames
with_touched_words m directory page access =
    let word = dir_word m directory (slot_number page) in
    let table = frame_number word in
    let half = with_frame m directory (with_word_in (m directory) (slot_number page) (accessed_word word)) in
    with_frame half table (with_word_in (half table) (index_number page) (touched_word access (word_in (m table) (index_number page))))

-- a mark on a page map is a change of one entry, in the directory and the page's table alone
pub record TouchesEntry (bytes : List ℕ) (directory page : ℕ) (access : Access) (e : PageEntry) (after : List ℕ) : Type 0 where
  pub frames : frame_bytes after ≡ with_touched_words (frame_bytes bytes) directory page access
  pub entries : entries_of (frame_bytes after) directory ≡ map.insert (entries_of (frame_bytes bytes) directory) page (touched_entry access e)
  pub stays : IsPageMap after directory
  pub foreign : (frame : ℕ) → IsForeign (frame_bytes bytes) directory frame → frame_bytes after frame ≡ frame_bytes bytes frame

-- a walk's marks touch only the entry of its page
abbrev pub MarksTouchEntries : Type 0
MarksTouchEntries = (bytes : List ℕ) (directory address : ℕ) (access : Access) (e : PageEntry) → IsPageMap bytes directory → CanBeMarked bytes directory address access → IsUserPage (page_number address)
    → entry_at (frame_bytes bytes) directory (page_number address) ≡ Some e → TouchesEntry bytes directory (page_number address) access e (marked bytes directory address access)
