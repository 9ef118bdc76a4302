-- What an access leaves in the two words that lead to its address.
use Rattle.std.specs.Prelude.{◌≡◌, ◌≢◌, ℕ, ◌+◌, ◌%◌, ◌^◌, ◌<◌, ◌≤◌, ◌⊎◌, true, List, length, slice_index, IsOk}
use Rattle.page_words.specs.Words.{frame_number, with_flag}
use Rattle.phys_memory.specs.Bytes.{word_at, with_word}
use Rattle.table_walk.specs.declared.Access.{Access}
use Rattle.table_walk.specs.declared.Access.TheVariants.{Read, Write}
use Rattle.table_walk.specs.Walk.{dir_place, dir_word, table_place, table_word, walk_of}

-- a word after an access to what it names: bit 5, accessed, is set
abbrev pub accessed_word : ℕ → ℕ
accessed_word word = with_flag word 5 true

-- a table word after an access to its page: bit 5 is set, and for a write bit 6, dirty
abbrev pub touched_word : Access → ℕ → ℕ
touched_word Read word = accessed_word word
touched_word Write word = with_flag (accessed_word word) 6 true

-- the bytes after an access is marked in the directory word, and then in the table word
unfoldable pub marked : List ℕ → ℕ → ℕ → Access → List ℕ
marked bytes directory address access =
    let place = table_place bytes directory address in
    let mid = with_word bytes (dir_place directory address) (accessed_word (dir_word bytes directory address)) in
    with_word mid place (touched_word access (word_at mid place))

-- neither word that leads to the address lies in the frame
abbrev pub StandsApart : List ℕ → ℕ → ℕ → ℕ → Type 0
StandsApart bytes directory address frame = (directory ≢ frame) × (frame_number (dir_word bytes directory address) ≢ frame)

-- a memory of whole frames, of at most 4 GiB, and an address whose walk finds a frame
pub record CanBeMarked (bytes : List ℕ) (directory address : ℕ) (access : Access) : Type 0 where
  pub size : length bytes ≤ 2 ^ 32
  pub whole : length bytes % 4096 ≡ 0
  pub fits : address < 2 ^ 32
  pub found : IsOk (walk_of bytes directory address access)

-- the place isn't one of a word's four
abbrev pub IsBeside : ℕ → ℕ → Type 0
IsBeside place word = (place < word) ⊎ (word + 4 ≤ place)

-- a mark changes the two words of the way, and nothing else
pub record ChangesTwoWords (bytes : List ℕ) (directory address : ℕ) (access : Access) (after : List ℕ) : Type 0 where
  pub same_length : length after ≡ length bytes
  pub same_place : table_place after directory address ≡ table_place bytes directory address
  pub table : table_word after directory address ≡ touched_word access (table_word bytes directory address)
  pub directory_alone : dir_place directory address ≢ table_place bytes directory address → dir_word after directory address ≡ accessed_word (dir_word bytes directory address)
  pub others : (place : ℕ) → IsBeside place (dir_place directory address) → IsBeside place (table_place bytes directory address) → slice_index after place ≡ slice_index bytes place

-- a mark sets accessed in both words, dirty for a write in the table word, and changes no other bit
abbrev pub MarksChangeTwoWords : Type 0
MarksChangeTwoWords = (bytes : List ℕ) (directory address : ℕ) (access : Access) → CanBeMarked bytes directory address access
    → ChangesTwoWords bytes directory address access (marked bytes directory address access)

-- every walk goes after a mark as it went before it
abbrev pub MarksKeepWalks : Type 0
MarksKeepWalks = (bytes : List ℕ) (directory address : ℕ) (access : Access) → CanBeMarked bytes directory address access
    → (other at : ℕ) (kind : Access) → walk_of (marked bytes directory address access) other at kind ≡ walk_of bytes other at kind
