-- The words of 64-bit paging, of eight bytes each, as numbers below 2 ^ 64. Bits 0, 1, 2, 5 and 6 are those of a 32-bit
-- word: present, writable, user, accessed, dirty.
use Rattle.std.specs.Prelude.{ℕ, ◌+◌, ◌*◌, ◌/◌, ◌^◌, Bool, true, false, ◌||◌, nat_le, List, drop}
use Rattle.std.specs.List.{splice}
use Rattle.byteorder.specs.Endian.{little_number, little_bytes}
use Rattle.page_words.specs.Words.{flag}

-- the number in the eight bytes from a place on, the lowest byte first
unfoldable pub long_at : List ℕ → ℕ → ℕ
long_at bytes place = little_number 8 (drop place bytes)

-- the bytes with a word at a place, and all else as it was
unfoldable pub with_long : List ℕ → ℕ → ℕ → List ℕ
with_long bytes place word = splice bytes place (place + 8) (little_bytes 8 word)

-- where the word of an index of a frame is, of the 512 words of a frame
abbrev pub long_place : ℕ → ℕ → ℕ
long_place frame index = 4096 * frame + 8 * index

-- the physical address that the word names, of a table or of a page
abbrev pub target_of : ℕ → ℕ
target_of word = 4096 * (word / 4096)

-- A word of a kind that shadow tables don't have: bit 7 is set, or one of those from 52 on. A processor ignores some of
-- the latter. Bit 7 names a large page, or in a last table a kind of memory.
abbrev pub is_foreign : ℕ → Bool
is_foreign word = flag word 7 || nat_le (2 ^ 52) word

-- bits 0, 2 and 5; for a writable word bits 1 and 6, too
abbrev pub entry_flags : Bool → ℕ
entry_flags false = 0x25
entry_flags true = 0x67

-- a present word of user mode with this target, accessed, and dirty if it is writable
abbrev pub entry_word : ℕ → Bool → ℕ
entry_word target write = target + entry_flags write
