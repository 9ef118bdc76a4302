-- Accesses that a processor makes by its walk: which walks find a frame, and what such an access leaves in memory.
use Rattle.std.specs.Prelude.{ℕ, ◌+◌, ◌*◌, Bool, true, false, ◌&&◌, nat_lt, if◌then◌else◌, List, [], ◌∷◌, map, Option, slice_index, slice_set, option_map, unwrap_or}
use Rattle.std.specs.Result.{is_ok}
use Rattle.address_space.specs.Below.{slot_number, offset_number, start_number, covered, second_page, Size, with_flag, frame_number, is_present, word_at, word_place, with_word, Access, Read, Write, walk_of, table_word, marked}
use Rattle.address_space.specs.Spaces.{value_of}
use Rattle.address_space.specs.Image.{Image, directory_at}

-- ---- Which walks find a frame

-- the process has a directory, whose walk of this 32-bit address finds a frame
abbrev pub finds_at : Image → ℕ → Access → ℕ → Bool
finds_at image p access address = nat_lt address 0x100000000 && unwrap_or (option_map (λ directory. is_ok (walk_of image.bytes directory address access)) (directory_at image p)) false

-- so do the walks of an access: that of its address, and that of the second page's start, where it has a second page
abbrev pub finds : Image → ℕ → ℕ → Size → Access → Bool
finds image p address size access = finds_at image p access address && unwrap_or (option_map (λ page. finds_at image p access (start_number page)) (second_page address size)) true

-- ---- What an access leaves

-- the place of an address's byte in memory, by the words that lead to it
abbrev pub byte_place : List ℕ → ℕ → ℕ → ℕ
byte_place bytes directory address = 4096 * frame_number (table_word bytes directory address) + offset_number address

-- the number that stands at the bytes of an access
abbrev pub number_found : List ℕ → ℕ → ℕ → Size → ℕ
number_found bytes directory address size = value_of (map (λ a. slice_index bytes (byte_place bytes directory a)) (covered address size))

-- memory after a load: the words that lead to each page are marked
abbrev pub after_walked_load : List ℕ → ℕ → ℕ → Option ℕ → List ℕ
after_walked_load bytes directory address second =
    let first = marked bytes directory address Read in
    unwrap_or (option_map (λ page. marked first directory (start_number page) Read) second) first

-- memory after a store of these bytes from an address on, one after the other: the words that lead to a byte are
-- marked, and it is written where they lead
abbrev pub after_walked_store : List ℕ → ℕ → ℕ → List ℕ → List ℕ
after_walked_store bytes directory address [] = bytes
after_walked_store bytes directory address (byte ∷ rest) =
    after_walked_store (slice_set (marked bytes directory address Write) (byte_place bytes directory address) byte) directory (address + 1) rest

-- ---- Accessed of a directory word

-- a directory word with accessed set or cleared, where it is present
abbrev pub walked_word : Bool → ℕ → ℕ
walked_word walked word = if is_present word then with_flag word 5 walked else word

-- memory with accessed set or cleared in the directory word that leads to a page, where that is present
abbrev pub with_walked : List ℕ → ℕ → ℕ → Bool → List ℕ
with_walked bytes directory page walked =
    let place = word_place directory (slot_number page) in
    with_word bytes place (walked_word walked (word_at bytes place))
