-- Memory as one list of bytes: its words, and its frames as a function from frames to bytes.
use Rattle.std.specs.Prelude.{◌≡◌, ℕ, ◌+◌, ◌*◌, ◌^◌, ◌≤◌, ◌<◌, ◌⊎◌, ◌==◌, if◌then◌else◌, List, [], length, drop, replicate, slice_index, slice_set}
use Rattle.std.specs.List.{splice, slice_range}
use Rattle.byteorder.specs.Endian.{little_number, little_bytes}

-- the bytes of a memory that was never written
unfoldable pub blank_bytes : ℕ → List ℕ
blank_bytes frames = replicate (4096 * frames) 0

-- the number in the four bytes from a place on, the lowest byte first
unfoldable pub word_at : List ℕ → ℕ → ℕ
word_at bytes place = little_number 4 (drop place bytes)

-- the bytes with a word at a place, and all else as it was
unfoldable pub with_word : List ℕ → ℕ → ℕ → List ℕ
with_word bytes place word = splice bytes place (place + 4) (little_bytes 4 word)

-- the bytes of one frame; a frame past the end has none
unfoldable pub frame_bytes : List ℕ → ℕ → List ℕ
frame_bytes bytes frame = slice_range bytes (4096 * frame) (4096 * frame + 4096)

-- the bytes with one frame as given, and all else as it was
unfoldable pub with_frame_bytes : List ℕ → ℕ → List ℕ → List ℕ
with_frame_bytes bytes frame part = splice bytes (4096 * frame) (4096 * frame + 4096) part

-- where the word of an index stands, of the 1,024 words of a frame
abbrev pub word_place : ℕ → ℕ → ℕ
word_place frame index = 4096 * frame + 4 * index

-- the word of an index of one frame's bytes
abbrev pub word_in : List ℕ → ℕ → ℕ
word_in frame index = word_at frame (4 * index)

-- one frame's bytes with the word of an index changed
abbrev pub with_word_in : List ℕ → ℕ → ℕ → List ℕ
with_word_in frame index word = with_word frame (4 * index) word

-- memory by its frames, with one of them changed
abbrev pub with_frame : (ℕ → List ℕ) → ℕ → List ℕ → ℕ → List ℕ
with_frame frames f new g = if g == f then new else frames g

-- the frame lies whole in a memory of these bytes
abbrev pub IsInside : List ℕ → ℕ → Type 0
IsInside bytes frame = 4096 * frame + 4096 ≤ length bytes

-- a word that was written reads back
abbrev pub WordsReadBack : Type 0
WordsReadBack = (bytes : List ℕ) (place word : ℕ) → place + 4 ≤ length bytes → word < 2 ^ 32 → word_at (with_word bytes place word) place ≡ word

-- a word apart from one that is written stays as it was
abbrev pub WordsStandApart : Type 0
WordsStandApart = (bytes : List ℕ) (place other word : ℕ) → place + 4 ≤ length bytes → (other + 4 ≤ place) ⊎ (place + 4 ≤ other) → word_at (with_word bytes place word) other ≡ word_at bytes other

-- a byte outside a word that is written stays as it was
abbrev pub BytesStandApart : Type 0
BytesStandApart = (bytes : List ℕ) (place other word : ℕ) → place + 4 ≤ length bytes → (other < place) ⊎ (place + 4 ≤ other) → slice_index (with_word bytes place word) other ≡ slice_index bytes other

-- four bytes make a number of 32 bits
abbrev pub WordsFit : Type 0
WordsFit = (bytes : List ℕ) (place : ℕ) → ((i : ℕ) → slice_index bytes i < 256) → word_at bytes place < 2 ^ 32

-- a word written inside one frame is a change of that frame, and of no other
abbrev pub WordsChangeFrames : Type 0
WordsChangeFrames = (bytes : List ℕ) (frame offset word : ℕ) → offset + 4 ≤ 4096 → IsInside bytes frame
    → frame_bytes (with_word bytes (4096 * frame + offset) word) ≡ with_frame (frame_bytes bytes) frame (with_word (frame_bytes bytes frame) offset word)

-- a byte written is a change of its frame, and of no other
abbrev pub BytesChangeFrames : Type 0
BytesChangeFrames = (bytes : List ℕ) (frame offset byte : ℕ) → offset < 4096 → IsInside bytes frame
    → frame_bytes (slice_set bytes (4096 * frame + offset) byte) ≡ with_frame (frame_bytes bytes) frame (slice_set (frame_bytes bytes frame) offset byte)

-- a frame written whole is a change of that frame, and of no other
abbrev pub FramesChangeAlone : Type 0
FramesChangeAlone = (bytes part : List ℕ) (frame : ℕ) → IsInside bytes frame → length part ≡ 4096
    → frame_bytes (with_frame_bytes bytes frame part) ≡ with_frame (frame_bytes bytes) frame part

-- each frame of a memory that was never written is 4,096 zeros
abbrev pub FramesBeginBlank : Type 0
FramesBeginBlank = (frames frame : ℕ) → frame < frames → frame_bytes (blank_bytes frames) frame ≡ replicate 4096 0

-- a frame past the end of memory has no byte
abbrev pub FramesEnd : Type 0
FramesEnd = (bytes : List ℕ) (frame : ℕ) → length bytes ≤ 4096 * frame → frame_bytes bytes frame ≡ []

-- a byte of memory is one of its frame's
abbrev pub BytesLieInFrames : Type 0
BytesLieInFrames = (bytes : List ℕ) (frame offset : ℕ) → offset < 4096 → slice_index bytes (4096 * frame + offset) ≡ slice_index (frame_bytes bytes frame) offset

-- a word of memory inside one frame is one of that frame's
abbrev pub WordsLieInFrames : Type 0
WordsLieInFrames = (bytes : List ℕ) (frame offset : ℕ) → offset + 4 ≤ 4096 → word_at bytes (4096 * frame + offset) ≡ word_at (frame_bytes bytes frame) offset

-- each word of a blank frame is 0
abbrev pub BlankWords : Type 0
BlankWords = (index : ℕ) → index < 1024 → word_in (replicate 4096 0) index ≡ 0

-- a frame inside memory has 4,096 bytes
abbrev pub FramesAreWhole : Type 0
FramesAreWhole = (bytes : List ℕ) (frame : ℕ) → IsInside bytes frame → length (frame_bytes bytes frame) ≡ 4096

-- a word written keeps the number of bytes
abbrev pub WordsKeepLengths : Type 0
WordsKeepLengths = (bytes : List ℕ) (place word : ℕ) → place + 4 ≤ length bytes → length (with_word bytes place word) ≡ length bytes

-- a frame written keeps the number of bytes
abbrev pub FramesKeepLengths : Type 0
FramesKeepLengths = (bytes part : List ℕ) (frame : ℕ) → IsInside bytes frame → length part ≡ 4096 → length (with_frame_bytes bytes frame part) ≡ length bytes
