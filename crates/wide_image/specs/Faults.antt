-- Why bytes are not a snapshot: the first reason that applies, with each field at its place.
use Rattle.std.specs.Prelude.{ℕ, zero, suc, ◌+◌, ◌*◌, not, ◌&&◌, ◌||◌, ◌==◌, nat_lt, nat_le, if◌then◌else◌, List, [], ◌∷◌, ◌++◌, length, Option, Some, None}
use Rattle.std.specs.Option.{option_map}
use Rattle.std.specs.List.{range_with_len, flat_map}
use Rattle.phys_memory.specs.Bytes.{word_at}
use Rattle.memory_image.specs.Tests.{first_failing}
use Rattle.memory_image.specs.Refusals.{Field, process_fields, role_tests}
use Rattle.wide_image.specs.declared.faults.WideImageFault.{WideImageFault}
use Rattle.wide_image.specs.declared.faults.WideImageFault.TheVariants.{NotImage, BadLength, BadVersion, BadField}
use Rattle.wide_image.specs.FirstBytes.{begins_snapshot}
use Rattle.wide_image.specs.Offers.{rank}

-- the first of two that is there
abbrev pub first_of : {C : Type 0} → Option C → Option C → Option C
first_of None later = later
first_of (Some c) later = Some c

-- the tests of an offer at a place, which has these numbers, after offers whose places are below `from`
abbrev pub offer_tests : ℕ → ℕ → ℕ → ℕ → ℕ → ℕ → List Field
offer_tests from place offerer page target right =
    (nat_lt offerer 64, place)
    ∷ (nat_lt page 983040, place + 4)
    ∷ (nat_lt target 64, place + 8)
    ∷ (nat_le right 1, place + 12)
    ∷ (nat_le from (rank offerer page target), place)
    ∷ []

-- the tests of the offer at a place of bytes
abbrev pub offer_fields : List ℕ → ℕ → ℕ → List Field
offer_fields bytes from at = offer_tests from at (word_at bytes at) (word_at bytes (at + 4)) (word_at bytes (at + 8)) (word_at bytes (at + 12))

-- the place of the first field that breaks its rule, of so many offers from a place of bytes on
abbrev pub bad_offer : List ℕ → ℕ → ℕ → ℕ → Option ℕ
bad_offer bytes from at zero = None
bad_offer bytes from at (suc count) = first_of (first_failing (offer_fields bytes from at))
    (bad_offer bytes (rank (word_at bytes at) (word_at bytes (at + 4)) (word_at bytes (at + 8)) + 1) (at + 16) count)

-- the tests of a frame's record at a place, which has these numbers: a frame of n from `from` on, which isn't free
abbrev pub frame_tests : ℕ → ℕ → ℕ → ℕ → ℕ → ℕ → ℕ → ℕ → List Field
frame_tests n from place frame role pid slot count =
    (nat_le from frame && nat_lt frame n, place)
    ∷ (not (role == 1), place + 4)
    ∷ role_tests (place + 4) role pid slot count

-- the tests of the record at a place of bytes
abbrev pub frame_fields : List ℕ → ℕ → ℕ → ℕ → List Field
frame_fields bytes n from at = frame_tests n from at (word_at bytes at) (word_at bytes (at + 4)) (word_at bytes (at + 8)) (word_at bytes (at + 12)) (word_at bytes (at + 16))

-- the place of the first field that breaks its rule, of so many frames' records from a place of bytes on
abbrev pub bad_frame : List ℕ → ℕ → ℕ → ℕ → ℕ → Option ℕ
bad_frame bytes n from at zero = None
bad_frame bytes n from at (suc count) = first_of (first_failing (frame_fields bytes n from at)) (bad_frame bytes n (word_at bytes at + 1) (at + 4116) count)

-- the number of frames that are stored, of n
abbrev pub stored_field : ℕ → ℕ → List Field
stored_field stored n = (nat_le stored n, 1552) ∷ []

-- the fields of the records of processes, and the number of frames that are stored
abbrev pub front_fields : List ℕ → ℕ → ℕ → List Field
front_fields bytes n frames = flat_map (process_fields bytes n) (range_with_len 0 64) ++ stored_field frames n

-- where the first frame's record begins, after so many offers
abbrev pub frames_place : ℕ → ℕ
frames_place offers = 1556 + 16 * offers

-- the place of the first field that breaks its rule
unfoldable pub first_bad : List ℕ → ℕ → ℕ → ℕ → Option ℕ
first_bad bytes n offers frames =
    first_of (first_failing (front_fields bytes n frames)) (first_of (bad_offer bytes 0 1556 offers) (bad_frame bytes n 0 (frames_place offers) frames))

-- the fault of a field at this offset
abbrev pub bad_field : ℕ → WideImageFault
bad_field offset = BadField offset

-- the first fault of bytes that say they have n frames, so many offers and so many frames that are stored
abbrev pub fault_by : List ℕ → ℕ → ℕ → ℕ → Option WideImageFault
fault_by bytes n offers frames =
    if not (length bytes == 1556 + 16 * offers + 4116 * frames) then Some BadLength
    else option_map bad_field (first_bad bytes n offers frames)

-- the first fault of bytes that say they have n frames
abbrev pub fault_with : List ℕ → ℕ → Option WideImageFault
fault_with bytes n =
    if nat_lt n 16 || nat_lt 1048576 n then Some (BadField 8)
    else if nat_lt (length bytes) 1556 then Some BadLength
    else fault_by bytes n (word_at bytes 1548) (word_at bytes 1552)

-- the first reason against the bytes
unfoldable pub fault_of : List ℕ → Option WideImageFault
fault_of bytes =
    if not (begins_snapshot bytes) then Some NotImage
    else if nat_lt (length bytes) 12 then Some BadLength
    else if not (word_at bytes 4 == 1) then Some BadVersion
    else fault_with bytes (word_at bytes 8)
