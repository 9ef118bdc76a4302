-- Why bytes are not an image: the first reason that applies, with each field at its place.
use Rattle.std.specs.Prelude.{◌≡◌, ℕ, ◌+◌, ◌*◌, Bool, false, ◌&&◌, ◌||◌, not, ◌==◌, nat_lt, nat_le, if◌then◌else◌, ◌↔◌, List, [], ◌∷◌, ◌++◌, length, slice_index, ◌<◌, Option, Some, None}
use Rattle.std.specs.Option.{option_map}
use Rattle.std.specs.List.{range_with_len, flat_map}
use Rattle.phys_memory.specs.Bytes.{word_at}
use Rattle.memory_image.specs.declared.faults.ImageFault.{ImageFault}
use Rattle.memory_image.specs.declared.faults.ImageFault.TheVariants.{NotImage, BadLength, BadVersion, BadField}
use Rattle.memory_image.specs.Image.{Image}
use Rattle.memory_image.specs.Spelling.{Spells}
use Rattle.memory_image.specs.Tests.{first_failing}

-- the bytes begin with the four of an image
abbrev pub begins : List ℕ → Bool
begins (a ∷ b ∷ c ∷ d ∷ rest) = a == 0x6d && b == 0x43 && c == 0x32 && d == 0x49
begins _ = false

-- whether a field keeps its rule, and its place
abbrev pub Field : Type 0
Field = Bool × ℕ

-- The fields of the record of process p at a place, which has these numbers, in an image of n frames. If the process
-- isn't live, all others are 0. Process 0 is its own parent.
abbrev pub process_tests : ℕ → ℕ → ℕ → ℕ → ℕ → ℕ → ℕ → ℕ → ℕ → List Field
process_tests n p place live parent quota used given directory =
    let is_live = live == 1 in
    (is_live || live == 0, place)
    ∷ ((if is_live then nat_lt parent 64 && (not (p == 0) || parent == 0) else parent == 0), place + 4)
    ∷ (is_live || quota == 0, place + 8)
    ∷ (is_live || used == 0, place + 12)
    ∷ (is_live || given == 0, place + 16)
    ∷ ((if is_live then nat_lt directory n else directory == 0), place + 20)
    ∷ []

-- the fields of the record of a frame at a place, which has these numbers: those without use are 0
abbrev pub role_tests : ℕ → ℕ → ℕ → ℕ → ℕ → List Field
role_tests place role pid slot count =
    (nat_le role 4, place)
    ∷ ((if role == 2 || role == 3 then nat_lt pid 64 else pid == 0), place + 4)
    ∷ ((if role == 3 then nat_lt slot 1024 else slot == 0), place + 8)
    ∷ (role == 4 || count == 0, place + 12)
    ∷ []

-- where the record of a process begins
abbrev pub process_place : ℕ → ℕ
process_place p = 12 + 24 * p

-- where the record of a frame begins
abbrev pub role_place : ℕ → ℕ
role_place f = 1548 + 16 * f

-- the tests of the record of process p
abbrev pub process_fields : List ℕ → ℕ → ℕ → List Field
process_fields bytes n p =
    let at = process_place p in
    process_tests n p at (word_at bytes at) (word_at bytes (at + 4)) (word_at bytes (at + 8)) (word_at bytes (at + 12)) (word_at bytes (at + 16)) (word_at bytes (at + 20))

-- the tests of the role of frame f
abbrev pub role_fields : List ℕ → ℕ → List Field
role_fields bytes f =
    let at = role_place f in
    role_tests at (word_at bytes at) (word_at bytes (at + 4)) (word_at bytes (at + 8)) (word_at bytes (at + 12))

-- all fields, from the front to the back
unfoldable pub fields : List ℕ → ℕ → List Field
fields bytes n = flat_map (process_fields bytes n) (range_with_len 0 64) ++ flat_map (role_fields bytes) (range_with_len 0 n)

-- the place of the first field that breaks its rule
abbrev pub first_bad : List ℕ → ℕ → Option ℕ
first_bad bytes n = first_failing (fields bytes n)

-- the fault of a field at this offset
abbrev pub bad_field : ℕ → ImageFault
bad_field offset = BadField offset

-- the first fault of bytes that say they have n frames
abbrev pub fault_with : List ℕ → ℕ → Option ImageFault
fault_with bytes n =
    if nat_lt n 16 || nat_lt 4096 n then Some (BadField 8)
    else if not (length bytes == 1548 + 4112 * n) then Some BadLength
    else option_map bad_field (first_bad bytes n)

-- the first reason against the bytes
unfoldable pub fault_of : List ℕ → Option ImageFault
fault_of bytes =
    if not (begins bytes) then Some NotImage
    else if nat_lt (length bytes) 12 then Some BadLength
    else if not (word_at bytes 4 == 1 || word_at bytes 4 == 2) then Some BadVersion
    else fault_with bytes (word_at bytes 8)

-- there is a reason against bytes exactly if they encode no image
abbrev pub RefusedWhereNotSpelled : Type 0
RefusedWhereNotSpelled = (bytes : List ℕ) → ((i : ℕ) → slice_index bytes i < 256) → (fault_of bytes ≡ None) ↔ ((image : Image) × Spells bytes image)
