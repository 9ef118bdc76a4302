-- Refusals, computed.
use Rattle.std.proofs.Common.{◌≡◌, ℕ, ◌+◌, List, [], ◌∷◌, ◌++◌, take, drop, replicate, refl, Some, None}
use Rattle.phys_memory.specs.Bytes.{word_at}
use Rattle.alloc_table.specs.declared.Role.TheVariants.{Reserved, Free, Directory}
use Rattle.memory_image.specs.declared.faults.ImageFault.TheVariants.{NotImage, BadLength, BadVersion, BadField}
use Rattle.memory_image.specs.Spelling.{magic, number, spelling}
use Rattle.memory_image.specs.Refusals.{fault_of, fields, first_bad}

nothing : fault_of [] ≡ Some NotImage
unfolding fault_of
nothing = refl

other_magic : fault_of (0 ∷ 0x43 ∷ 0x32 ∷ 0x49 ∷ []) ≡ Some NotImage
unfolding fault_of
other_magic = refl

four_bytes : fault_of magic ≡ Some BadLength
unfolding fault_of
four_bytes = refl

version_3 : fault_of (magic ++ (number 3 ++ number 16)) ≡ Some BadVersion
unfolding fault_of word_at
version_3 = refl

frames_15 : fault_of (magic ++ (number 2 ++ number 15)) ≡ Some (BadField 8)
unfolding fault_of word_at
frames_15 = refl

frames_17 : fault_of (magic ++ (number 1 ++ number 17)) ≡ Some BadLength
unfolding fault_of word_at
frames_17 = refl

-- the fields of a machine of 16 frames as it boots
booted : List ℕ
booted = spelling (record { version = 2; processes = Some (record { parent = 0; quota = 15; used = 1; given = 0; directory = 1 }) ∷ replicate 63 None; roles = Reserved ∷ Directory 0 ∷ replicate 14 Free; bytes = [] })

all_fields_kept : first_bad booted 16 ≡ None
unfolding booted spelling word_at fields
all_fields_kept = refl

-- a byte changed
with_byte : List ℕ → ℕ → ℕ → List ℕ
with_byte bytes place byte = take place bytes ++ (byte ∷ drop (place + 1) bytes)

live_is_2 : first_bad (with_byte booted 12 2) 16 ≡ Some 12
unfolding booted spelling word_at fields with_byte
live_is_2 = refl

quota_of_dead : first_bad (with_byte booted 140 1) 16 ≡ Some 140
unfolding booted spelling word_at fields with_byte
quota_of_dead = refl

role_5 : first_bad (with_byte booted 1596 5) 16 ≡ Some 1596
unfolding booted spelling word_at fields with_byte
role_5 = refl

free_with_pid : first_bad (with_byte booted 1600 1) 16 ≡ Some 1600
unfolding booted spelling word_at fields with_byte
free_with_pid = refl
