-- The image that bytes encode, if they encode one: each field at its place.
use Rattle.std.specs.Prelude.{◌≡◌, ℕ, ◌+◌, ◌<◌, ◌==◌, ◌⊎◌, if◌then◌else◌, List, drop, map, Option, Some, None}
use Rattle.std.specs.List.{range_with_len}
use Rattle.phys_memory.specs.Bytes.{word_at}
use Rattle.alloc_table.specs.declared.Role.{Role}
use Rattle.alloc_table.specs.declared.Role.TheVariants.{Reserved, Free, Directory, Table, Page}
use Rattle.memory_image.specs.declared.faults.ImageFault.{ImageFault}
use Rattle.memory_image.specs.declared.faults.ImageFault.TheVariants.{NoMemory}
use Rattle.memory_image.specs.declared.processes.Process.{Process}
use Rattle.memory_image.specs.Image.{Image}
use Rattle.memory_image.specs.Refusals.{process_place, role_place, fault_of}

-- the process of a record with these numbers
abbrev pub process_of_numbers : ℕ → ℕ → ℕ → ℕ → ℕ → ℕ → Option Process
process_of_numbers live parent quota used given directory =
    if live == 1 then Some (record { parent = parent; quota = quota; used = used; given = given; directory = directory }) else None

-- the record of process p in bytes
abbrev pub process_in : List ℕ → ℕ → Option Process
process_in bytes p =
    let at = process_place p in
    process_of_numbers (word_at bytes at) (word_at bytes (at + 4)) (word_at bytes (at + 8)) (word_at bytes (at + 12)) (word_at bytes (at + 16)) (word_at bytes (at + 20))

-- the role of a record with these numbers
abbrev pub role_of_numbers : ℕ → ℕ → ℕ → ℕ → Role
role_of_numbers role pid slot count =
    if role == 0 then Reserved
    else if role == 1 then Free
    else if role == 2 then Directory pid
    else if role == 3 then Table pid slot
    else Page count

-- the role of frame f in bytes
abbrev pub role_in : List ℕ → ℕ → Role
role_in bytes f =
    let at = role_place f in
    role_of_numbers (word_at bytes at) (word_at bytes (at + 4)) (word_at bytes (at + 8)) (word_at bytes (at + 12))

-- the image in bytes
abbrev pub image_in : List ℕ → Image
image_in bytes = record {
  version = word_at bytes 4;
  processes = map (process_in bytes) (range_with_len 0 64);
  roles = map (role_in bytes) (range_with_len 0 (word_at bytes 8));
  bytes = drop (role_place (word_at bytes 8)) bytes;
}

-- a record's parent, where it is live, is the number of a process
abbrev pub HasParent : List ℕ → ℕ → Type 0
HasParent bytes p = word_at bytes (process_place p) ≡ 1 → word_at bytes (process_place p + 4) < 64

-- a record's process, where it is of a directory or a table, has such a number
abbrev pub HasOwner : List ℕ → ℕ → Type 0
HasOwner bytes f = (word_at bytes (role_place f) ≡ 2) ⊎ (word_at bytes (role_place f) ≡ 3) → word_at bytes (role_place f + 4) < 64

-- why bytes are refused: the first reason against them, or out of memory if there is none
abbrev pub IsRefusal : List ℕ → ImageFault → Type 0
IsRefusal bytes fault = (fault_of bytes ≡ Some fault) ⊎ ((fault ≡ NoMemory) × (fault_of bytes ≡ None))
