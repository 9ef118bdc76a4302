-- The offers and the frames that bytes encode, if they encode some: each field at its place.
use Rattle.std.specs.Prelude.{◌≡◌, ℕ, ◌+◌, ◌*◌, ◌<◌, ◌≤◌, ◌==◌, ◌⊎◌, List, length, take, drop, map, Some, None, slice_get, slice_index}
use Rattle.std.specs.List.{range_with_len}
use Rattle.phys_memory.specs.Bytes.{word_at}
use Rattle.alloc_table.specs.declared.Role.{Role}
use Rattle.memory_image.specs.Image.{IsRole}
use Rattle.memory_image.specs.Reading.{role_of_numbers}
use Rattle.wide_image.specs.declared.faults.WideImageFault.{WideImageFault}
use Rattle.wide_image.specs.declared.faults.WideImageFault.TheVariants.{NoMemory}
use Rattle.wide_image.specs.declared.offers.PendingOffer.{PendingOffer}
use Rattle.wide_image.specs.Layout.{frames_text, frames_stored, AreBlank}
use Rattle.wide_image.specs.Faults.{fault_of}

-- the offer at a place
abbrev pub offer_at : List ℕ → ℕ → PendingOffer
offer_at bytes at = record { offerer = word_at bytes at; page = word_at bytes (at + 4); target = word_at bytes (at + 8); write = word_at bytes (at + 12) == 1 }

-- the offer of that number
abbrev pub offer_in : List ℕ → ℕ → PendingOffer
offer_in bytes i = offer_at bytes (1556 + 16 * i)

-- so many offers
abbrev pub offers_in : List ℕ → ℕ → List PendingOffer
offers_in bytes count = map (offer_in bytes) (range_with_len 0 count)

-- offerer and target at a place are numbers of processes
pub record HasParties (bytes : List ℕ) (at : ℕ) : Type 0 where
  pub offerer : word_at bytes at < 64
  pub target : word_at bytes (at + 8) < 64

-- the role of a frame's record at a place
abbrev pub role_at : List ℕ → ℕ → Role
role_at bytes at = role_of_numbers (word_at bytes (at + 4)) (word_at bytes (at + 8)) (word_at bytes (at + 12)) (word_at bytes (at + 16))

-- a record's process, where it is of a directory or a table, has the number of one
abbrev pub HasOwner : List ℕ → ℕ → Type 0
HasOwner bytes at = (word_at bytes (at + 4) ≡ 2) ⊎ (word_at bytes (at + 4) ≡ 3) → word_at bytes (at + 8) < 64

-- roles and bytes of the first frames of n, of which the first so many records after a place are; the other records of
-- `count` pass their tests
pub record AreRead (bytes : List ℕ) (n start count done : ℕ) (roles : List Role) (store : List ℕ) : Type 0 where
  pub text : frames_text 0 roles store ≡ take (4116 * done) (drop start bytes)
  pub size : length store ≡ 4096 * length roles
  pub most : length roles ≤ n
  pub kinds : (i : ℕ) (r : Role) → slice_get roles i ≡ Some r → IsRole r
  pub blank : AreBlank roles store
  pub many : frames_stored roles ≡ done

-- roles and bytes of all n frames
pub record AreFrames (bytes : List ℕ) (n start count : ℕ) (roles : List Role) (store : List ℕ) : Type 0 where
  pub read : AreRead bytes n start count count roles store
  pub all : length roles ≡ n
  pub small : (i : ℕ) → slice_index store i < 256

-- why bytes are refused: the first reason against them, or out of memory if there is none
abbrev pub IsRefusal : List ℕ → WideImageFault → Type 0
IsRefusal bytes fault = (fault_of bytes ≡ Some fault) ⊎ ((fault ≡ NoMemory) × (fault_of bytes ≡ None))
