-- Accesses that a processor makes by translations that it kept: it reads and marks no word of the way.
use Rattle.std.specs.Prelude.{◌≡◌, ℕ, ◌+◌, ◌*◌, ◌<◌, Bool, ◌&&◌, List, [], ◌∷◌, map, Ok, slice_index, slice_set}
use Rattle.address_space.specs.Below.{page_number, offset_number, byte_count, covered, Size, Access, walk_of}
use Rattle.address_space.specs.Spaces.{Slot, Spaces, cell_or_fresh, value_of}

-- whether accessed and dirty of a slot are set already
abbrev pub is_marked : Spaces → Slot → Bool
is_marked spaces slot = (cell_or_fresh spaces slot).accessed && (cell_or_fresh spaces slot).dirty

-- the frames of pages are those to which the walk of each byte of an access leads
abbrev pub LeadTo : List ℕ → ℕ → Access → (ℕ → ℕ) → ℕ → Size → Type 0
LeadTo bytes directory access frames address size = (i : ℕ) → i < byte_count size
    → walk_of bytes directory (address + i) access ≡ Ok (frames (page_number (address + i)))

-- the place of an address's byte in memory, by the frame of its page
abbrev pub kept_place : (ℕ → ℕ) → ℕ → ℕ
kept_place frames address = 4096 * frames (page_number address) + offset_number address

-- the number that stands at the bytes of an access
abbrev pub number_at : (ℕ → ℕ) → List ℕ → ℕ → Size → ℕ
number_at frames bytes address size = value_of (map (λ a. slice_index bytes (kept_place frames a)) (covered address size))

-- memory with these bytes written from an address on, one after the other, and nothing else
abbrev pub written_at : (ℕ → ℕ) → List ℕ → ℕ → List ℕ → List ℕ
written_at frames bytes address [] = bytes
written_at frames bytes address (byte ∷ rest) = written_at frames (slice_set bytes (kept_place frames address) byte) (address + 1) rest
