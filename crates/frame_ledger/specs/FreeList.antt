-- The list of free frames in a ledger's places, one number a frame. A free frame's place has the number of the next
-- free one, and the last one's has 0. The place of a frame in use has a mark.
use Rattle.std.specs.Prelude.{◌≡◌, ◌≢◌, ℕ, ◌≤◌, Bool, not, ◌==◌, List, [], ◌∷◌, length, map, AllPairs, slice_index_or}
use Rattle.page_words.specs.FiniteSet as set
use Rattle.page_words.specs.Marked.{marked_numbers}
use Rattle.frame_ledger.specs.FreeFrames.{FreeFrames}
use Rattle.frame_ledger.specs.declared.TheConstants.{IN_USE, END}

-- whether a place is a free frame's
abbrev pub is_link : ℕ → Bool
is_link number = not (number == IN_USE)

-- the frames whose place isn't the mark are free
abbrev pub seen_as : List ℕ → FreeFrames
seen_as places = record { free = marked_numbers (map is_link places); frames = length places }

-- no frame is free
abbrev pub all_in_use : ℕ → FreeFrames
all_in_use frames = record { free = set.empty; frames = frames }

-- the number in a frame's place; there is none past the end
abbrev pub number_at : List ℕ → ℕ → ℕ
number_at places frame = slice_index_or places frame IN_USE

-- these frames, from the head on, each named by the place of the one before it; 0 ends them
abbrev pub IsChain : List ℕ → ℕ → List ℕ → Type 0
IsChain places head [] = head ≡ END
IsChain places head (frame ∷ frames) = (head ≡ frame) × IsChain places (number_at places frame) frames

-- a chain from the head that visits each free frame exactly once
pub record IsFreeList (places : List ℕ) (head : ℕ) (frames : List ℕ) : Type 0 where
  pub linked : IsChain places head frames
  pub once : AllPairs (λ a b. a ≢ b) frames
  pub each : set.from_list frames ≡ (seen_as places).free

-- the places of 16 to 1,048,576 frames, of which frame 0 isn't free: the free ones are in a list from the head, and are
-- this many
pub record IsLedger (places : List ℕ) (head count : ℕ) : Type 0 where
  pub fewest : 16 ≤ length places
  pub most : length places ≤ 1048576
  pub reserved : number_at places 0 ≡ IN_USE
  pub chain : (frames : List ℕ) × IsFreeList places head frames × (count ≡ length frames)
