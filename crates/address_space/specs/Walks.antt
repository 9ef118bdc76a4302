-- How the processor's walk ends at an address of a process, by what the process has mapped there.
use Rattle.std.specs.Prelude.{◌≡◌, ℕ, ◌^◌, ◌<◌, Bool, not, ◌&&◌, List, Option, Some, None, Ok, MatchBool}
use Rattle.address_space.specs.Below.{frame_bytes, Access, walk_of, is_write, not_present, not_allowed}
use Rattle.address_space.specs.Spaces.{Cell, Spaces, slot_at}
use Rattle.address_space.specs.Image.{Image, directory_at, is_lazy_at}
use Rattle.page_words.specs.FiniteMap as map

-- the walk finds a frame, and it has the cell's bytes
pub record FindsBytes (bytes : List ℕ) (directory address : ℕ) (access : Access) (cell : Cell) : Type 0 where
  pub frame : ℕ
  pub found : walk_of bytes directory address access ≡ Ok frame
  pub same : frame_bytes bytes frame ≡ cell.bytes

-- whether an access lacks the right to its page: a write does without the cell's right to write, and to a lazy page
abbrev pub lacks_right : Access → Bool → Cell → Bool
lacks_right access lazy cell = is_write access && not (cell.write && not lazy)

-- the walk ends as the cell says: a fault of an absent page, a fault of a missing right, or the cell's bytes
abbrev pub WalkEndsBy : List ℕ → ℕ → ℕ → Access → Bool → Option Cell → Type 0
WalkEndsBy bytes directory address access lazy None = walk_of bytes directory address access ≡ not_present address access
WalkEndsBy bytes directory address access lazy (Some cell) =
    MatchBool (lacks_right access lazy cell)
    (walk_of bytes directory address access ≡ not_allowed address access)
    (FindsBytes bytes directory address access cell)

-- every walk of every process's directory ends as the spaces say
abbrev pub WalksAgree : Image → Spaces → Type 0
WalksAgree image spaces = (p directory address : ℕ) (access : Access) → directory_at image p ≡ Some directory → address < 2 ^ 32
    → WalkEndsBy image.bytes directory address access (is_lazy_at image (slot_at p address)) (map.get spaces (slot_at p address))
