-- The ledger of the frames whose role is Free, made from the last frame down.
use Rattle.std.proofs.Common.{◌≡◌, ℕ, ◌<◌, false, List, [], ◌∷◌, length, drop, map, Some, arith}
use Rattle.std.specs.Prelude.{slice_get}
use Rattle.page_words.specs.FiniteSet as set
use Rattle.page_words.specs.Marked.{marked_from, marked_numbers}
use Rattle.page_words.proofs.Marks.{contains-below}
use Rattle.frame_ledger.specs.FreeFrames.{FreeFrames}
use Rattle.alloc_table.specs.declared.Role.{Role}
use Rattle.alloc_table.specs.declared.Role.TheVariants.{Reserved}
use Rattle.alloc_table.specs.Roles.{is_free}
use Rattle.alloc_table.specs.Free.{free_by}

-- the frames from a first one on that are free
abbrev pub free_above : ℕ → List Role → FreeFrames
free_above first roles = record { free = marked_from first (map is_free (drop first roles)); frames = length roles }

-- a frame before them is none of them
pub free_above-before : (q first : ℕ) (roles : List Role) → q < first → set.contains (free_above first roles).free q ≡ false
free_above-before q first roles h = contains-below first (map is_free (drop first roles)) q h

-- all of them, where frame 0 is reserved
pub free_above-all : (roles : List Role) → slice_get roles 0 ≡ Some Reserved → free_above 1 roles ≡ free_by roles
unfolding marked_numbers
free_above-all [] h = cc
free_above-all (r ∷ roles) h = grind arith
