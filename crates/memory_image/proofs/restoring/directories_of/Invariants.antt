use Rattle.std.proofs.Common.{◌≡◌, ℕ, ◌<◌, length}
use Rattle.std.specs.Prelude.{slice_get, slice_index_or, Some, None}
use Rattle.memory_image.specs.Image.{directory_from}
use Rattle.memory_image.proofs.restoring.directories_of.Given as goal

abbrev pub invariant-loop-place : goal.invariant-loop-place
invariant-loop-place l = (length l.directories ≡ 64) × ((p : ℕ) → p < l.place → slice_get l.directories p ≡ Some (directory_from (slice_index_or l.processes p None)))
