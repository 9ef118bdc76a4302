use Rattle.std.proofs.Common.{◌≡◌, ℕ, ◌<◌, length}
use Rattle.std.specs.Prelude.{slice_get, slice_index_or, Some, None}
use Rattle.memory_image.specs.Restored.{account_from}
use Rattle.memory_image.proofs.restoring.accounts_of.Given as goal

abbrev pub invariant-loop-place : goal.invariant-loop-place
invariant-loop-place l = (length l.accounts ≡ 64) × ((p : ℕ) → p < l.place → slice_get l.accounts p ≡ Some (account_from (slice_index_or l.processes p None)))
