use Rattle.std.proofs.Common.{◌≡◌, ℕ, ◌<◌, length}
use Rattle.std.specs.Prelude.{slice_get, Some}
use Rattle.memory_image.specs.Machine.{process_told, IsToldWide}
use Rattle.memory_image.proofs.core_image.processes_of.Given as goal

abbrev pub invariant-loop-number : goal.invariant-loop-number
invariant-loop-number l = (length l.processes ≡ 64) × ((p : ℕ) → p < l.number → slice_get l.processes p ≡ Some (process_told l.core p)) × ((p : ℕ) → p < l.number → IsToldWide l.core p)
