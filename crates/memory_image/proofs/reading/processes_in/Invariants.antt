use Rattle.std.proofs.Common.{◌≡◌, ℕ, ◌<◌, length}
use Rattle.std.specs.Prelude.{slice_get, Some}
use Rattle.memory_image.specs.Reading.{process_in}
use Rattle.memory_image.proofs.reading.processes_in.Given as goal

abbrev pub invariant-loop-number : goal.invariant-loop-number
invariant-loop-number l = (length l.processes ≡ 64) × ((p : ℕ) → p < l.number → slice_get l.processes p ≡ Some (process_in l.bytes p))
