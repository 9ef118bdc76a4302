use Rattle.std.proofs.Common.{◌≡◌, ℕ, ◌+◌, ◌<◌, ◌≤◌, length}
use Rattle.std.specs.Prelude.{slice_index}
use Rattle.integrity_checker.proofs.findings.add_counts.Given as goal

abbrev pub invariant-loop-place : goal.invariant-loop-place
invariant-loop-place l =
    (length l.into ≡ length l.fn.into)
    × ((f : ℕ) → f < l.place → slice_index l.into f ≡ slice_index l.fn.into f + slice_index l.counts f)
    × ((f : ℕ) → l.place ≤ f → slice_index l.into f ≡ slice_index l.fn.into f)
