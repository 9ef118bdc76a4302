use Rattle.std.proofs.Common.{◌≡◌, ℕ, ◌<◌, None}
use Rattle.image_check.specs.Told.{process_told}
use Rattle.image_restore.proofs.restoring.first_process.Given as goal

-- none of those before fails a clause
abbrev pub invariant-loop-number : goal.invariant-loop-number
invariant-loop-number l = (p : ℕ) → p < l.number → process_told l.verdict p ≡ None
