use Rattle.std.proofs.Common.{◌≡◌, ℕ, ◌<◌, None}
use Rattle.image_check.specs.Told.{frame_told}
use Rattle.image_restore.proofs.restoring.first_frame.Given as goal

-- none of those before fails a clause
abbrev pub invariant-loop-number : goal.invariant-loop-number
invariant-loop-number l = (f : ℕ) → f < l.number → frame_told l.verdict f ≡ None
