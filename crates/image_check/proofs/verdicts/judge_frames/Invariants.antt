use Rattle.std.proofs.Common.{◌≡◌, ℕ, ◌<◌}
use Rattle.std.specs.Prelude.{slice_get, Some}
use Rattle.image_check.specs.Verdict.{frame_clause}
use Rattle.image_check.proofs.verdicts.judge_frames.Given as goal

abbrev pub invariant-loop-frame : goal.invariant-loop-frame
invariant-loop-frame l = (f : ℕ) → f < l.frame → slice_get l.clauses f ≡ Some (frame_clause l.image f)
