use Rattle.std.proofs.Common.{◌≡◌, ℕ, ◌<◌, length}
use Rattle.std.specs.Prelude.{slice_get, Some}
use Rattle.integrity_checker.specs.Found.{clause_at, either}
use Rattle.integrity_checker.proofs.findings.both.Given as goal

abbrev pub invariant-loop-place : goal.invariant-loop-place
invariant-loop-place l = (length l.clauses ≡ 64) × ((p : ℕ) → p < l.place → slice_get l.clauses p ≡ Some (either (clause_at l.mine p) (clause_at l.other p)))
