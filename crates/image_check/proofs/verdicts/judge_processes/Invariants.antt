use Rattle.std.proofs.Common.{◌≡◌, ℕ, ◌<◌, length}
use Rattle.std.specs.Prelude.{slice_get, Some}
use Rattle.image_check.specs.Counts.{sum_range, names_by, maps_by}
use Rattle.image_check.specs.Adds.{Adds}
use Rattle.image_check.specs.Verdict.{process_clause}
use Rattle.image_check.proofs.verdicts.judge_processes.Given as goal

abbrev pub invariant-loop-number : goal.invariant-loop-number
invariant-loop-number l =
    (length l.clauses ≡ 64) × ((p : ℕ) → p < l.number → slice_get l.clauses p ≡ Some (process_clause l.image p))
    × Adds l.fn.names l.names (λ f. sum_range (λ p. names_by l.image p f) 0 l.number)
    × Adds l.fn.maps l.maps (λ f. sum_range (λ p. maps_by l.image p f) 0 l.number)
