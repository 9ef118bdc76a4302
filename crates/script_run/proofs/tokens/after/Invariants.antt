-- The bytes so far are those of the word.
use Rattle.std.proofs.Common.{ℕ, ◌≡◌, ◌<◌, get_or}
use Rattle.script_run.proofs.tokens.after.Given as goal

abbrev pub invariant-loop-place : goal.invariant-loop-place
invariant-loop-place l = record {
  same : (k : ℕ) → k < l.place → get_or l.line k 0 ≡ get_or l.word k 0;
}
