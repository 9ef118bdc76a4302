-- The bytes so far are of the token, and the value is what they are worth.
use Rattle.std.proofs.Common.{◌≡◌, ℕ, ◌+◌, ◌*◌, ◌<◌, ◌≤◌, ◌^◌, take, length, get_or}
use Rattle.script_run.specs.Operands.{IsWorth}
use Rattle.script_run.proofs.numbers.short_token.Given as goal

abbrev pub invariant-loop-place : goal.invariant-loop-place
invariant-loop-place l = record {
  within : l.place ≤ length l.line;
  visible : (k : ℕ) → k < l.place → get_or l.line k 0 ≡ 32 → ⊥;
  worth : IsWorth (take l.place l.line) l.value;
  small : l.value * 15 + 2 ^ 32 ≤ 2 ^ 32 * 16 ^ l.place;
}
