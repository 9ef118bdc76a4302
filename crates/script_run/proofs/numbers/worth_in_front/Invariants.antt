-- The value is what the bytes so far are worth.
use Rattle.std.proofs.Common.{◌+◌, ◌*◌, ◌≤◌, ◌^◌, take}
use Rattle.script_run.specs.Operands.{IsWorth}
use Rattle.script_run.proofs.numbers.worth_in_front.Given as goal

abbrev pub invariant-loop-place : goal.invariant-loop-place
invariant-loop-place l = record {
  worth : IsWorth (take l.place l.line) l.value;
  small : l.value * 15 + 2 ^ 32 ≤ 2 ^ 32 * 16 ^ l.place;
}
