use Rattle.std.proofs.Common.{◌≡◌, vec_len}
use Rattle.base_tests.proofs.ledger_tests.agrees_with_a_scan.Given as goal

-- a mark for each frame
abbrev pub invariant-loop-step : goal.invariant-loop-step
invariant-loop-step g l = vec_len l.marks ≡ l.ledger.frames
