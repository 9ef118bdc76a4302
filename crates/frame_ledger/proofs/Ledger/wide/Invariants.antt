use Rattle.std.proofs.Common.{◌≡◌, ◌≤◌}
use Rattle.frame_ledger.proofs.Chains.{free_from}
use Rattle.frame_ledger.proofs.Ledger.wide.Given as goal

-- the frames from the counter on are free
abbrev pub invariant-loop-frame : goal.invariant-loop-frame
invariant-loop-frame l = record { first : 1 ≤ l.frame; free : l.ledger ≡ free_from l.frame l.frames }
