use Rattle.std.proofs.Common.{◌≡◌, ◌≤◌}
use Rattle.alloc_table.proofs.Freeing.{free_above}
use Rattle.alloc_table.proofs.ledger_of.Given as goal

-- the frames from the counter on are free where their role says so
abbrev pub invariant-loop-frame : goal.invariant-loop-frame
invariant-loop-frame l = record { first : 1 ≤ l.frame; free : l.ledger ≡ free_above l.frame l.roles }
