use Rattle.std.proofs.Common.{◌≤◌}
use Rattle.image_map.proofs.panel.live_processes.Given as goal

abbrev pub invariant-loop-number : goal.invariant-loop-number
invariant-loop-number l = l.live ≤ l.number
