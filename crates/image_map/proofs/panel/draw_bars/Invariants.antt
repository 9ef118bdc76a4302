use Rattle.std.proofs.Common.{◌≤◌}
use Rattle.image_map.proofs.panel.draw_bars.Given as goal

abbrev pub invariant-loop-number : goal.invariant-loop-number
invariant-loop-number g l = l.drawn ≤ l.number
