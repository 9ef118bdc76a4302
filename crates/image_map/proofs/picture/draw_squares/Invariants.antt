use Rattle.std.proofs.Common.{◌≤◌}
use Rattle.image_map.proofs.picture.draw_squares.Given as goal

abbrev pub invariant-loop-row : goal.invariant-loop-row
invariant-loop-row g l = l.line ≤ l.row
