use Rattle.std.proofs.Common.{◌≤◌}
use Rattle.image_map.proofs.picture.line_count.Given as goal

abbrev pub invariant-loop-row : goal.invariant-loop-row
invariant-loop-row l = l.lines ≤ l.row
