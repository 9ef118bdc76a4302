use Rattle.std.proofs.Common.{◌≡◌, ◌+◌, ◌-◌}
use Rattle.image_map.specs.Text.{free_rows, rows}
use Rattle.image_map.proofs.frames.free_rows.Given as goal

abbrev pub invariant-loop-next : goal.invariant-loop-next
invariant-loop-next l = (l.count + free_rows l.image l.next (rows l.image - l.next) ≡ free_rows l.image l.row (rows l.image - l.row)) × (l.row + l.count ≡ l.next)
