use Rattle.std.proofs.Common.{◌≡◌, map}
use Rattle.std.specs.List.{range_with_len}
use Rattle.memory_image.specs.Reading.{role_in}
use Rattle.memory_image.proofs.reading.roles_in.Given as goal

abbrev pub invariant-loop-frame : goal.invariant-loop-frame
invariant-loop-frame l = l.roles.items ≡ map (role_in l.bytes) (range_with_len 0 l.frame)
