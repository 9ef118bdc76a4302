use Rattle.std.proofs.Common.{◌≡◌}
use Rattle.std.specs.List.{flat_map, range_with_len}
use Rattle.memory_image.specs.Tests.{first_failing}
use Rattle.memory_image.specs.Refusals.{role_fields}
use Rattle.memory_image.proofs.FieldLemmas.{from}
use Rattle.memory_image.proofs.fields.bad_in_roles.Given as goal

abbrev pub invariant-loop-frame : goal.invariant-loop-frame
invariant-loop-frame l = first_failing (flat_map (role_fields l.bytes) (range_with_len 0 (l.fn.frames))) ≡ from (role_fields l.bytes) (l.fn.frames) l.frame
