use Rattle.std.proofs.Common.{◌≡◌}
use Rattle.std.specs.List.{flat_map, range_with_len}
use Rattle.memory_image.specs.Tests.{first_failing}
use Rattle.memory_image.specs.Refusals.{process_fields}
use Rattle.memory_image.proofs.FieldLemmas.{from}
use Rattle.memory_image.proofs.fields.bad_in_processes.Given as goal

abbrev pub invariant-loop-number : goal.invariant-loop-number
invariant-loop-number l = first_failing (flat_map (process_fields l.bytes l.fn.frames) (range_with_len 0 (64))) ≡ from (process_fields l.bytes l.fn.frames) (64) l.number
