use Rattle.std.proofs.Common.{sym, ◌∙◌}
use Rattle.std.specs.List.{flat_map, range_with_len}
use Rattle.memory_image.specs.Refusals.{process_fields, role_fields, fields}
use Rattle.memory_image.proofs.FieldLemmas.{two_some, two_none}
use Rattle.memory_image.proofs.fields.first_bad.Goals as goal

pub returns-then-is_some : goal.returns-then-is_some
unfolding fields
returns-then-is_some c =
    two_some (flat_map (process_fields c.args.bytes.now c.args.frames) (range_with_len 0 64)) (flat_map (role_fields c.args.bytes.now) (range_with_len 0 c.args.frames))
    c.bad_in_processes-bad.result c.bad_in_processes-bad.ensures (sym c.is_some.ensures ∙ c.if-is_some.true)

pub returns : goal.returns
unfolding fields
returns c =
    two_none (flat_map (process_fields c.args.bytes.now c.args.frames) (range_with_len 0 64)) (flat_map (role_fields c.args.bytes.now) (range_with_len 0 c.args.frames))
    c.bad_in_processes-bad.result c.bad_in_roles.result c.bad_in_processes-bad.ensures (sym c.is_some.ensures ∙ c.if-is_some.false) c.bad_in_roles.ensures
