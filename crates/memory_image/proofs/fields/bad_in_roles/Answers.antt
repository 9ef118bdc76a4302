use Rattle.std.proofs.Common.{sym, ap, ◌∙◌, arith}
use Rattle.std.specs.Prelude.{is_some}
use Rattle.std.specs.List.{flat_map, range_with_len}
use Rattle.memory_image.specs.Tests.{first_failing}
use Rattle.memory_image.specs.Refusals.{role_fields}
use Rattle.memory_image.proofs.FieldLemmas.{begins_so, goes_on, stops, ends_so}
use Rattle.memory_image.proofs.fields.bad_in_roles.Goals as goal

pub loop-frame-init : goal.loop-frame-init
loop-frame-init c = begins_so (role_fields c.args.bytes.now) (c.args.frames)

pub loop-frame-preserved : goal.loop-frame-preserved
loop-frame-preserved c = goes_on (role_fields c.args.bytes.now) (c.args.frames) (first_failing (flat_map (role_fields c.args.bytes.now) (range_with_len 0 (c.args.frames)))) c.loop-frame.frame (omega arith) c.loop-frame.invariant (sym (c.is_some.ensures ∙ ap is_some c.bad_role-bad.ensures) ∙ c.if-is_some.false)

pub returns-then-is_some : goal.returns-then-is_some
returns-then-is_some c = stops (role_fields c.args.bytes.now) (c.args.frames) (first_failing (flat_map (role_fields c.args.bytes.now) (range_with_len 0 (c.args.frames)))) c.loop-frame.frame c.bad_role-bad.result (omega arith) c.loop-frame.invariant c.bad_role-bad.ensures (sym c.is_some.ensures ∙ c.if-is_some.true)

pub returns : goal.returns
returns c = ends_so (role_fields c.args.bytes.now) (c.args.frames) (first_failing (flat_map (role_fields c.args.bytes.now) (range_with_len 0 (c.args.frames)))) c.loop-frame.frame (omega arith) c.loop-frame.invariant
