use Rattle.std.proofs.Common.{sym, ap, ◌∙◌, arith}
use Rattle.std.specs.Prelude.{is_some}
use Rattle.std.specs.List.{flat_map, range_with_len}
use Rattle.memory_image.specs.Tests.{first_failing}
use Rattle.memory_image.specs.Refusals.{process_fields}
use Rattle.memory_image.proofs.FieldLemmas.{begins_so, goes_on, stops, ends_so}
use Rattle.memory_image.proofs.fields.bad_in_processes.Goals as goal

pub loop-number-init : goal.loop-number-init
loop-number-init c = begins_so (process_fields c.args.bytes.now c.args.frames) (64)

pub loop-number-preserved : goal.loop-number-preserved
loop-number-preserved c = goes_on (process_fields c.args.bytes.now c.args.frames) (64) (first_failing (flat_map (process_fields c.args.bytes.now c.args.frames) (range_with_len 0 (64)))) c.loop-number.number (omega arith) c.loop-number.invariant (sym (c.is_some.ensures ∙ ap is_some c.bad_process-bad.ensures) ∙ c.if-is_some.false)

pub returns-then-is_some : goal.returns-then-is_some
returns-then-is_some c = stops (process_fields c.args.bytes.now c.args.frames) (64) (first_failing (flat_map (process_fields c.args.bytes.now c.args.frames) (range_with_len 0 (64)))) c.loop-number.number c.bad_process-bad.result (omega arith) c.loop-number.invariant c.bad_process-bad.ensures (sym c.is_some.ensures ∙ c.if-is_some.true)

pub returns : goal.returns
returns c = ends_so (process_fields c.args.bytes.now c.args.frames) (64) (first_failing (flat_map (process_fields c.args.bytes.now c.args.frames) (range_with_len 0 (64)))) c.loop-number.number (omega arith) c.loop-number.invariant
