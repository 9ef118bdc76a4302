use Rattle.std.specs.List.{flat_map, range_with_len}
use Rattle.memory_image.specs.Refusals.{process_fields}
use Rattle.wide_image.specs.Faults.{stored_field}
use Rattle.wide_image.proofs.Loops.{front_bad, front_good}
use Rattle.wide_image.proofs.fields.bad_in_front.Goals as goal

pub returns-in-Some : goal.returns-in-Some
returns-in-Some c = front_bad (flat_map (process_fields c.args.bytes.now c.args.frames) (range_with_len 0 64)) (stored_field c.args.stored c.args.frames) c.bad_in_processes.result c.in-Some.place c.bad_in_processes.ensures c.in-Some.is

pub returns-in-None : goal.returns-in-None
returns-in-None c = front_good (flat_map (process_fields c.args.bytes.now c.args.frames) (range_with_len 0 64)) (stored_field c.args.stored c.args.frames) c.bad_in_processes.result c.bad_in_count.result c.bad_in_processes.ensures c.in-None.is c.bad_in_count.ensures
