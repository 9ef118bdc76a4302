use Rattle.std.proofs.Common.{arith}
use Rattle.address_space.specs.Image.{table_at}
use Rattle.memory_image.specs.Image.{memory_of}
use Rattle.image_check.specs.Counts.{is_this}
use Rattle.image_check.proofs.AddLemmas.{adds_begins, adds_goes_on, adds_done, adds_of, room_goes_on}
use Rattle.image_check.proofs.repeated_names.count_slots.Goals as goal

pub loop-slot-init : goal.loop-slot-init
loop-slot-init c = adds_begins (λ f s. is_this f (table_at (memory_of c.args.image.now) c.args.pid s)) c.args.names.now 256

pub count_one-requires : goal.count_one-requires
count_one-requires c = room_goes_on (λ f s. is_this f (table_at (memory_of c.args.image.now) c.args.pid s)) c.args.names.now c.loop-slot.names 256 704 c.loop-slot.slot (omega arith) (omega arith) c.requires.names c.loop-slot.invariant

pub loop-slot-preserved : goal.loop-slot-preserved
loop-slot-preserved c =
    adds_goes_on (λ f s. is_this f (table_at (memory_of c.args.image.now) c.args.pid s)) c.args.names.now c.loop-slot.names c.count_one.new.counts 256 c.loop-slot.slot (omega arith) c.loop-slot.invariant
    (adds_of c.loop-slot.names c.count_one.new.counts c.table_at.result (table_at (memory_of c.args.image.now) c.args.pid c.loop-slot.slot) c.table_at.ensures c.count_one.ensures)

pub returns : goal.returns
returns c = adds_done (λ f s. is_this f (table_at (memory_of c.args.image.now) c.args.pid s)) c.args.names.now c.loop-slot.names 256 704 c.loop-slot.slot (omega arith) c.loop-slot.invariant
