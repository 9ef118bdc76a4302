use Rattle.std.proofs.Common.{rules, arith, refl, ◌-◌}
use Rattle.text_output.specs.Output.{AppendsFront}
use Rattle.image_map.specs.Text.{slot_text, pages_text}
use Rattle.image_map.proofs.RangeTexts.{writes_none, wrote_number, cut_number, wrote_range}
use Rattle.image_map.proofs.text.write_pages.Goals as goal

pub loop-slot-init : goal.loop-slot-init
unfolding pages_text
loop-slot-init g c = writes_none (slot_text c.args.image.now c.args.most c.args.pid) (g.W.Write.contents c.args.writer.now) (pages_text c.args.image.now c.args.most c.args.pid) 256 (704) (960) (omega arith) refl

pub loop-slot-preserved : goal.loop-slot-preserved
loop-slot-preserved g c = wrote_number (slot_text c.args.image.now c.args.most c.args.pid) _ _ (pages_text c.args.image.now c.args.most c.args.pid) c.loop-slot.slot (960) _ (omega arith) c.loop-slot.invariant c.in_ok-write_slot.ensures.ok

pub returns-in_err-write_slot-clause-err : goal.returns-in_err-write_slot-clause-err
returns-in_err-write_slot-clause-err g c =
    let front : AppendsFront (g.W.Write.contents c.args.writer.now) (g.W.Write.contents c.write_slot.new.writer) (pages_text c.args.image.now c.args.most c.args.pid) =
    cut_number (slot_text c.args.image.now c.args.most c.args.pid) _ _ (pages_text c.args.image.now c.args.most c.args.pid) c.loop-slot.slot (960) _ (omega arith) c.loop-slot.invariant c.in_err-write_slot.ensures.err in
    search rules

pub returns-clause-ok : goal.returns-clause-ok
returns-clause-ok g c = wrote_range (slot_text c.args.image.now c.args.most c.args.pid) _ _ (pages_text c.args.image.now c.args.most c.args.pid) c.loop-slot.slot (960) (omega arith) c.loop-slot.invariant
