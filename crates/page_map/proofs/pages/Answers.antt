use Rattle.page_map.proofs.Prelude
use Prelude.{is_some, sym, arith, frame_bytes, entry_at}
use Rattle.page_map.proofs.PageLemmas.{count_range-zero, count_slot, count_end, len-entries_of}
use Rattle.page_map.proofs.pages.Goals as goal

pub loop-slot-init : goal.loop-slot-init
loop-slot-init c = (sym (count_range-zero _ 0x40000), omega arith)

pub loop-slot-preserved : goal.loop-slot-preserved
loop-slot-preserved c = (
  count_slot (λ page. is_some (entry_at (frame_bytes c.args.memory.now) c.args.directory page)) c.loop-slot.slot c.loop-slot.pages c.pages_of_slot-pages.result c.loop-slot.auto.slot c.loop-slot.invariant.0 c.pages_of_slot-pages.ensures.count,
  omega (arith, c.loop-slot.invariant.1, c.loop-slot.auto.slot, c.pages_of_slot-pages.ensures.bound),
)

pub returns : goal.returns
returns c = grind (arith, count_end, len-entries_of, c.loop-slot.invariant.0)
