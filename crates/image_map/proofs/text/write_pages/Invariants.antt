-- What is not written yet are the lines from the next number on.
use Rattle.std.proofs.Common.{◌-◌}
use Rattle.std.specs.List.{flat_map, range_with_len}
use Rattle.text_output.specs.Output.{LeavesUnwritten}
use Rattle.image_map.specs.Text.{slot_text, pages_text}
use Rattle.image_map.proofs.text.write_pages.Given as goal

abbrev pub invariant-loop-slot : goal.invariant-loop-slot
invariant-loop-slot g l = LeavesUnwritten (g.W.Write.contents l.fn.writer) (g.W.Write.contents l.writer) (pages_text l.image l.fn.most l.fn.pid) (flat_map (slot_text l.image l.fn.most l.fn.pid) (range_with_len l.slot (960 - l.slot)))
