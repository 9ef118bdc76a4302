-- What is not written yet are the lines from the next number on.
use Rattle.std.proofs.Common.{◌-◌, ◌+◌, ◌/◌}
use Rattle.std.specs.List.{flat_map, range_with_len}
use Rattle.text_output.specs.Output.{LeavesUnwritten}
use Rattle.image_map.specs.Text.{row_text, rows, rows_text}
use Rattle.image_map.proofs.text.write_rows.Given as goal

abbrev pub invariant-loop-row : goal.invariant-loop-row
invariant-loop-row g l = LeavesUnwritten (g.W.Write.contents l.fn.writer) (g.W.Write.contents l.writer) (rows_text l.image) (flat_map (row_text l.image) (range_with_len l.row (rows l.image - l.row)))
