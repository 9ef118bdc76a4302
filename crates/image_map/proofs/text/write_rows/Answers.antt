use Rattle.std.proofs.Common.{rules, arith, refl, ◌+◌, ◌-◌, ◌/◌}
use Rattle.text_output.specs.Output.{AppendsFront}
use Rattle.image_map.specs.Text.{row_text, rows, rows_text}
use Rattle.image_map.proofs.RangeTexts.{writes_none, wrote_number, cut_number, wrote_range}
use Rattle.image_map.proofs.text.write_rows.Goals as goal

pub loop-row-init : goal.loop-row-init
unfolding rows_text
loop-row-init g c = writes_none (row_text c.args.image.now) (g.W.Write.contents c.args.writer.now) (rows_text c.args.image.now) 0 (rows c.args.image.now) (rows c.args.image.now) (omega arith) refl

pub loop-row-preserved : goal.loop-row-preserved
loop-row-preserved g c = wrote_number (row_text c.args.image.now) _ _ (rows_text c.args.image.now) c.loop-row.row (rows c.args.image.now) _ (omega arith) c.loop-row.invariant c.in_ok-write_row.ensures.ok

pub returns-in_err-write_row-clause-err : goal.returns-in_err-write_row-clause-err
returns-in_err-write_row-clause-err g c =
    let front : AppendsFront (g.W.Write.contents c.args.writer.now) (g.W.Write.contents c.write_row.new.writer) (rows_text c.args.image.now) =
    cut_number (row_text c.args.image.now) _ _ (rows_text c.args.image.now) c.loop-row.row (rows c.args.image.now) _ (omega arith) c.loop-row.invariant c.in_err-write_row.ensures.err in
    search rules

pub returns-clause-ok : goal.returns-clause-ok
returns-clause-ok g c = wrote_range (row_text c.args.image.now) _ _ (rows_text c.args.image.now) c.loop-row.row (rows c.args.image.now) (omega arith) c.loop-row.invariant
