use Rattle.std.proofs.Common.{rules, List, ℕ, arith, ap, subst, ◌∙◌}
use Rattle.std.specs.Prelude.{OnErr}
use Rattle.text_output.specs.Output.{AppendsFront}
use Rattle.text_output.proofs.OutputLemmas.{cut_last}
use Rattle.memory_report.proofs.TextLemmas.{wrote_row, cut_row, at_end}
use Rattle.memory_report.specs.Text.{report_text, total_line}
use Rattle.memory_report.proofs.text.write_rows.Goals as goal

pub loop-number-preserved : goal.loop-number-preserved
loop-number-preserved g c =
    wrote_row _ _ _ _ _ c.args.rows.now c.loop-number.number c.index-rows-number.result (omega arith) c.loop-number.invariant c.in_ok-write_row.ensures.ok

pub returns-in_err-write_row-clause-err : goal.returns-in_err-write_row-clause-err
returns-in_err-write_row-clause-err g c =
    let front : AppendsFront (g.W.Write.contents c.args.writer.now) (g.W.Write.contents c.write_row.new.writer) (report_text c.args.rows.now) =
    cut_row _ _ _ _ _ c.args.rows.now c.loop-number.number c.index-rows-number.result (omega arith) c.loop-number.invariant c.in_err-write_row.ensures.err in
    search rules

pub returns-clause-err : goal.returns-clause-err
returns-clause-err g c =
    let last = at_end _ _ _ _ c.args.rows.now c.loop-number.number (omega arith) c.loop-number.invariant in
    let bytes = c.deref.ensures.0 ∙ c.total_line.ensures ∙ ap total_line c.total_used.ensures in
    cut_last _ _ _ _ _ c.write_whole.result last (subst (λ (l : List ℕ). OnErr c.write_whole.result (AppendsFront (g.W.Write.contents c.loop-number.writer) (g.W.Write.contents c.write_whole.new.writer) l)) bytes c.write_whole.ensures.err)
