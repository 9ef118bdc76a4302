use Rattle.std.proofs.Common.{List, ℕ, sym, ap, subst, ◌≡◌, ◌∙◌}
use Rattle.std.specs.Prelude.{OnErr}
use Rattle.text_output.specs.Output.{AppendsFront}
use Rattle.memory_report.specs.Text.{line_of}
use Rattle.memory_report.proofs.text.write_row.Goals as goal

pub returns-in-Some-clause-err : goal.returns-in-Some-clause-err
unfolding line_of
returns-in-Some-clause-err g c =
    let bytes : c.deref.result.now ≡ line_of c.args.number c.args.row.now = c.deref.ensures.0 ∙ c.row_line.ensures ∙ ap (line_of c.args.number) (sym c.in-Some.is) in
    subst (λ (l : List ℕ). OnErr c.write_whole.result (AppendsFront (g.W.Write.contents c.args.writer.now) (g.W.Write.contents c.write_whole.new.writer) l)) bytes c.write_whole.ensures.err
