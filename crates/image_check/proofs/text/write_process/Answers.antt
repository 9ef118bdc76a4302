use Rattle.std.proofs.Common.{List, ℕ, sym, ap, subst, ◌≡◌, ◌∙◌}
use Rattle.std.specs.Prelude.{OnErr}
use Rattle.text_output.specs.Output.{AppendsFront}
use Rattle.image_check.specs.Text.{process_line}
use Rattle.image_check.proofs.text.write_process.Goals as goal

pub returns-in-Some-clause-err : goal.returns-in-Some-clause-err
unfolding process_line
returns-in-Some-clause-err g c =
    let bytes : c.deref.result.now ≡ process_line c.args.number c.args.clause.now = c.deref.ensures.0 ∙ c.process_line.ensures ∙ ap (process_line c.args.number) (sym c.in-Some.is) in
    subst (λ (l : List ℕ). OnErr c.write_whole.result (AppendsFront (g.W.Write.contents c.args.writer.now) (g.W.Write.contents c.write_whole.new.writer) l)) bytes c.write_whole.ensures.err
