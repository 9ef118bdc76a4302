use Rattle.std.proofs.Common.{List, ℕ, subst, ◌≡◌, ◌∙◌, ◌++◌}
use Rattle.std.specs.Prelude.{OnErr}
use Rattle.memory_image.specs.Spelling.{number, role_bytes}
use Rattle.text_output.specs.Output.{AppendsFront}
use Rattle.wide_image.proofs.writing.write_head.Goals as goal

pub returns-clause-err : goal.returns-clause-err
returns-clause-err g c =
    let bytes : c.deref.result.now ≡ number c.args.frame ++ role_bytes c.args.role = c.deref.ensures.0 ∙ c.record_of.ensures ∙ c.frame_numbers.ensures in
    subst (λ (l : List ℕ). OnErr c.write_whole.result (AppendsFront (g.W.Write.contents c.args.writer.now) (g.W.Write.contents c.write_whole.new.writer) l)) bytes c.write_whole.ensures.err
