use Rattle.std.proofs.Common.{List, ℕ, subst, ◌≡◌, ◌∙◌, ◌++◌}
use Rattle.std.specs.Prelude.{OnErr}
use Rattle.memory_image.specs.Spelling.{number}
use Rattle.text_output.specs.Output.{AppendsFront}
use Rattle.wide_image.specs.FirstBytes.{snapshot_magic}
use Rattle.wide_image.proofs.writing.write_front.Goals as goal

pub returns-clause-err : goal.returns-clause-err
returns-clause-err g c =
    let bytes : c.deref.result.now ≡ snapshot_magic ++ (number 1 ++ number c.args.frames) = c.deref.ensures.0 ∙ c.record_of.ensures ∙ c.first_numbers.ensures in
    subst (λ (l : List ℕ). OnErr c.write_whole.result (AppendsFront (g.W.Write.contents c.args.writer.now) (g.W.Write.contents c.write_whole.new.writer) l)) bytes c.write_whole.ensures.err
