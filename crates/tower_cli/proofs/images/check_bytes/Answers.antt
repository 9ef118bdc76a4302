use Rattle.std.proofs.Common.{ap, subst, ◌∙◌, inr, refl}
use Rattle.memory_image.proofs.RespellLemmas.{unfaulted}
use Rattle.std.specs.Io.KnownBytes.{Appends}
use Rattle.command_answers.proofs.Writers.{keeps_itself}
use Rattle.image_check.specs.Text.{verdict_text}
use Rattle.image_check.specs.Told.{Told, fails_nothing}
use Rattle.text_output.specs.Output.{AppendsFront}
use Rattle.tower_cli.proofs.images.check_bytes.Goals as goal

-- what was written is the text of the verdict on the image that was read
pub returns-in-Ok-write_text-clause-told : goal.returns-in-Ok-write_text-clause-told
returns-in-Ok-write_text-clause-told g c =
    let on = c.in-Ok-check.ensures.verdict in (
      c.in-Ok.image,
      c.in-Ok.ensures.spelled,
      c.sound.ensures ∙ ap fails_nothing on,
      subst (λ (told : Told). Appends (g.W.Write.contents c.args.writer.now) (g.W.Write.contents c.write_text.new.writer) (verdict_text told)) on c.in-Ok-write_text.ensures.ok,
    )

pub returns-clause-fault : goal.returns-clause-fault
returns-clause-fault g c =
    let on = c.in-Ok-check.ensures.verdict in (
      c.in-Ok.image,
      c.in-Ok.ensures.spelled,
      subst (λ (told : Told). AppendsFront (g.W.Write.contents c.args.writer.now) (g.W.Write.contents c.write_text.new.writer) (verdict_text told)) on c.in-Err-write_text.ensures.err,
    )

-- there is no memory for the check of an image that was read
pub returns-in_default-clause-fault : goal.returns-in_default-clause-fault
returns-in_default-clause-fault g c = (inr (refl, unfaulted c.args.bytes.now c.in-Ok.image c.in-Ok.ensures.spelled), keeps_itself (g.W.Write.contents c.args.writer.now))
