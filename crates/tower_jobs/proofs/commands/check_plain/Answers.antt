use Rattle.std.proofs.Common.{ℕ, Bool, List, inl, inr, subst}
use Rattle.command_answers.proofs.Writers.{keeps_itself}
use Rattle.tower_cli.specs.Images.{Checks, EndsCheck}
use Rattle.tower_jobs.proofs.commands.check_plain.Goals as goal

pub returns-in-Err : goal.returns-in-Err
returns-in-Err g c = inl (c.in-Err.ensures.fault, keeps_itself (g.O.Write.contents c.args.output.now))

pub returns-in-Ok-true : goal.returns-in-Ok-true
returns-in-Ok-true g c = (
  c.in-Ok.bytes.items,
  c.in-Ok.ensures.read,
  subst (λ (sound : Bool). Checks c.in-Ok.bytes.items sound (g.O.Write.contents c.args.output.now) (g.O.Write.contents c.check_bytes.new.writer)) c.in-Ok-true.field-0-test
      (subst (λ (bytes : List ℕ). Checks bytes c.in-Ok-true.field-0 (g.O.Write.contents c.args.output.now) (g.O.Write.contents c.check_bytes.new.writer)) c.as_slice.ensures.value c.in-Ok-true.ensures.told),
)

pub returns-in-Ok-false : goal.returns-in-Ok-false
returns-in-Ok-false g c = (
  c.in-Ok.bytes.items,
  c.in-Ok.ensures.read,
  subst (λ (sound : Bool). Checks c.in-Ok.bytes.items sound (g.O.Write.contents c.args.output.now) (g.O.Write.contents c.check_bytes.new.writer)) c.in-Ok-false.field-0-test
      (subst (λ (bytes : List ℕ). Checks bytes c.in-Ok-false.field-0 (g.O.Write.contents c.args.output.now) (g.O.Write.contents c.check_bytes.new.writer)) c.as_slice.ensures.value c.in-Ok-false.ensures.told),
)

pub returns : goal.returns
returns g c = inr (
  c.in-Ok.bytes.items,
  c.in-Ok.ensures.read,
  subst (λ (bytes : List ℕ). EndsCheck bytes c.in-Err-check_bytes.fault (g.O.Write.contents c.args.output.now) (g.O.Write.contents c.check_bytes.new.writer)) c.as_slice.ensures.value c.in-Err-check_bytes.ensures.fault,
)
