use Rattle.std.proofs.Common.{ℕ, Bool, List, inl, inr, subst}
use Rattle.command_answers.proofs.Writers.{keeps_itself}
use Rattle.map_jobs.specs.Drawings.{Draws, EndsDrawing}
use Rattle.map_jobs.proofs.commands.draw_plain.Goals as goal

pub returns-in-Err : goal.returns-in-Err
returns-in-Err g c = inl (c.in-Err.ensures.fault, keeps_itself (g.O.Write.contents c.args.output.now))

pub returns-in-Ok-true : goal.returns-in-Ok-true
returns-in-Ok-true g c = (
  c.in-Ok.bytes.items,
  c.in-Ok.ensures.read,
  subst (λ (sound : Bool). Draws c.args.form c.in-Ok.bytes.items sound (g.O.Write.contents c.args.output.now) (g.O.Write.contents c.draw_bytes.new.writer)) c.in-Ok-true.field-0-test
      (subst (λ (bytes : List ℕ). Draws c.args.form bytes c.in-Ok-true.field-0 (g.O.Write.contents c.args.output.now) (g.O.Write.contents c.draw_bytes.new.writer)) c.as_slice.ensures.value c.in-Ok-true.ensures.drawn),
)

pub returns-in-Ok-false : goal.returns-in-Ok-false
returns-in-Ok-false g c = (
  c.in-Ok.bytes.items,
  c.in-Ok.ensures.read,
  subst (λ (sound : Bool). Draws c.args.form c.in-Ok.bytes.items sound (g.O.Write.contents c.args.output.now) (g.O.Write.contents c.draw_bytes.new.writer)) c.in-Ok-false.field-0-test
      (subst (λ (bytes : List ℕ). Draws c.args.form bytes c.in-Ok-false.field-0 (g.O.Write.contents c.args.output.now) (g.O.Write.contents c.draw_bytes.new.writer)) c.as_slice.ensures.value c.in-Ok-false.ensures.drawn),
)

pub returns : goal.returns
returns g c = inr (
  c.in-Ok.bytes.items,
  c.in-Ok.ensures.read,
  subst (λ (bytes : List ℕ). EndsDrawing c.args.form bytes c.in-Err-draw_bytes.fault (g.O.Write.contents c.args.output.now) (g.O.Write.contents c.draw_bytes.new.writer)) c.as_slice.ensures.value c.in-Err-draw_bytes.ensures.fault,
)
