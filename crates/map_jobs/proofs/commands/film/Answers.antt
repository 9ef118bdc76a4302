use Rattle.std.proofs.Common.{ℕ, inl, inr, subst}
use Rattle.command_answers.proofs.Writers.{keeps_itself}
use Rattle.map_jobs.specs.Films.{FilmsScript}
use Rattle.map_jobs.proofs.commands.film.Goals as goal

pub returns-in-Ok : goal.returns-in-Ok
returns-in-Ok g c = inl (
  c.in-Ok.ensures.fails,
  subst (λ (frames : ℕ). FilmsScript frames c.film_script.result (g.I.Read.remaining c.args.input) (g.O.Write.contents c.args.output.now) (g.O.Write.contents c.film_script.new.output)) c.in-Ok.ensures.frames c.film_script.ensures,
)

pub returns-in-Err : goal.returns-in-Err
returns-in-Err g c = inr (c.in-Err.refused, c.in-Err.ensures.fails, c.refuse.ensures, keeps_itself (g.O.Write.contents c.args.output.now))
