use Rattle.std.proofs.Common.{ℕ, List, inl, inr, refl, subst}
use Rattle.command_answers.proofs.Writers.{keeps_itself}
use Rattle.map_jobs.specs.Films.{WritesFilm, EndsFilm}
use Rattle.map_jobs.proofs.films.film_script.Goals as goal

pub returns-in-Err : goal.returns-in-Err
returns-in-Err g c = inr (c.in-Err.fault, refl, inl (c.in-Err.ensures.fault, keeps_itself (g.O.Write.contents c.args.output.now)))

pub returns-in-Ok-write_film : goal.returns-in-Ok-write_film
returns-in-Ok-write_film g c = inl (
  c.in-Ok.script.items,
  c.in-Ok.ensures.read,
  (
    c.in-Ok-write_film.end,
    c.answer_of_end.ensures,
    subst (λ (script : List ℕ). WritesFilm c.args.frames script c.in-Ok-write_film.end (g.O.Write.contents c.args.output.now) (g.O.Write.contents c.write_film.new.output)) c.as_slice.ensures.value c.in-Ok-write_film.ensures.film,
  ),
)

pub returns : goal.returns
returns g c = inr (
  c.in-Err-write_film.fault,
  refl,
  inr (
    c.in-Ok.script.items,
    c.in-Ok.ensures.read,
    subst (λ (script : List ℕ). EndsFilm c.args.frames script c.in-Err-write_film.fault (g.O.Write.contents c.args.output.now) (g.O.Write.contents c.write_film.new.output)) c.as_slice.ensures.value c.in-Err-write_film.ensures.fault,
  ),
)
