use Rattle.std.proofs.Common.{◌∙◌, Bool, map, subst, sym}
use Rattle.command_answers.specs.Files.{IsOf}
use Rattle.map_jobs.specs.Films.{AnswersBy}
use Rattle.map_jobs.proofs.commands.answer.Goals as goal

pub returns-then-asks_film : goal.returns-then-asks_film
returns-then-asks_film g c =
    let words = map g.S.AsStr.text c.args.words.now in
    subst (λ (asks : Bool). AnswersBy (IsOf g.R.Opened.Read.remaining g.R.Opens.named) asks words c.film.result (g.I.Read.remaining c.args.input) (g.O.Write.contents c.args.output.now) (g.O.Write.contents c.film.new.output)) (sym (sym c.asks_film.ensures ∙ c.if-asks_film.true)) c.film.ensures
