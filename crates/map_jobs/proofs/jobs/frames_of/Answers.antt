use Rattle.std.proofs.Common.{map, ap, sym, ◌∙◌}
use Rattle.clap.specs.Words.{App, fault_of, is_simple_and_free}
use Rattle.map_jobs.proofs.FilmLemmas.{film_is_free}
use Rattle.map_jobs.proofs.jobs.frames_of.Goals as goal

pub returns-clause-fails : goal.returns-clause-fails
returns-clause-fails g c =
    let words = map g.S.AsStr.text c.args.words.now in
    let app = c.in_ok-film_command.ensures.app in
    sym (ap (λ (a : App). fault_of a words) app) ∙ c.in_ok-matches.ensures.kinds (ap is_simple_and_free app ∙ film_is_free)
