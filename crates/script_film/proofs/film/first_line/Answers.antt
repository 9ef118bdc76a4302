use Rattle.script_film.proofs.FilmLemmas.{first_of, one_line}
use Rattle.script_film.proofs.film.first_line.Goals as goal

pub returns-in-Some-clause-lines : goal.returns-in-Some-clause-lines
returns-in-Some-clause-lines c = first_of c.args.bytes.now c.in-Some.line.now c.in-Some.after.now c.in-Some.ensures.0 c.in-Some.ensures.1

pub returns-in-None-clause-lines : goal.returns-in-None-clause-lines
returns-in-None-clause-lines c = one_line c.args.bytes.now c.in-None.ensures
