use Rattle.image_check.proofs.DrawLemmas.{draws_add_up, draws_stay_below}
use Rattle.image_check.proofs.laws.draws_add_up.Goals as goal

pub returns-clause-all : goal.returns-clause-all
returns-clause-all c = draws_add_up

pub returns-clause-some : goal.returns-clause-some
returns-clause-some c = draws_stay_below
