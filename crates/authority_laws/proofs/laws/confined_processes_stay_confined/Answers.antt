use Rattle.authority_laws.proofs.Confined.{runs_keep_borders}
use Rattle.authority_laws.proofs.Discreet.{outsiders_hear_nothing}
use Rattle.authority_laws.proofs.Hearing.{families_hear_their_own}
use Rattle.authority_laws.proofs.laws.confined_processes_stay_confined.Goals as goal

pub returns-clause-borders : goal.returns-clause-borders
returns-clause-borders c = runs_keep_borders

pub returns-clause-unheard : goal.returns-clause-unheard
returns-clause-unheard c = outsiders_hear_nothing

pub returns-clause-unreached : goal.returns-clause-unreached
returns-clause-unreached c = families_hear_their_own
