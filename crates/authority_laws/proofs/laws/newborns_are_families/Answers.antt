use Rattle.authority_laws.proofs.Newborns.{families_end_the_same, newborns_are_families}
use Rattle.authority_laws.proofs.laws.newborns_are_families.Goals as goal

pub returns-clause-newborns : goal.returns-clause-newborns
returns-clause-newborns c = newborns_are_families

pub returns-clause-ends : goal.returns-clause-ends
returns-clause-ends c = families_end_the_same
