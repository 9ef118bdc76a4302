use Rattle.authority_laws.proofs.Hearing.{members_hear_the_same}
use Rattle.authority_laws.proofs.Outsiders.{outsiders_unseen}
use Rattle.authority_laws.proofs.SeenTogether.{members_see_the_same}
use Rattle.authority_laws.proofs.laws.members_see_their_own.Goals as goal

pub returns-clause-sees : goal.returns-clause-sees
returns-clause-sees c = members_see_the_same

pub returns-clause-unseen : goal.returns-clause-unseen
returns-clause-unseen c = outsiders_unseen

pub returns-clause-runs : goal.returns-clause-runs
returns-clause-runs c = members_hear_the_same
