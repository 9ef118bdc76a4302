use Rattle.authority_laws.proofs.Gone.{exits_end, unmaps_end, offers_end}
use Rattle.authority_laws.proofs.GivenUp.{offers_stay}
use Rattle.authority_laws.proofs.laws.what_is_given_up_goes.Goals as goal

pub returns-clause-exits : goal.returns-clause-exits
returns-clause-exits c = exits_end

pub returns-clause-unmaps : goal.returns-clause-unmaps
returns-clause-unmaps c = unmaps_end

pub returns-clause-offers : goal.returns-clause-offers
returns-clause-offers c = offers_end

pub returns-clause-stays : goal.returns-clause-stays
returns-clause-stays c = offers_stay
