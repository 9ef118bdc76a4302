use Rattle.std.proofs.Common.{arith}
use Rattle.page_sharing.proofs.ListSteps.{offers_in-none, all_pending-none}
use Rattle.page_sharing.proofs.Offers.new.Goals as goal

pub invariant_of-result : goal.invariant_of-result
invariant_of-result c = grind (arith, all_pending-none, c.no_offers.ensures.offers)

pub returns : goal.returns
returns c = offers_in-none c.no_offers.result c.no_offers.ensures.offers
