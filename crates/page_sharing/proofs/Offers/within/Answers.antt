use Rattle.std.proofs.Common.{arith}
use Rattle.page_sharing.proofs.ListSteps.{few_pending}
use Rattle.page_sharing.proofs.Offers.within.Goals as goal

pub returns : goal.returns
returns c = grind (arith, few_pending, c.self.invariant.bounds)
