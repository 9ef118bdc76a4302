use Rattle.std.proofs.Common.{arith}
use Rattle.page_sharing.proofs.ListSteps.{right_in, get-offers_in}
use Rattle.page_sharing.proofs.Offers.get.Goals as goal

pub returns : goal.returns
returns c = grind (arith, right_in, get-offers_in, c.right_of.ensures, c.list_by.ensures)
