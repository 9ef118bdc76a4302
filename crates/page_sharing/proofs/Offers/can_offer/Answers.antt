use Rattle.std.proofs.Common.{nat_le, arith}
use Rattle.page_sharing.proofs.ListSteps.{len-pending}
use Rattle.page_sharing.proofs.Offers.can_offer.Goals as goal

pub returns-then-list_by-ge-MOST_PENDING : goal.returns-then-list_by-ge-MOST_PENDING
returns-then-list_by-ge-MOST_PENDING c =
    grind (arith, len-pending, nat_le, c.self.invariant.bounds, c.list_by.ensures, c.if-list_by-ge-MOST_PENDING.true)

pub returns : goal.returns
returns c = grind (arith, len-pending, nat_le, c.self.invariant.bounds, c.list_by.ensures, c.if-list_by-ge-MOST_PENDING.false)
