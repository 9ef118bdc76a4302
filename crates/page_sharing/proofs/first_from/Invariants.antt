use Rattle.std.proofs.Common.{take}
use Rattle.page_sharing.specs.Listed.{IsFirstFrom}
use Rattle.page_sharing.proofs.first_from.Given as goal

abbrev pub invariant-loop-offer : goal.invariant-loop-offer
invariant-loop-offer l = IsFirstFrom l.from (take l.offer-index l.offers) l.first
