use Rattle.std.proofs.Common.{◌≡◌}
use Rattle.wide_image.specs.Faults.{bad_offer}
use Rattle.wide_image.proofs.Loops.{offers_from}
use Rattle.wide_image.proofs.fields.bad_in_offers.Given as goal

abbrev pub invariant-loop-number : goal.invariant-loop-number
invariant-loop-number l = bad_offer l.bytes 0 1556 l.fn.count ≡ offers_from l.bytes l.fn.count l.from l.number
