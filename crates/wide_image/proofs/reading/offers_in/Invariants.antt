use Rattle.std.proofs.Common.{◌≡◌, map}
use Rattle.std.specs.List.{range_with_len}
use Rattle.wide_image.specs.Reading.{offer_in}
use Rattle.wide_image.proofs.reading.offers_in.Given as goal

abbrev pub invariant-loop-number : goal.invariant-loop-number
invariant-loop-number l = l.offers.items ≡ map (offer_in l.bytes) (range_with_len 0 l.number)
