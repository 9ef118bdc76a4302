use Rattle.wide_image.specs.Gathered.{ListedBelow, place_of}
use Rattle.wide_image.proofs.gathering.offers_of.Given as goal

abbrev pub invariant-loop-number : goal.invariant-loop-number
invariant-loop-number l = ListedBelow l.core.state.offers (place_of l.number 0) l.offers.items
