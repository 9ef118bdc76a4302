use Rattle.authority_laws.proofs.Children.{children_are_their_makers, places_stay}
use Rattle.authority_laws.proofs.laws.children_are_their_makers.Goals as goal

pub returns-clause-births : goal.returns-clause-births
returns-clause-births c = children_are_their_makers

pub returns-clause-places : goal.returns-clause-places
returns-clause-places c = places_stay
