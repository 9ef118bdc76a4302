use Rattle.address_space.proofs.standing.FramesStand.{loose_then, stays_then}
use Rattle.address_space.proofs.Spaces.drop_charged_space.Goals as goal

pub returns-clause-stay : goal.returns-clause-stay
returns-clause-stay c = stays_then c.drop_pages.ensures.stay c.drop_directory.ensures.stay

pub returns-clause-loose : goal.returns-clause-loose
returns-clause-loose c = loose_then c.drop_pages.ensures.loose c.drop_directory.ensures.loose
