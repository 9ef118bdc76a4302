use Rattle.address_space.proofs.standing.Standing.{stands_for_one}
use Rattle.address_space.proofs.images_stand_for_one.Goals as goal

pub returns : goal.returns
returns c = stands_for_one
