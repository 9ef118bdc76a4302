use Rattle.wide_image.proofs.Told.{machines_are_read as law}
use Rattle.wide_image.proofs.laws.machines_are_read.Goals as goal

pub returns : goal.returns
returns c = law
