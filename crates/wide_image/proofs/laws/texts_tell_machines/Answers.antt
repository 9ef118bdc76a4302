use Rattle.wide_image.proofs.Told.{texts_tell as law}
use Rattle.wide_image.proofs.laws.texts_tell_machines.Goals as goal

pub returns : goal.returns
returns c = law
