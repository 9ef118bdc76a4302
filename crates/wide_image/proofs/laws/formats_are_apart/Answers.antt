use Rattle.wide_image.proofs.Apart.{formats_apart as law}
use Rattle.wide_image.proofs.laws.formats_are_apart.Goals as goal

pub returns : goal.returns
returns c = law
