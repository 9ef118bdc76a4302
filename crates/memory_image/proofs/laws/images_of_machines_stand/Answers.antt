use Rattle.memory_image.proofs.MachineLemmas.{images_stand as law}
use Rattle.memory_image.proofs.laws.images_of_machines_stand.Goals as goal

pub returns : goal.returns
returns c = law
