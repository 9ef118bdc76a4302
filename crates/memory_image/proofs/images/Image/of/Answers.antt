use Rattle.memory_image.proofs.MachineLemmas.{images_stand}
use Rattle.memory_image.proofs.images.Image.of.Goals as goal

pub returns-in-Some-clause-stands : goal.returns-in-Some-clause-stands
returns-in-Some-clause-stands c = images_stand c.args.core.now c.in-Some.image c.in-Some.ensures c.stands.ensures.image
