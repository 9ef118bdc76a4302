use Rattle.process_table.proofs.ImageStanding.{stands_for_one_state}
use Rattle.memory_image.specs.Sound.{shown_by}
use Rattle.memory_image.proofs.laws.images_stand_for_one.Goals as goal

pub returns : goal.returns
returns c = λ image. stands_for_one_state (shown_by image)
