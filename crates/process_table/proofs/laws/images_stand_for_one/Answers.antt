use Rattle.process_table.proofs.ImageStanding.{stands_for_one_state}
use Rattle.process_table.proofs.laws.images_stand_for_one.Goals as goal

pub returns : goal.returns
returns c = stands_for_one_state
