use Rattle.wide_image.proofs.InUse.{free_frames as law}
use Rattle.wide_image.proofs.laws.free_frames_do_not_matter.Goals as goal

pub returns : goal.returns
returns c = law
