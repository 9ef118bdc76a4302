use Rattle.image_check.proofs.Agreement.{sound_where_nothing_fails as law}
use Rattle.image_check.proofs.laws.sound_where_nothing_fails.Goals as goal

pub returns : goal.returns
returns c = law
