-- An image is sound exactly where no clause fails.
use Rattle.image_check.specs.Verdict.{SoundWhereNothingFails}
use Rattle.image_check.proofs.Backward.{sound}
use Rattle.image_check.proofs.Forward.{nothing_fails}

pub sound_where_nothing_fails : SoundWhereNothingFails
sound_where_nothing_fails image I = (nothing_fails image I, sound image I)
