use Rattle.std.proofs.Common.{sym, subst}
use Rattle.memory_image.specs.Image.{Image, IsWideImage}
use Rattle.memory_image.specs.Machine.{IsImageOf}
use Rattle.memory_image.specs.Sound.{IsSound, StandsFor}
use Rattle.wide_image.proofs.images.WideImage.into_core.Goals as goal

pub core_of-requires-clause-fields : goal.core_of-requires-clause-fields
core_of-requires-clause-fields c = subst IsWideImage (sym c.into_parts-processes.ensures.image) c.into_parts-processes.ensures.whole.fields.image

pub core_of-requires-clause-sound : goal.core_of-requires-clause-sound
core_of-requires-clause-sound c = subst IsSound (sym c.into_parts-processes.ensures.image) c.requires.sound

pub returns-in-Ok-clause-shows : goal.returns-in-Ok-clause-shows
returns-in-Ok-clause-shows c = subst (λ (image : Image). IsImageOf c.in-Ok.core image) c.into_parts-processes.ensures.image c.in-Ok.ensures.shows

pub returns-in-Ok-clause-stands : goal.returns-in-Ok-clause-stands
returns-in-Ok-clause-stands c = subst (λ (image : Image). StandsFor image c.in-Ok.core.state) c.into_parts-processes.ensures.image c.in-Ok.ensures.stands
