-- The image of a core, in bytes.
use Rattle.std.specs.Prelude.{ℕ, ◌+◌, ◌*◌, List, length}
use Rattle.process_table.specs.View.{View}
use Rattle.memory_image.specs.Image.{Image}
use Rattle.memory_image.specs.Machine.{IsImageOf}
use Rattle.memory_image.specs.Sound.{IsSound}
use Rattle.memory_image.specs.Spelling.{Spells}

-- how many bytes the image of a core has
abbrev pub image_length : View → ℕ
image_length core = 1548 + 4112 * length core.roles

-- these bytes encode the image that shows what the core does
pub record SpellsCore (core : View) (bytes : List ℕ) : Type 0 where
  pub image : Image
  pub shows : IsImageOf core image
  pub spelled : Spells bytes image

-- the image that shows what the core does is sound
pub record HasSoundImage (core : View) : Type 0 where
  pub image : Image
  pub shows : IsImageOf core image
  pub sound : IsSound image
