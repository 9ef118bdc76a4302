-- What a restored core has to do with an image.
use Rattle.std.specs.Prelude.{◌≡◌, ◌≢◌}
use Rattle.page_words.specs.FiniteMap as map
use Rattle.memory_image.specs.Image.{Image}
use Rattle.memory_image.specs.Machine.{IsImageOf}
use Rattle.memory_image.specs.Sound.{StandsFor}
use Rattle.process_table.specs.View.{View}

-- the image shows what the core does and represents its state, and no offer is pending
pub record IsRestored (core : View) (image : Image) : Type 0 where
  pub shows : IsImageOf core image
  pub stands : StandsFor image core.state
  pub offers : core.state.offers ≡ map.empty

-- its tables have the words of version 1
abbrev pub HasOldWords : Image → Type 0
HasOldWords image = image.version ≢ 2
