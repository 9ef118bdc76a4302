-- What contracts see of an audit and of its helpers.
use Rattle.std.specs.Prelude.{ℕ, Bool, List}
use Rattle.atomic_table.specs.Seated.{TableId}
use Rattle.memory_image.specs.Image.{Image}

-- an audit: the table from which its helpers draw, how many they are, and the image
pub record Audited : Type 0 where
  pub table : TableId
  pub helpers : ℕ
  pub image : Image

-- a helper: the table from which it draws, the image, the numbers that it has answered, and whether it has answered that
-- none is left
pub record Helping : Type 0 where
  pub table : TableId
  pub image : Image
  pub answered : List ℕ
  pub done : Bool
