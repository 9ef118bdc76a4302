use Rattle.wide_image.proofs.Refusing.{for_want}
use Rattle.wide_image.proofs.streams.read_wide_image_from.Goals as goal

pub returns-clause-read : goal.returns-clause-read
returns-clause-read g c = λ image H is. for_want _ _ c.read_pieces.ensures.refused image H is
