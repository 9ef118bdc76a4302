use Rattle.wide_image.proofs.WrittenWhole.{pieces_make}
use Rattle.wide_image.proofs.laws.pieces_make_images.Goals as goal

pub returns : goal.returns
returns c = pieces_make
