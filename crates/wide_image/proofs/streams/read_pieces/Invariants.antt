-- What was read, and then what the reader has left, is what it had.
use Rattle.std.specs.Io.KnownBytes.{Consumes}
use Rattle.wide_image.specs.Pieces.{so_far, left}
use Rattle.wide_image.proofs.streams.read_pieces.Given as goal

abbrev pub invariant-loop-image : goal.invariant-loop-image
invariant-loop-image g l = Consumes (g.R.Read.remaining l.fn.reader) (g.R.Read.remaining l.reader) (so_far l.image)

abbrev pub decreases-loop-image : goal.decreases-loop-image
decreases-loop-image g l = left l.image
