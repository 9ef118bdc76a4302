use Rattle.std.proofs.Common.{◌<◌, subst}
use Rattle.std.specs.Prelude.{IfSome, slice_index_or}
use Rattle.memory_image.specs.Image.{Image, frames}
use Rattle.memory_image.proofs.ImageReads.{directory_inside}
use Rattle.memory_image.proofs.by_reference.ImageRef.process.Goals as goal

pub returns-clause-inside : goal.returns-clause-inside
returns-clause-inside c =
    subst (λ (v : Image). IfSome (slice_index_or c.self.inside.processes.now c.number.result c.index-self-number.result) (λ r. r.directory < frames v)) c.self.view_is
    (directory_inside 1048576 _ c.self.invariant c.number.result c.index-self-number.result c.number.ensures.bound)
