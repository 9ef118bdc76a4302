use Rattle.phys_memory.proofs.Copies.{copied_down}
use Rattle.phys_memory.proofs.copy_down.Goals as goal

pub returns : goal.returns
returns c =
    rw (c.put_at.ensures, c.split_at_mut-below.ensures.front, c.split_at_mut-below.ensures.back)
    (copied_down c.args.bytes.now c.args.source c.args.target c.requires.below c.requires.within)
