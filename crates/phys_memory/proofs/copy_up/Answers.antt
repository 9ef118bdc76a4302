use Rattle.phys_memory.proofs.Copies.{copied_up}
use Rattle.phys_memory.proofs.copy_up.Goals as goal

pub returns : goal.returns
returns c =
    rw (c.put_at.ensures, c.split_at_mut-below.ensures.front, c.split_at_mut-below.ensures.back)
    (copied_up c.args.bytes.now c.args.source c.args.target c.requires.below)
