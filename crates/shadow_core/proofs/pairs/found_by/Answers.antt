use Rattle.std.proofs.Common.{◌≡◌, Ok, sym, arith}
use Rattle.table_walk.specs.Walk.{walk_of}
use Rattle.shadow_core.proofs.Pairing.{frame_inside}
use Rattle.shadow_core.proofs.pairs.found_by.Goals as goal

pub prove-unreachable-requires : goal.prove-unreachable-requires
prove-unreachable-requires c =
    let walk : walk_of c.memory-memory.result.now c.in_ok-directory.directory c.args.address c.args.access ≡ Ok c.in-Ok.frame = sym c.in-Ok.ensures in
    let inside = frame_inside c.memory-memory.result.now c.in_ok-directory.directory c.args.address c.in-Ok.frame c.args.access walk in
    absurd (omega (arith, inside, c.frames-frames.ensures.length, c.if-prove.true, c.frame.view_is))
