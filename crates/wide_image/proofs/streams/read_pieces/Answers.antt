use Rattle.std.proofs.Common.{arith}
use Rattle.wide_image.proofs.Naming.{named_from, more_named}
use Rattle.wide_image.proofs.Refusing.{refused_from, end_refused}
use Rattle.wide_image.proofs.streams.read_pieces.Goals as goal

pub returns-in-Err-end-clause-refused : goal.returns-in-Err-end-clause-refused
returns-in-Err-end-clause-refused g c =
    refused_from _ _ _ c.in-Err-end.fault c.loop-image.invariant
    (end_refused c.loop-image.image c.within.ensures _ c.in-Err-end.fault (omega (arith, c.wants.ensures.wanted, c.loop-image-test.false)) c.in-Err-end.ensures.more)

pub returns-in-Err-end-clause-named : goal.returns-in-Err-end-clause-named
returns-in-Err-end-clause-named g c =
    named_from _ _ _ c.in-Err-end.fault c.loop-image.invariant
    (more_named c.loop-image.image c.within.ensures _ c.in-Err-end.fault (omega (arith, c.wants.ensures.wanted, c.loop-image-test.false)) c.in-Err-end.ensures.more c.in-Err-end.ensures.fault)

pub returns-in-Err-take_piece-clause-named : goal.returns-in-Err-take_piece-clause-named
returns-in-Err-take_piece-clause-named g c = named_from _ _ _ c.in-Err-take_piece.fault c.loop-image.invariant c.in-Err-take_piece.ensures.named
