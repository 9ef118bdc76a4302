use Rattle.std.proofs.Common.{arith}
use Rattle.integrity_checker.proofs.Drawing.{cuts}
use Rattle.integrity_checker.proofs.audit.cut.Goals as goal

pub split_seat-requires : goal.split_seat-requires
split_seat-requires g c = (c.requires.own, omega (arith, c.requires.words), cuts _ _ _ _ _ c.requires.idle c.requires.left c.requires.right c.requires.shares)
