use Rattle.std.proofs.Common.{◌≡◌}
use Rattle.wide_image.specs.Faults.{bad_frame}
use Rattle.wide_image.proofs.Loops.{frames_from}
use Rattle.wide_image.proofs.fields.bad_in_frames.Given as goal

abbrev pub invariant-loop-number : goal.invariant-loop-number
invariant-loop-number l = bad_frame l.bytes l.fn.frames 0 l.fn.start l.fn.count ≡ frames_from l.bytes l.fn.frames l.fn.start l.fn.count l.from l.number
