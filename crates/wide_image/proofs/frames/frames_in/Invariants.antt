use Rattle.std.proofs.Common.{◌≡◌, length, None}
use Rattle.wide_image.specs.Reading.{AreRead}
use Rattle.wide_image.proofs.Loops.{frames_from}
use Rattle.wide_image.proofs.frames.frames_in.Given as goal

abbrev pub invariant-loop-number : goal.invariant-loop-number
invariant-loop-number l = record {
  read : AreRead l.bytes l.fn.frames l.fn.start l.fn.count l.number l.roles.items l.store.items;
  rest : frames_from l.bytes l.fn.frames l.fn.start l.fn.count (length l.roles.items) l.number ≡ None;
}
