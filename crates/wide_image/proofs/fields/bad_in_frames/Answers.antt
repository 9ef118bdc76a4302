use Rattle.std.proofs.Common.{◌+◌, sym, ap, ◌∙◌, arith}
use Rattle.std.specs.Prelude.{is_some}
use Rattle.wide_image.specs.Faults.{bad_frame}
use Rattle.wide_image.proofs.Loops.{frames_from, frames_begin, frames_go_on, frames_stop, frames_end}
use Rattle.wide_image.proofs.fields.bad_in_frames.Goals as goal

pub loop-number-init : goal.loop-number-init
loop-number-init c = frames_begin c.args.bytes.now c.args.frames c.args.start c.args.count

pub loop-number-preserved : goal.loop-number-preserved
loop-number-preserved c =
    frames_go_on c.args.bytes.now c.args.frames c.args.start c.args.count (bad_frame c.args.bytes.now c.args.frames 0 c.args.start c.args.count) c.loop-number.from c.loop-number.number (omega arith) c.loop-number.invariant (sym (c.is_some.ensures ∙ ap is_some c.bad_in_frame-bad.ensures) ∙ c.if-is_some.false)
    ∙ ap (λ k. frames_from c.args.bytes.now c.args.frames c.args.start c.args.count k (c.loop-number.number + 1)) (sym c.frame_after-from.ensures)

pub returns-then-is_some : goal.returns-then-is_some
returns-then-is_some c =
    frames_stop c.args.bytes.now c.args.frames c.args.start c.args.count (bad_frame c.args.bytes.now c.args.frames 0 c.args.start c.args.count) c.bad_in_frame-bad.result c.loop-number.from c.loop-number.number (omega arith) c.loop-number.invariant c.bad_in_frame-bad.ensures (sym c.is_some.ensures ∙ c.if-is_some.true)

pub returns : goal.returns
returns c = frames_end c.args.bytes.now c.args.frames c.args.start c.args.count (bad_frame c.args.bytes.now c.args.frames 0 c.args.start c.args.count) c.loop-number.from c.loop-number.number (omega arith) c.loop-number.invariant
