use Rattle.std.proofs.Common.{◌+◌, sym, ◌∙◌, arith}
use Rattle.wide_image.proofs.FrameTexts.{stored_next}
use Rattle.wide_image.proofs.writing.count_stored.Goals as goal

pub loop-place-preserved : goal.loop-place-preserved
loop-place-preserved c = record {
  is = (λ i. c.loop-place.invariant.is i + c.stored_for-count.ensures.is i) ∙ sym (stored_next c.args.roles.now c.loop-place.place c.index-roles-place.result (omega arith) c.index-roles-place.is);
  most = omega (arith, c.loop-place.invariant.most, c.stored_for-count.ensures.most);
}
