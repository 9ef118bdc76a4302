use Rattle.std.proofs.Common.{◌==◌, sym, arith}
use Rattle.page_map.proofs.PageLemmas.{count_range-zero, count_word}
use Rattle.memory_image.specs.Image.{role_at}
use Rattle.image_map.specs.Text.{letter}
use Rattle.image_map.proofs.frames.frames_with.Goals as goal

pub loop-frame-init : goal.loop-frame-init
loop-frame-init c = (sym (count_range-zero (λ f. letter (role_at c.args.image.now f) == c.args.wanted) 0), omega arith)

pub loop-frame-preserved : goal.loop-frame-preserved
loop-frame-preserved c = (
  count_word (λ f. letter (role_at c.args.image.now f) == c.args.wanted) c.loop-frame.frame c.loop-frame.count c.count_letter-count.result c.loop-frame.invariant.0 c.count_letter-count.ensures.count,
  omega (arith, c.loop-frame.invariant.1, c.count_letter-count.ensures.bound),
)
