use Rattle.std.proofs.Common.{◌++◌, ◌∷◌, [], sym, ◌∙◌, arith}
use Rattle.std.proofs.lemmas.List.FromFn.{map-range_with_len_more}
use Rattle.memory_image.specs.Reading.{role_in}
use Rattle.memory_image.proofs.reading.roles_in.Goals as goal

pub loop-frame-preserved : goal.loop-frame-preserved
loop-frame-preserved c =
    c.in-Ok-push.ensures.items
    ∙ (λ i. c.loop-frame.invariant i ++ c.role_in.ensures i ∷ [])
    ∙ sym (map-range_with_len_more (role_in c.args.bytes.now) 0 c.loop-frame.frame c.loop-frame.frame (omega arith))
