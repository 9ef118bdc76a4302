use Rattle.std.proofs.Common.{◌++◌, ◌∷◌, [], sym, ◌∙◌, arith}
use Rattle.std.proofs.lemmas.List.FromFn.{map-range_with_len_more}
use Rattle.wide_image.specs.Reading.{offer_in}
use Rattle.wide_image.proofs.reading.offers_in.Goals as goal

pub loop-number-preserved : goal.loop-number-preserved
loop-number-preserved c =
    c.in-Ok-push.ensures.items
    ∙ (λ i. c.loop-number.invariant i ++ c.offer_at-offer.ensures i ∷ [])
    ∙ sym (map-range_with_len_more (offer_in c.args.bytes.now) 0 c.loop-number.number c.loop-number.number (omega arith))
