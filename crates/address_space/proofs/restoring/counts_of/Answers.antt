use Rattle.address_space.proofs.Prelude.{◌++◌, ◌∷◌, [], sym, ap, ◌∙◌, arith, Some, counted_at, words_where, slice_get-get_or}
use Rattle.std.proofs.lemmas.List.FromFn.{map-range_with_len_more}
use Rattle.address_space.proofs.restoring.counts_of.Goals as goal

pub loop-place-preserved : goal.loop-place-preserved
loop-place-preserved c =
    c.in-Ok-push.ensures.items
    ∙ (λ i. c.loop-place.invariant i ++ (c.words_of-count.ensures ∙ sym (ap (words_where c.args.memory.now c.loop-place.place) (slice_get-get_or c.args.roles.now c.loop-place.place c.index-roles-place.result c.loop-place-test.true ∙ ap Some (sym c.index-roles-place.is)))) i ∷ [])
    ∙ sym (map-range_with_len_more (counted_at c.args.memory.now c.args.roles.now) 0 c.loop-place.place c.loop-place.place (omega arith))
