use Rattle.std.proofs.Common.{◌+◌, ◌++◌, ◌∷◌, [], sym, ap, ◌∙◌, arith, append_assoc, refl}
use Rattle.std.proofs.lemmas.List.FromFn.{map-range_with_len_more}
use Rattle.memory_image.specs.Image.{role_at}
use Rattle.image_map.specs.Text.{letter, letters}
use Rattle.image_map.proofs.frames.push_letters.Goals as goal

pub loop-place-preserved : goal.loop-place-preserved
loop-place-preserved c =
    let image = c.args.image.now in
    let so_far = letters image c.args.first c.loop-place.place in (
      c.push.ensures.items
          ∙ (λ i. c.loop-place.invariant.0 i ++ (c.letter.ensures ∙ ap letter c.role.ensures) i ∷ [])
          ∙ append_assoc c.args.line.now.items so_far (letter (role_at image (c.args.first + c.loop-place.place)) ∷ [])
          ∙ ap (λ l. c.args.line.now.items ++ l) (sym (map-range_with_len_more (λ f. letter (role_at image f)) c.args.first c.loop-place.place (c.args.first + c.loop-place.place) refl)),
      omega (arith, c.loop-place.invariant.1, c.push.ensures.len),
    )
