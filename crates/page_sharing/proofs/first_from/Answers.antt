use Rattle.std.proofs.Common.{◌≡◌, ◌+◌, ◌++◌, ◌∷◌, [], List, Some, ap, sym, subst, take, ◌∙◌, arith}
use Rattle.std.specs.Prelude.{if◌then◌else◌}
use Rattle.std.proofs.lemmas.List.{take_more}
use Rattle.page_sharing.specs.declared.Offer.{Offer}
use Rattle.page_sharing.specs.Listed.{IsFirstFrom}
use Rattle.page_sharing.proofs.first_from.Goals as goal
use Rattle.page_sharing.proofs.first_from.Goals.{then-comes_first, else-comes_first}

-- the list with one offer more
more : (c : goal.Joined-comes_first) → take (c.loop-offer.offer-index + 1) c.args.offers.now ≡ take c.loop-offer.offer-index c.args.offers.now ++ c.offer-item.result ∷ []
more c = grind (arith, take_more, c.loop-offer-test.true, c.offer-item.is)

pub loop-offer-preserved : goal.loop-offer-preserved
loop-offer-preserved c =
    let xs = take c.loop-offer.offer-index c.args.offers.now ++ c.offer-item.result ∷ [] in
    let step = c.comes_first.ensures (take c.loop-offer.offer-index c.args.offers.now) c.loop-offer.invariant in
    let found = Some c.offer-item.result in
    let before = c.loop-offer.first in
    subst (λ (xs : List Offer). IsFirstFrom c.args.from xs c.if-comes_first.first) (sym (more c)) (elim c.if-comes_first.branch [
      | then-comes_first w ↦ subst (IsFirstFrom c.args.from xs) (ap (λ b. if b then found else before) w.if-comes_first.true ∙ sym w.first-is) step
      | else-comes_first w ↦ subst (IsFirstFrom c.args.from xs) (ap (λ b. if b then found else before) w.if-comes_first.false ∙ sym w.first-is) step
    ])
