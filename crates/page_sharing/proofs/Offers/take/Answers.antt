use Rattle.std.proofs.Common.{◌≡◌, Some, ap, sym, ◌∙◌, arith, subst}
use Rattle.std.specs.Prelude.{position}
use Rattle.std.specs.Option.{option_map}
use Rattle.page_words.specs.FiniteMap as map
use Rattle.page_sharing.specs.declared.Offer.{Offer}
use Rattle.page_sharing.specs.Offers.{offer_key}
use Rattle.page_sharing.specs.Listed.{is_of, offers_by, with_list, offers_in, IsOffers}
use Rattle.page_sharing.proofs.ListSteps.{get-offers_in, none_at, found_at, removed_at, kept-remove, offers_in-remove}
use Rattle.page_sharing.proofs.Offers.take.Goals as goal

pub returns-in_default-clause-absent : goal.returns-in_default-clause-absent
returns-in_default-clause-absent c =
    grind (arith, get-offers_in, none_at, c.list_by.ensures, c.place_of.ensures, c.in_default.is)

pub invariant_of-self : goal.invariant_of-self
invariant_of-self c =
    let lists = c.self.inside.lists in
    let at : position (is_of c.args.page c.args.target) (offers_by lists c.args.giver) ≡ Some c.in-Some.place = ap (position (is_of c.args.page c.args.target)) (sym c.list_by.ensures) ∙ sym c.place_of.ensures ∙ c.in-Some.is in
    let left = c.remove_at.ensures.list ∙ ap (with_list lists c.args.giver) (removed_at c.args.page c.args.target (offers_by lists c.args.giver) c.in-Some.place at (c.self.invariant.bounds.distinct c.args.giver)) in
    record {
      bounds = subst IsOffers (sym left) (kept-remove lists c.args.giver c.remove_at.ensures.listed c.args.page c.args.target c.self.invariant.bounds);
      counted = omega (arith, c.self.invariant.counted, c.remove_at.ensures.gone);
    }

pub returns-clause-right : goal.returns-clause-right
returns-clause-right c =
    let lists = c.self.inside.lists in
    let key = offer_key c.args.giver c.args.page c.args.target in
    let at : position (is_of c.args.page c.args.target) (offers_by lists c.args.giver) ≡ Some c.in-Some.place = ap (position (is_of c.args.page c.args.target)) (sym c.list_by.ensures) ∙ sym c.place_of.ensures ∙ c.in-Some.is in
    ap (λ view. map.get view key) (sym c.self.view_is)
    ∙ get-offers_in lists key
    ∙ ap (option_map (λ (o : Offer). o.write)) (found_at c.args.page c.args.target (offers_by lists c.args.giver) c.in-Some.place at)
    ∙ c.remove_at.ensures.right

pub returns-clause-taken : goal.returns-clause-taken
returns-clause-taken c =
    let lists = c.self.inside.lists in
    let at : position (is_of c.args.page c.args.target) (offers_by lists c.args.giver) ≡ Some c.in-Some.place = ap (position (is_of c.args.page c.args.target)) (sym c.list_by.ensures) ∙ sym c.place_of.ensures ∙ c.in-Some.is in
    let left = c.remove_at.ensures.list ∙ ap (with_list lists c.args.giver) (removed_at c.args.page c.args.target (offers_by lists c.args.giver) c.in-Some.place at (c.self.invariant.bounds.distinct c.args.giver)) in
    ap offers_in left
    ∙ offers_in-remove lists c.args.giver c.remove_at.ensures.listed c.args.page c.args.target
    ∙ ap (λ view. map.remove view (offer_key c.args.giver c.args.page c.args.target)) c.self.view_is

pub returns-clause-absent : goal.returns-clause-absent
returns-clause-absent c = grind (arith, returns-clause-right)
