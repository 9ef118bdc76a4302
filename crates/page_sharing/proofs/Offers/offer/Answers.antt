use Rattle.std.proofs.Common.{ap, sym, ◌∙◌, subst, arith}
use Rattle.std.specs.Prelude.{IsOk}
use Rattle.page_words.specs.FiniteMap as map
use Rattle.page_sharing.specs.Offers.{Offers, offer_key, offer_answer}
use Rattle.page_sharing.specs.Listed.{offers_in}
use Rattle.page_sharing.proofs.ListSteps.{may_push, kept-push, offers_in-push, few_in_all}
use Rattle.page_sharing.proofs.Offers.offer.Goals as goal

pub add_offer-requires : goal.add_offer-requires
add_offer-requires c =
    let P : Offers → Type 0 = λ view. IsOk (offer_answer view (offer_key c.args.giver c.args.page c.args.target)) in
    may_push c.self.inside.lists c.self.invariant.bounds c.args.giver (record { page = c.args.page; target = c.args.target; write = c.args.write }) (subst P (sym c.self.view_is) c.requires)

pub invariant_of-self : goal.invariant_of-self
invariant_of-self c =
    let P : Offers → Type 0 = λ view. IsOk (offer_answer view (offer_key c.args.giver c.args.page c.args.target)) in
    record {
      bounds = rw c.add_offer.ensures.list (kept-push c.self.inside.lists c.self.invariant.bounds c.args.giver (record { page = c.args.page; target = c.args.target; write = c.args.write }) (subst P (sym c.self.view_is) c.requires) c.add_offer.ensures.listed);
      counted = omega (arith, c.self.invariant.counted, c.add_offer.ensures.came);
    }

pub overflow_add-self : goal.overflow_add-self
overflow_add-self c = let few = few_in_all c.self.inside.lists c.self.invariant.bounds in omega (arith, few, c.self.invariant.counted)

pub returns : goal.returns
returns c =
    let P : Offers → Type 0 = λ view. IsOk (offer_answer view (offer_key c.args.giver c.args.page c.args.target)) in
    ap offers_in c.add_offer.ensures.list
    ∙ offers_in-push c.self.inside.lists c.self.invariant.bounds c.args.giver (record { page = c.args.page; target = c.args.target; write = c.args.write }) (subst P (sym c.self.view_is) c.requires) c.add_offer.ensures.listed
    ∙ ap (λ view. map.insert view (offer_key c.args.giver c.args.page c.args.target) c.args.write) c.self.view_is
