use Rattle.std.proofs.Common.{filter, not, ◌==◌, ap, ◌∙◌, arith}
use Rattle.page_sharing.specs.Offers.{without_process}
use Rattle.page_sharing.specs.Listed.{offers_by}
use Rattle.page_sharing.proofs.ListSteps.{kept-clear, kept-remove_target, offers_in-remove_process, offers_in-no_process}
use Rattle.page_sharing.proofs.Offers.drop_process.Goals as goal

pub returns-then-self-eq0 : goal.returns-then-self-eq0
returns-then-self-eq0 c = grind (arith, offers_in-no_process, c.self.invariant.counted, c.if-self-eq0.true)

pub remove_all_to-requires : goal.remove_all_to-requires
remove_all_to-requires c = omega (arith, c.self.invariant.counted, c.remove_all_by.ensures.gone)

pub invariant_of-self : goal.invariant_of-self
invariant_of-self c = record {
  bounds =
      kept-remove_target c.remove_all_by.new.lists c.remove_all_to.new.lists c.args.pid c.remove_all_to.ensures.offers c.remove_all_to.ensures.places
      (rw c.remove_all_by.ensures.list (kept-clear c.self.inside.lists c.args.pid c.remove_all_by.ensures.listed c.self.invariant.bounds));
  counted = omega (arith, c.self.invariant.counted, c.remove_all_by.ensures.gone, c.remove_all_to.ensures.gone);
}

pub returns : goal.returns
returns c =
    offers_in-remove_process c.self.inside.lists c.remove_all_to.new.lists c.args.pid c.remove_all_by.ensures.listed
    (λ q. c.remove_all_to.ensures.offers q ∙ ap (λ lists. filter (λ offer. not (offer.target == c.args.pid)) (offers_by lists q)) c.remove_all_by.ensures.list)
    ∙ ap (λ view. without_process view c.args.pid) c.self.view_is
