use Rattle.std.proofs.Common.{ap, ◌∙◌, arith}
use Rattle.page_sharing.specs.Offers.{without_page}
use Rattle.page_sharing.specs.Listed.{offers_in}
use Rattle.page_sharing.proofs.ListSteps.{kept-remove_page, offers_in-no_page, offers_in-remove_page}
use Rattle.page_sharing.proofs.Offers.drop_page.Goals as goal

pub returns-then-self-eq0 : goal.returns-then-self-eq0
returns-then-self-eq0 c = grind (arith, offers_in-no_page, c.self.invariant.counted, c.if-self-eq0.true)

pub invariant_of-self : goal.invariant_of-self
invariant_of-self c = record {
  bounds = rw c.remove_page.ensures.list (kept-remove_page c.self.inside.lists c.args.pid c.remove_page.ensures.listed c.args.page c.self.invariant.bounds);
  counted = omega (arith, c.self.invariant.counted, c.remove_page.ensures.gone);
}

pub returns : goal.returns
returns c =
    ap offers_in c.remove_page.ensures.list
    ∙ offers_in-remove_page c.self.inside.lists c.args.pid c.remove_page.ensures.listed c.args.page
    ∙ ap (λ view. without_page view c.args.pid c.args.page) c.self.view_is
