use Rattle.quota_tree.proofs.Prelude
use Prelude.{ap, ◌∙◌, number_of_children, arith}
use Rattle.quota_tree.proofs.Closes.{giver_gave, giver_has_children, quotas-close, seen_as-close}
use Rattle.quota_tree.proofs.Views.{is_some-live, within_places}
use Rattle.page_words.specs.FiniteMap as map
use Rattle.quota_tree.proofs.Quotas.close.Goals as goal

pub live-closed-requires : goal.live-closed-requires
live-closed-requires c = is_some-live c.self.inside.containers c.args.pid (ap (λ view. map.contains_key view.book c.args.pid) c.self.view_is ∙ c.requires.live)

pub live-giver-requires : goal.live-giver-requires
live-giver-requires c =
    let at = c.live-closed.ensures.container in
    is_some-live c.self.inside.containers c.live-closed.result.parent (c.self.invariant.each c.args.pid c.live-closed.result at).parent

pub without_child-giver-requires-clause-given : goal.without_child-giver-requires-clause-given
without_child-giver-requires-clause-given c = grind (arith, giver_gave, within_places)

pub without_child-giver-requires-clause-children : goal.without_child-giver-requires-clause-children
without_child-giver-requires-clause-children c = grind (arith, giver_has_children, within_places)

pub invariant_of-self : goal.invariant_of-self
invariant_of-self c =
    let cs = c.self.inside.containers in
    let at = c.live-closed.ensures.container in
    let giver = c.live-giver.ensures.container in
    let childless = ap (λ view. number_of_children view.book c.args.pid) c.self.view_is ∙ c.requires.childless in
    rw (c.put-2.ensures, c.put.ensures, c.without_child-giver.ensures)
    (quotas-close cs c.self.invariant c.args.pid (within_places cs c.self.invariant c.args.pid c.live-closed.result at) c.live-closed.result at c.requires.not_root childless
    c.live-giver.result giver (within_places cs c.self.invariant c.live-closed.result.parent c.live-giver.result giver))

pub returns : goal.returns
returns c = grind (arith, seen_as-close, within_places)
