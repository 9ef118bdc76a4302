use Rattle.quota_tree.proofs.Prelude
use Prelude.{ap, ◌∙◌, arith, split_answer}
use Rattle.quota_tree.proofs.Splits.{can, place_there, giver_room, giver_children, quotas-child, seen_as-child, with_used-split}
use Rattle.quota_tree.proofs.Views.{is_some-live}
use Rattle.page_words.specs.FiniteMap as map
use Rattle.quota_tree.proofs.Quotas.split_as.Goals as goal

pub live-giver-requires : goal.live-giver-requires
live-giver-requires c = is_some-live c.self.inside.containers c.args.parent (ap (λ view. map.contains_key view.book c.args.parent) c.self.view_is ∙ c.requires.live)

pub add_child-requires-clause-child : goal.add_child-requires-clause-child
add_child-requires-clause-child c =
    let cs = c.self.inside.containers in
    place_there cs c.self.invariant c.args.parent c.args.quota c.args.child (ap (λ view. split_answer view c.args.parent c.args.quota) c.self.view_is ∙ c.requires.can)

pub add_child-requires-clause-given : goal.add_child-requires-clause-given
add_child-requires-clause-given c =
    let cs = c.self.inside.containers in
    let can = ap (λ view. split_answer view c.args.parent c.args.quota) c.self.view_is ∙ c.requires.can in
    omega (arith, giver_room cs c.self.invariant c.args.parent c.args.quota c.args.child can c.live-giver.result c.live-giver.ensures.container, c.live-giver.ensures.fits)

pub add_child-requires-clause-children : goal.add_child-requires-clause-children
add_child-requires-clause-children c =
    let cs = c.self.inside.containers in
    let can = ap (λ view. split_answer view c.args.parent c.args.quota) c.self.view_is ∙ c.requires.can in
    omega (arith, giver_children cs c.self.invariant c.args.parent c.args.quota c.args.child can c.live-giver.result c.live-giver.ensures.container, c.live-giver.ensures.fits)

pub invariant_of-self : goal.invariant_of-self
invariant_of-self c =
    let cs = c.self.inside.containers in
    let is = ap (λ view. split_answer view c.args.parent c.args.quota) c.self.view_is ∙ c.requires.can in
    let least = (can cs c.self.invariant c.args.parent c.args.quota c.args.child is).some in
    rw c.add_child.ensures (quotas-child cs c.self.invariant c.args.parent c.args.quota c.args.child is c.live-giver.result c.live-giver.ensures.container 1 (omega arith) least)

pub returns : goal.returns
returns c =
    let cs = c.self.inside.containers in
    let is = ap (λ view. split_answer view c.args.parent c.args.quota) c.self.view_is ∙ c.requires.can in
    let least = (can cs c.self.invariant c.args.parent c.args.quota c.args.child is).some in
    grind (arith, seen_as-child, with_used-split)
