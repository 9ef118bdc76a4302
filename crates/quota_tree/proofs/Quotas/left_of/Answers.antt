use Rattle.quota_tree.proofs.Prelude
use Prelude.{arith, sym, ap, ◌∙◌, container_of}
use Rattle.quota_tree.proofs.Views.{container_of-kept, room_of-container}
use Rattle.quota_tree.proofs.Quotas.left_of.Goals as goal

pub left_of-requires : goal.left_of-requires
left_of-requires c =
    let at = sym (container_of-kept c.self.inside.containers c.self.invariant c.args.pid) ∙ ap (λ view. container_of view c.args.pid) c.self.view_is ∙ c.requires in
    (c.self.invariant.each c.args.pid c.args.container.now at).within

pub returns : goal.returns
returns c = grind (arith, container_of-kept, room_of-container, c.self.invariant, c.requires, c.left_of.ensures)
