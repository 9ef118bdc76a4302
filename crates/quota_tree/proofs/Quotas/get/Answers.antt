use Rattle.quota_tree.proofs.Prelude
use Prelude.{arith, ◌≡◌, sym, ap, ◌∙◌, Container, number_of_children}
use Rattle.quota_tree.proofs.Views.{container_of-kept, live-is_some, used_of-container, IfSome-each}
use Rattle.quota_tree.proofs.Quotas.get.Goals as goal

pub returns-clause-container : goal.returns-clause-container
returns-clause-container c = grind (arith, container_of-kept, c.container_at.ensures, c.self.invariant)

pub returns-clause-live : goal.returns-clause-live
returns-clause-live c = grind (arith, live-is_some, c.container_at.ensures)

pub returns-clause-used : goal.returns-clause-used
returns-clause-used c = grind (arith, used_of-container, c.container_at.ensures)

pub returns-clause-children : goal.returns-clause-children
returns-clause-children c =
    let P : Container → Type 0 = λ container. container.children ≡ number_of_children c.args.self.now.book c.args.pid in
    IfSome-each P c.container_at.result (λ x h.
    (c.self.invariant.each c.args.pid x (sym c.container_at.ensures ∙ h)).children ∙ ap (λ view. number_of_children view.book c.args.pid) c.self.view_is)
