use Rattle.quota_tree.proofs.Prelude
use Prelude.{sym, ap, ◌∙◌, next_number, arith}
use Rattle.quota_tree.proofs.Views.{next_number-position}
use Rattle.quota_tree.proofs.Quotas.next_number.Goals as goal

pub returns : goal.returns
returns c = grind (arith, c.first_absent.ensures, c.new.ensures) ∙ sym (next_number-position c.self.inside.containers c.self.invariant) ∙ ap (λ view. next_number view.book) c.self.view_is

pub returns-in_err-place : goal.returns-in_err-place
returns-in_err-place c = grind (arith, next_number-position, c.from_residual.ensures)
