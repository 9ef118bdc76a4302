use Rattle.kernel_acts.proofs.Prelude.{◌∙◌}
use Rattle.kernel_acts.proofs.Installs.{opened_before}
use Rattle.kernel_acts.proofs.installing.opening.Goals as goal

pub returns-in-Some-true-clause-none : goal.returns-in-Some-true-clause-none
returns-in-Some-true-clause-none c =
    opened_before c.args.core.now.state c.args.pid c.args.page c.in-Some-true.ensures.0 (c.in-Some-true.ensures.1 ∙ c.in-Some-true.field-0-test)
