use Rattle.kernel_calls.proofs.Isolated.{runs_isolated, others_make_no_difference}
use Rattle.kernel_laws.proofs.laws.processes_are_isolated.Goals as goal

pub returns-clause-alone : goal.returns-clause-alone
returns-clause-alone c = runs_isolated

pub returns-clause-others : goal.returns-clause-others
returns-clause-others c = others_make_no_difference
