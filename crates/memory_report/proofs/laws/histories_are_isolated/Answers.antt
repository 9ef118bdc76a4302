use Rattle.memory_report.proofs.IsolatedHistories.{histories_isolated, others_left_out}
use Rattle.memory_report.proofs.laws.histories_are_isolated.Goals as goal

pub returns-clause-alone : goal.returns-clause-alone
returns-clause-alone c = histories_isolated

pub returns-clause-others : goal.returns-clause-others
returns-clause-others c = others_left_out
