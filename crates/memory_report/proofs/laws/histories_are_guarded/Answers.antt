use Rattle.memory_report.proofs.GuardedHistories.{histories_guarded}
use Rattle.memory_report.proofs.laws.histories_are_guarded.Goals as goal

pub returns : goal.returns
returns c = histories_guarded
