use Rattle.kernel_laws.proofs.Effects.{done_means_done, slots_go}
use Rattle.kernel_calls.proofs.Effects.{slots_come}
use Rattle.kernel_laws.proofs.FlagChanges.{flags_change}
use Rattle.kernel_laws.proofs.laws.done_means_done.Goals as goal

pub returns-clause-effects : goal.returns-clause-effects
returns-clause-effects c = done_means_done

pub returns-clause-come : goal.returns-clause-come
returns-clause-come c = slots_come

pub returns-clause-go : goal.returns-clause-go
returns-clause-go c = slots_go

pub returns-clause-flags : goal.returns-clause-flags
returns-clause-flags c = flags_change
