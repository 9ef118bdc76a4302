use Rattle.kernel_laws.proofs.Cpus.{cpus_make_no_difference, runs_on_cpus}
use Rattle.kernel_laws.proofs.laws.cpus_make_no_difference.Goals as goal

pub returns-clause-events : goal.returns-clause-events
returns-clause-events c = cpus_make_no_difference

pub returns-clause-runs : goal.returns-clause-runs
returns-clause-runs c = runs_on_cpus
