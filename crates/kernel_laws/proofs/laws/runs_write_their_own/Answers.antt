use Rattle.kernel_laws.proofs.OwnRuns.{acts_write_their_own, leaving_composes, runs_write_their_own}
use Rattle.kernel_laws.proofs.laws.runs_write_their_own.Goals as goal

pub returns-clause-runs : goal.returns-clause-runs
returns-clause-runs c = runs_write_their_own

pub returns-clause-acts : goal.returns-clause-acts
returns-clause-acts c = acts_write_their_own

pub returns-clause-composes : goal.returns-clause-composes
returns-clause-composes c = leaving_composes
