use Rattle.kernel_calls.proofs.Runs.{runs-stay}
use Rattle.kernel_calls.proofs.laws.runs_stay_well_formed.Goals as goal

pub returns : goal.returns
returns c = runs-stay
