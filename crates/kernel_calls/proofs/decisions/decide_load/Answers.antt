use Rattle.kernel_calls.proofs.Prelude.{arith}
use Rattle.kernel_calls.proofs.Planned.{decided-load}
use Rattle.kernel_calls.proofs.decisions.decide_load.Goals as goal

pub returns : goal.returns
returns c = grind (arith, decided-load, c.by_plan.ensures, c.requires.load, c.requires.live, c.value_by-value.ensures)
