use Rattle.kernel_calls.proofs.Prelude.{arith}
use Rattle.kernel_calls.proofs.Planned.{decided-store}
use Rattle.kernel_calls.proofs.decisions.decide_store.Goals as goal

pub returns : goal.returns
returns c = grind (arith, decided-store, c.by_plan.ensures, c.requires.store, c.requires.live)
