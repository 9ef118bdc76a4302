use Rattle.process_table.proofs.Prelude.{arith}
use Rattle.process_table.proofs.Refusals.{is_done}
use Rattle.process_table.proofs.processes.Processes.protect.Goals as goal

pub returns-clause-state : goal.returns-clause-state
returns-clause-state c = grind (arith, is_done, c.try_protect.ensures.state, c.try_protect.ensures.result, c.requires)
