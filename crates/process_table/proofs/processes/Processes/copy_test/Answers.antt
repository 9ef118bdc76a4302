use Rattle.process_table.proofs.Prelude.{arith}
use Rattle.process_table.proofs.Lemmas.{used-container, fork-by}
use Rattle.process_table.proofs.processes.Processes.copy_test.Goals as goal

pub returns-clause-copy : goal.returns-clause-copy
returns-clause-copy c = grind (arith, used-container, fork-by, c.copy_number.ensures, c.child_test.ensures)

pub returns-in_err-copy-clause-cause : goal.returns-in_err-copy-clause-cause
returns-in_err-copy-clause-cause c = grind (arith, used-container, fork-by, c.copy_number.ensures, c.child_test.ensures)
