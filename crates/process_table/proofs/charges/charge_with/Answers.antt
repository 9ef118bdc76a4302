use Rattle.process_table.proofs.Prelude.{arith}
use Rattle.process_table.proofs.Lemmas.{used-container, extra_new}
use Rattle.process_table.proofs.charges.charge_with.Goals as goal

pub returns : goal.returns
returns c = grind (arith, extra_new, used-container, c.requires.container)
