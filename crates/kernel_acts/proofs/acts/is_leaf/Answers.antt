use Rattle.kernel_acts.proofs.Prelude.{arith, eqb-true}
use Rattle.kernel_acts.proofs.Members.{counted, no_children_of}
use Rattle.kernel_acts.proofs.acts.is_leaf.Goals as goal

pub returns-in-Some : goal.returns-in-Some
returns-in-Some c = grind (arith, no_children_of, counted, eqb-true, c.in-Some.ensures)
