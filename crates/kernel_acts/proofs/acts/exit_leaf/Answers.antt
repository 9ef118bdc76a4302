use Rattle.kernel_acts.proofs.Prelude.{arith}
use Rattle.kernel_acts.proofs.FamilyEnds.{exit_done, exit_ends}
use Rattle.kernel_acts.proofs.Members.{childless}
use Rattle.kernel_acts.proofs.acts.exit_leaf.Goals as goal

pub returns-clause-done : goal.returns-clause-done
returns-clause-done c = grind (arith, exit_done, childless, c.requires.live, c.requires.not_root, c.requires.childless)

pub returns-clause-ended : goal.returns-clause-ended
returns-clause-ended c =
    grind (arith, exit_ends, exit_done, childless, c.requires.live, c.requires.not_root, c.requires.childless)
