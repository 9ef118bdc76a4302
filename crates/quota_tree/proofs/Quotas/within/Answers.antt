use Rattle.quota_tree.proofs.Prelude
use Prelude.{arith}
use Rattle.quota_tree.proofs.Views.{all_numbers, all_parents, all_used, all_within, within_root}
use Rattle.quota_tree.proofs.Quotas.within.Goals as goal

pub returns-clause-numbers : goal.returns-clause-numbers
returns-clause-numbers c = grind (arith, all_numbers, c.self.invariant)

pub returns-clause-parents : goal.returns-clause-parents
returns-clause-parents c = grind (arith, all_parents, c.self.invariant)

pub returns-clause-used : goal.returns-clause-used
returns-clause-used c = grind (arith, all_used, c.self.invariant)

pub returns-clause-quota : goal.returns-clause-quota
returns-clause-quota c = grind (arith, all_within, c.self.invariant)

pub returns-clause-total : goal.returns-clause-total
returns-clause-total c = grind (arith, within_root, c.self.invariant)
