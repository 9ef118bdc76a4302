use Rattle.quota_tree.proofs.Prelude
use Prelude.{arith}
use Rattle.quota_tree.proofs.AccountLemmas.{children_from, children-end, number-all}
use Rattle.quota_tree.proofs.accounts.children_of.Goals as goal

pub loop-place-init : goal.loop-place-init
loop-place-init c = search (arith, children-end)

pub returns : goal.returns
returns c = grind (arith, children_from, number-all, c.loop-place-test.false, c.loop-place.invariant.0)
