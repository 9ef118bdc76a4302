use Rattle.quota_tree.proofs.Prelude
use Prelude.{◌≡◌, ◌+◌, ◌≤◌, drop}
use Rattle.quota_tree.proofs.AccountLemmas.{children_from}
use Rattle.quota_tree.proofs.accounts.children_of.Given as goal

-- the accounts from the counter on are counted
abbrev pub invariant-loop-place : goal.invariant-loop-place
invariant-loop-place l = (l.children ≡ children_from l.fn.parent l.place (drop l.place l.accounts)) × (l.children + l.place ≤ 64)
