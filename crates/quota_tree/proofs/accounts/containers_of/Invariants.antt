use Rattle.quota_tree.proofs.Prelude
use Prelude.{◌≡◌, ℕ, ◌<◌, length, Some, slice_get, container_in}
use Rattle.quota_tree.proofs.accounts.containers_of.Given as goal

abbrev pub invariant-loop-number : goal.invariant-loop-number
invariant-loop-number l = (length l.containers ≡ 64) × ((p : ℕ) → p < l.number → slice_get l.containers p ≡ Some (container_in l.accounts p))
