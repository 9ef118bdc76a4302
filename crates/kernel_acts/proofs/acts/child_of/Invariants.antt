use Rattle.kernel_acts.proofs.Prelude.{◌≡◌, ◌<◌, ℕ, false, is_child_of}
use Rattle.kernel_acts.proofs.acts.child_of.Given as goal

-- no process so far is a child
abbrev pub invariant-loop-number : goal.invariant-loop-number
invariant-loop-number l = (q : ℕ) → q < l.number → is_child_of l.core.state l.pid q ≡ false
