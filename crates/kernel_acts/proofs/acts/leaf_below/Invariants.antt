use Rattle.kernel_acts.proofs.Prelude.{quota_of, Descends}
use Rattle.kernel_acts.proofs.acts.leaf_below.Given as goal

abbrev pub invariant-loop-child : goal.invariant-loop-child
invariant-loop-child l = Descends l.core.state l.fn.pid l.at

-- a child has less than its parent
abbrev pub decreases-loop-child : goal.decreases-loop-child
decreases-loop-child l = quota_of l.core.state.book l.at
