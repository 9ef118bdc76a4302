use Rattle.kernel_acts.proofs.Prelude.{child, itself}
use Rattle.kernel_acts.proofs.Members.{quota_below}
use Rattle.kernel_acts.proofs.acts.leaf_below.Goals as goal

pub loop-child-preserved : goal.loop-child-preserved
loop-child-preserved c = child {q = c.loop-child.at} {r = c.in-Some.child} c.loop-child.invariant c.in-Some.ensures.child

pub loop-child-smaller : goal.loop-child-smaller
loop-child-smaller c = quota_below c.args.core.now.state c.loop-child.at c.in-Some.child c.stands.ensures.well_formed c.in-Some.ensures.child

pub loop-child-init : goal.loop-child-init
loop-child-init c = itself
