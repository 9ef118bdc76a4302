use Rattle.kernel_acts.proofs.Prelude.{◌-◌}
use Rattle.kernel_acts.proofs.FrameWriters.{SearchedTo}
use Rattle.kernel_acts.proofs.writing.has_on.Given as goal

-- no page so far has the frame
abbrev pub invariant-loop-page : goal.invariant-loop-page
invariant-loop-page l = record {
  none : SearchedTo l.core l.pid l.frame l.at;
}

abbrev pub decreases-loop-page : goal.decreases-loop-page
decreases-loop-page l = 0xf0000 - l.at
