use Rattle.kernel_acts.proofs.Prelude.{◌≡◌, ◌-◌, ◌<◌, ◌≤◌, ℕ, false, at_page, is_dirty_at}
use Rattle.kernel_acts.proofs.peeking.next_dirty.Given as goal

-- no page so far is dirty
abbrev pub invariant-loop-page : goal.invariant-loop-page
invariant-loop-page l = record {
  up : l.fn.from ≤ l.at;
  none : (other : ℕ) → l.fn.from ≤ other → other < l.at → is_dirty_at l.core.state (at_page l.pid other) ≡ false;
}

abbrev pub decreases-loop-page : goal.decreases-loop-page
decreases-loop-page l = 0xf0000 - l.at
