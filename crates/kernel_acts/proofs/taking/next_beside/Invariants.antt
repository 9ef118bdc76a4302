use Rattle.kernel_acts.proofs.Prelude.{◌≡◌, ◌-◌, ◌<◌, ◌≤◌, ℕ, false, at_page, is_beside}
use Rattle.kernel_acts.proofs.taking.next_beside.Given as goal

-- no page so far is beside the slot
abbrev pub invariant-loop-found : goal.invariant-loop-found
invariant-loop-found l = record {
  up : l.fn.from ≤ l.at;
  none : (other : ℕ) → l.fn.from ≤ other → other < l.at → is_beside l.core.state (at_page l.pid l.page) (at_page l.holder other) ≡ false;
}

abbrev pub decreases-loop-found : goal.decreases-loop-found
decreases-loop-found l = 0xf0000 - l.at
