use Rattle.kernel_acts.proofs.Prelude
use Prelude.{◌≡◌, ◌-◌, ◌<◌, ◌≤◌, ℕ, false, length, take, drop, Slot, at_page, View, is_beside, Taking}
use Rattle.kernel_acts.proofs.taking.take_from.Given as goal

-- those so far have lost the page, and no page so far is beside the slot
abbrev pub invariant-loop-found : goal.invariant-loop-found
invariant-loop-found l = record {
  room : l.count ≤ length l.lost;
  more : l.fn.start ≤ l.count;
  rest : drop l.count l.lost ≡ drop l.count l.fn.lost;
  taking : (v : View) → Taking v l.fn.core (at_page l.pid l.page) (take l.fn.start l.fn.lost) → Taking v l.core (at_page l.pid l.page) (take l.count l.lost);
  clear : (other : ℕ) → other < l.at → is_beside l.core.state (at_page l.pid l.page) (at_page l.holder other) ≡ false;
  others : (slot : Slot) → is_beside l.fn.core.state (at_page l.pid l.page) slot ≡ false → is_beside l.core.state (at_page l.pid l.page) slot ≡ false;
}

abbrev pub decreases-loop-found : goal.decreases-loop-found
decreases-loop-found l = 0xf0000 - l.at
