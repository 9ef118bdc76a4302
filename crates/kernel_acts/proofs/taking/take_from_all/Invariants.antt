use Rattle.kernel_acts.proofs.Prelude.{◌≡◌, ◌<◌, ◌≤◌, ℕ, false, length, take, drop, at_page, is_beside, Taking}
use Rattle.kernel_acts.proofs.taking.take_from_all.Given as goal

-- those so far have lost the page, and while there are places no page of a process so far is beside the slot
abbrev pub invariant-loop-number : goal.invariant-loop-number
invariant-loop-number l = record {
  room : l.count ≤ length l.lost;
  rest : drop l.count l.lost ≡ drop l.count l.fn.lost;
  taking : Taking l.fn.core l.core (at_page l.pid l.page) (take l.count l.lost);
  clear : l.count < length l.lost → (p page : ℕ) → p < l.number → is_beside l.core.state (at_page l.pid l.page) (at_page p page) ≡ false;
}
