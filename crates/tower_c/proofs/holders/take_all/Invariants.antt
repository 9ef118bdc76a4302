use Rattle.std.proofs.Common.{◌≡◌, ◌≤◌, ◌-◌, true, length, map, take, drop}
use Rattle.address_space.specs.Spaces.{at_page}
use Rattle.kernel_calls.specs.Machine.{answer, completes}
use Rattle.kernel_calls.specs.Cleaned.{info_of_page}
use Rattle.kernel_acts.specs.TakenBack.{Taking}
use Rattle.tower_c.specs.Holders.{holder_of}
use Rattle.tower_c.proofs.holders.take_all.Given as goal

-- the slots so far were taken, and the page can still be taken
abbrev pub invariant-loop-count : goal.invariant-loop-count
invariant-loop-count l = record {
  shown : completes (answer l.core.state (info_of_page l.pid l.page)) ≡ true;
  taken : Taking l.fn.core l.core (at_page l.pid l.page) (map holder_of (take l.count l.lost));
  most : l.count ≤ length l.lost;
  rest : drop l.count l.lost ≡ drop l.count l.fn.lost;
}

abbrev pub decreases-loop-count : goal.decreases-loop-count
decreases-loop-count l = length l.initial.lost - l.count
