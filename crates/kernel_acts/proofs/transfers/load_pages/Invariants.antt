use Rattle.kernel_acts.proofs.Prelude
use Prelude.{◌≡◌, ◌+◌, ◌-◌, ◌≤◌, length, take, drop, FramesStay, none_goes, memory_of, AreLoaded}
use Rattle.kernel_acts.proofs.transfers.load_pages.Given as goal

-- the bytes so far were loaded, and the others are as they were
abbrev pub invariant-loop-done : goal.invariant-loop-done
invariant-loop-done l = record {
  place : l.at ≡ l.fn.address + l.done;
  within : l.done ≤ length l.out;
  loaded : AreLoaded l.fn.core.state l.pid l.fn.address l.done (take l.done l.out) l.core.state;
  rest : drop l.done l.out ≡ drop l.done l.fn.out;
  stay : FramesStay none_goes (memory_of l.fn.core) (memory_of l.core);
  still : l.done ≡ 0 → l.core ≡ l.fn.core;
}

abbrev pub decreases-loop-done : goal.decreases-loop-done
decreases-loop-done l = length l.out - l.done
