use Rattle.kernel_acts.proofs.Prelude
use Prelude.{◌≡◌, ◌+◌, ◌-◌, ◌≤◌, length, take, FramesStay, memory_of, of_lazy_pages, AreStored}
use Rattle.kernel_acts.proofs.transfers.store_pages.Given as goal

-- the bytes so far were stored
abbrev pub invariant-loop-done : goal.invariant-loop-done
invariant-loop-done l = record {
  place : l.at ≡ l.fn.address + l.done;
  within : l.done ≤ length l.bytes;
  stored : AreStored l.fn.core.state l.pid l.fn.address (take l.done l.bytes) l.core.state;
  stay : FramesStay (of_lazy_pages l.pid l.fn.address l.done) (memory_of l.fn.core) (memory_of l.core);
  still : l.done ≡ 0 → l.core ≡ l.fn.core;
}

abbrev pub decreases-loop-done : goal.decreases-loop-done
decreases-loop-done l = length l.bytes - l.done
