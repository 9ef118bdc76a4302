use Rattle.kernel_acts.proofs.Prelude
use Prelude.{◌≡◌, ℕ, ◌+◌, ◌-◌, ◌<◌, ◌≤◌, true, length, take, drop, map, range_with_len, slot_at, byte_at, is_mapped}
use Rattle.kernel_acts.proofs.peeking.peek.Given as goal

-- the bytes so far are those that stand there, and the others are as they were
abbrev pub invariant-loop-done : goal.invariant-loop-done
invariant-loop-done l = record {
  place : l.at ≡ l.fn.address + l.done;
  within : l.done ≤ length l.out;
  bytes : take l.done l.out ≡ map (byte_at l.core.state.spaces l.pid) (range_with_len l.fn.address l.done);
  rest : drop l.done l.out ≡ drop l.done l.fn.out;
  mapped : (i : ℕ) → i < l.done → is_mapped l.core.state (slot_at l.pid (l.fn.address + i)) ≡ true;
}

abbrev pub decreases-loop-done : goal.decreases-loop-done
decreases-loop-done l = length l.out - l.done
