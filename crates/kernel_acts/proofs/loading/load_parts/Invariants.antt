use Rattle.kernel_acts.proofs.Prelude.{◌≡◌, ◌+◌, ◌-◌, ◌≤◌, None, length, pages_under, load_refusal}
use Rattle.kernel_acts.proofs.LoadSteps.{Loading}
use Rattle.kernel_acts.proofs.loading.load_parts.Given as goal

-- the bytes so far were loaded, and nothing is against the others
abbrev pub invariant-loop-done : goal.invariant-loop-done
invariant-loop-done l = record {
  place : l.at ≡ l.fn.address + l.done;
  within : l.done ≤ length l.bytes;
  loading : Loading l.fn.core l.core l.pid l.fn.address l.write l.bytes l.done;
  none : load_refusal l.core.state l.pid (pages_under l.at (length l.bytes - l.done)) ≡ None;
}

abbrev pub decreases-loop-done : goal.decreases-loop-done
decreases-loop-done l = length l.bytes - l.done
