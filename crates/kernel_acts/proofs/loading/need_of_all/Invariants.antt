use Rattle.kernel_acts.proofs.Prelude.{◌≡◌, ◌+◌, ◌*◌, ◌-◌, ◌≤◌, true, list_all, is_user_page, pages_under}
use Rattle.kernel_acts.proofs.LoadNeeds.{Counting}
use Rattle.kernel_acts.proofs.loading.need_of_all.Given as goal

-- the pages so far were counted
abbrev pub invariant-loop-done : goal.invariant-loop-done
invariant-loop-done l = record {
  place : l.at ≡ l.fn.address + l.done;
  within : l.done ≤ l.count;
  user : list_all is_user_page (pages_under l.at (l.count - l.done)) ≡ true;
  counted : Counting l.core.state.spaces l.pid l.fn.address l.count l.at l.done l.need;
  few : l.need ≤ 2 * l.done;
}

abbrev pub decreases-loop-done : goal.decreases-loop-done
decreases-loop-done l = l.count - l.done
