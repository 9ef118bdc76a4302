use Rattle.kernel_acts.proofs.Prelude.{◌≡◌, ◌+◌, ◌-◌, ◌≤◌, true, list_all, is_user_page, pages_under, may_at}
use Rattle.kernel_acts.proofs.loading.may_all.Given as goal

-- the pages so far pass the test, so that those left decide
abbrev pub invariant-loop-done : goal.invariant-loop-done
invariant-loop-done l = record {
  place : l.at ≡ l.fn.address + l.done;
  within : l.done ≤ l.count;
  user : list_all is_user_page (pages_under l.at (l.count - l.done)) ≡ true;
  rest : list_all (may_at l.core.state l.pid) (pages_under l.fn.address l.count) ≡ list_all (may_at l.core.state l.pid) (pages_under l.at (l.count - l.done));
}

abbrev pub decreases-loop-done : goal.decreases-loop-done
decreases-loop-done l = l.count - l.done
