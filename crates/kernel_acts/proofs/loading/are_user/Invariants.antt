use Rattle.kernel_acts.proofs.Prelude.{◌≡◌, ◌+◌, ◌-◌, ◌≤◌, list_all, is_user_page, pages_under}
use Rattle.kernel_acts.proofs.loading.are_user.Given as goal

-- the pages so far pass the test, so that those left decide
abbrev pub invariant-loop-done : goal.invariant-loop-done
invariant-loop-done l = record {
  place : l.at ≡ l.fn.address + l.done;
  within : l.done ≤ l.count;
  rest : list_all is_user_page (pages_under l.fn.address l.count) ≡ list_all is_user_page (pages_under l.at (l.count - l.done));
}

abbrev pub decreases-loop-done : goal.decreases-loop-done
decreases-loop-done l = l.count - l.done
