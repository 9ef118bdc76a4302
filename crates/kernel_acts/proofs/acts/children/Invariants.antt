use Rattle.kernel_acts.proofs.Prelude.{◌≡◌, ◌≤◌, take, drop, filter, range_with_len, is_child_of}
use Rattle.kernel_acts.proofs.acts.children.Given as goal

abbrev pub invariant-loop-number : goal.invariant-loop-number
invariant-loop-number l = record {
  room : l.count ≤ l.number;
  found : take l.count l.children ≡ filter (is_child_of l.core.state l.pid) (range_with_len 0 l.number);
  rest : drop l.count l.children ≡ drop l.count l.fn.children;
}
