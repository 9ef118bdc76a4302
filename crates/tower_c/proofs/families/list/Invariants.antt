use Rattle.std.proofs.Common.{◌≡◌, take, drop}
use Rattle.tower_c.proofs.families.list.Given as goal

-- the numbers so far stand in the first places
abbrev pub invariant-loop-i : goal.invariant-loop-i
invariant-loop-i l = record {
  pids : take l.i l.list.pids ≡ take l.i l.pid-items;
  rest : drop l.i l.list.pids ≡ drop l.i l.fn.list.pids;
}
