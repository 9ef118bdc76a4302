use Rattle.std.proofs.Common.{◌≡◌, take}
use Rattle.tower_c.specs.Border.{EndInOrder}
use Rattle.tower_c.proofs.RunLemmas.{SoFar}
use Rattle.tower_c.proofs.runs.run_until.Given as goal

-- the events so far were carried out
abbrev pub invariant-loop-i : goal.invariant-loop-i
invariant-loop-i l = record {
  so_far : SoFar l.fn.core.state l.core.state l.events l.fn.replies l.replies l.i;
  along : EndInOrder (take l.i l.events) l.fn.core l.core;
  still : l.i ≡ 0 → l.core ≡ l.fn.core;
}
