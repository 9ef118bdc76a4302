use Rattle.std.proofs.Common.{◌≡◌, ◌++◌, take, drop, true}
use Rattle.tower_c.specs.Border.{EndInOrder, replies_in, end_after, none_is_carried_out}
use Rattle.tower_c.proofs.run.Given as goal

-- the replies so far and those to what is left are those to all
abbrev pub invariant-loop-i : goal.invariant-loop-i
invariant-loop-i l = record {
  told : take l.i l.replies ++ replies_in l.core.state (drop l.i l.events) ≡ replies_in l.fn.core.state l.events;
  rest : end_after l.core.state (drop l.i l.events) ≡ end_after l.fn.core.state l.events;
  still : none_is_carried_out l.fn.core.state l.events ≡ true → l.core ≡ l.fn.core;
  along : EndInOrder (take l.i l.events) l.fn.core l.core;
  refused : none_is_carried_out l.fn.core.state l.events ≡ true → none_is_carried_out l.core.state (drop l.i l.events) ≡ true;
}
