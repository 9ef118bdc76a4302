use Rattle.kernel_calls.proofs.Prelude.{◌≡◌, ◌++◌, take, drop, true, View, answers, end_of, none_completes, EndsInOrder}
use Rattle.kernel_calls.proofs.cores.Core.run.Given as goal

-- the replies so far and those to what is left are those to all
abbrev pub invariant-loop-i : goal.invariant-loop-i
invariant-loop-i l = record {
  told : take l.i l.replies ++ answers l.self.state (drop l.i l.events) ≡ answers l.fn.self.state l.events;
  rest : end_of l.self.state (drop l.i l.events) ≡ end_of l.fn.self.state l.events;
  still : none_completes (answers l.fn.self.state l.events) ≡ true → l.self ≡ l.fn.self;
  along : (w : View) → EndsInOrder (drop l.i l.events) l.self w → EndsInOrder l.events l.fn.self w;
  refused : none_completes (answers l.fn.self.state l.events) ≡ true → none_completes (answers l.self.state (drop l.i l.events)) ≡ true;
}
