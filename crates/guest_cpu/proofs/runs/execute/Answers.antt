use Rattle.std.proofs.Common.{rules, sym, ◌∙◌, None, Ok, Err, [], ◌∷◌, subst}
use Rattle.guest_cpu.specs.Runs.{Executes, halts, moves, asks, stops, fails}
use Rattle.guest_cpu.specs.Ports.{none, call}
use Rattle.guest_cpu.proofs.runs.execute.Goals as goal

pub returns-then-is_halt : goal.returns-then-is_halt
returns-then-is_halt g c = record { events = []; answers = []; chain = none; executes = halts (c.is_halt.ensures.0 c.if-is_halt.true) }

pub returns-in_default : goal.returns-in_default
returns-in_default g c = record { events = []; answers = []; chain = none; executes = subst (Executes c.args.instruction.now c.args.guest.now [] [] None) (sym c.complete.ensures) (moves (search rules) (search rules)) }

pub returns-in-Err : goal.returns-in-Err
returns-in-Err g c = record {
  events = c.in-Some.event ∷ [];
  answers = Err c.in-Err.fault ∷ [];
  chain = call none c.in-Err.ensures;
  executes = fails (sym c.event_asked.ensures ∙ c.in-Some.is);
}

pub returns-in-None : goal.returns-in-None
returns-in-None g c = record {
  events = c.in-Some.event ∷ [];
  answers = Ok c.in-Ok.reply ∷ [];
  chain = call none c.in-Ok.ensures;
  executes = stops (sym c.event_asked.ensures ∙ c.in-Some.is) (sym c.value_of.ensures ∙ c.in-None.is);
}

pub returns-in-Some-value_of : goal.returns-in-Some-value_of
returns-in-Some-value_of g c = record {
  events = c.in-Some.event ∷ [];
  answers = Ok c.in-Ok.reply ∷ [];
  chain = call none c.in-Ok.ensures;
  executes = subst (Executes c.args.instruction.now c.args.guest.now (c.in-Some.event ∷ []) (Ok c.in-Ok.reply ∷ []) None) (sym c.complete-in-Some-value_of.ensures)
      (asks (sym c.event_asked.ensures ∙ c.in-Some.is) (sym c.value_of.ensures ∙ c.in-Some-value_of.is));
}
