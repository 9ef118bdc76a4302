use Rattle.std.proofs.Common.{◌≡◌, [], ◌++◌, sym, ◌∙◌, subst, arith}
use Rattle.guest_cpu.specs.Ports.{none}
use Rattle.guest_cpu.specs.Runs.{Turns, none as no_turns, leaves, runs_out, ends}
use Rattle.guest_cpu.proofs.Chains.{append, one_more}
use Rattle.guest_cpu.proofs.runs.run.Goals as goal

pub loop-init : goal.loop-init
loop-init g c = ([], [], none, no_turns)

pub returns-in_default : goal.returns-in_default
returns-in_default g c =
    let kept = c.loop.invariant in
    let outside = sym c.next_instruction.ensures.instruction ∙ c.in_default.is in
    record { events = kept.0; answers = kept.1; chain = kept.2; run = leaves kept.3 c.loop.auto.counter-end outside }

pub returns-in-Some-execute : goal.returns-in-Some-execute
returns-in-Some-execute g c =
    let kept = c.loop.invariant in
    let last = c.in-Some-execute.ensures in
    let there = sym c.next_instruction.ensures.instruction ∙ c.in-Some.is in
    record {
      events = kept.0 ++ last.events;
      answers = kept.1 ++ last.answers;
      chain = append g.P.Port.step kept.2 last.chain;
      run = ends kept.3 c.loop-test.true there last.executes;
    }

pub loop-preserved : goal.loop-preserved
loop-preserved g c =
    let kept = c.loop.invariant in
    let last = c.in_default-execute.ensures in
    let there = sym c.next_instruction.ensures.instruction ∙ c.in-Some.is in
    (kept.0 ++ last.events, kept.1 ++ last.answers, append g.P.Port.step kept.2 last.chain, one_more kept.3 there last.executes)

pub returns-in-Some-next_instruction : goal.returns-in-Some-next_instruction
returns-in-Some-next_instruction g c =
    let kept = c.loop.invariant in
    let all : c.loop.counter ≡ c.args.turns = omega (arith, c.loop.auto.counter-end, c.loop-test.false) in
    let inside = sym c.next_instruction-2.ensures.instruction ∙ c.in-Some-next_instruction.is in
    record {
      events = kept.0;
      answers = kept.1;
      chain = kept.2;
      run = runs_out (subst (λ n. Turns c.args.program.now n c.args.guest.now kept.0 kept.1 c.loop.guest) all kept.3) inside;
    }

pub returns-in-None : goal.returns-in-None
returns-in-None g c =
    let kept = c.loop.invariant in
    let outside = sym c.next_instruction-2.ensures.instruction ∙ c.in-None.is in
    record { events = kept.0; answers = kept.1; chain = kept.2; run = leaves kept.3 c.loop.auto.counter-end outside }
