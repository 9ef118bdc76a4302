use Rattle.std.proofs.Common.{List}
use Rattle.kernel_calls.specs.declared.calls.Event.{Event}
use Rattle.guest_cpu.specs.Ports.{Answer, Chain}
use Rattle.guest_cpu.specs.Runs.{Turns}
use Rattle.guest_cpu.proofs.runs.run.Given as goal

-- the turns so far, over a chain of the port's steps
abbrev pub invariant-loop : goal.invariant-loop
invariant-loop g l =
    (events : List Event) × (answers : List Answer)
    × Chain g.P.Port.step l.fn.port events answers l.port
    × Turns l.program l.counter l.fn.guest events answers l.guest
