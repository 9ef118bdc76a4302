-- Ports: what a chain of calls is, and what a core does with a call.
use Rattle.std.proofs.Common.{◌≡◌, List, [], ◌∷◌, ◌++◌, Result, Ok}
use Rattle.kernel_calls.specs.Machine.{answer, next}
use Rattle.kernel_calls.specs.declared.calls.Event.{Event}
use Rattle.kernel_calls.specs.declared.calls.Reply.{Reply}
use Rattle.process_table.specs.View as core
use Rattle.guest_cpu.specs.declared.ports.PortFault.{PortFault}

-- what a port answers
abbrev pub Answer : Type 0
Answer = Result Reply PortFault

-- Calls one after another: the port before them, their events and answers, and the port after them.
pub data Chain {S : Type 0} (step : S → Event → Answer → S → Type 0) : S → List Event → List Answer → S → Type 0 where
  none : {s : S} → Chain step s [] [] s
  call : {s t u : S} {events : List Event} {answers : List Answer} {event : Event} {answer : Answer}
      → Chain step s events answers t → step t event answer u → Chain step s (events ++ event ∷ []) (answers ++ answer ∷ []) u

-- a core answers as the machine does
pub record IsCoreStep (before : core.View) (event : Event) (answered : Answer) (after : core.View) : Type 0 where
  pub reply : answered ≡ Ok (answer before.state event)
  pub state : after.state ≡ next before.state event
