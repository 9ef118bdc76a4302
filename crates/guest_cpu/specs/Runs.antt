-- What a run of a guest may be.
use Rattle.std.proofs.Common.{◌≡◌, ◌≢◌, ℕ, suc, ◌<◌, ◌≤◌, List, [], ◌∷◌, ◌++◌, Option, Some, None, Ok, Err}
use Rattle.std.specs.Prelude.{slice_get}
use Rattle.kernel_calls.specs.declared.calls.Event.{Event}
use Rattle.kernel_calls.specs.declared.calls.Reply.{Reply}
use Rattle.guest_cpu.specs.declared.instructions.Instruction.{Instruction}
use Rattle.guest_cpu.specs.declared.instructions.Instruction.TheVariants.{Halt}
use Rattle.guest_cpu.specs.declared.ports.PortFault.{PortFault}
use Rattle.guest_cpu.specs.declared.runs.End.{End}
use Rattle.guest_cpu.specs.declared.runs.End.TheVariants as end
use Rattle.guest_cpu.specs.Guests.{GuestView, event_asked, value_of, after}
use Rattle.guest_cpu.specs.Ports.{Answer, Chain}

-- What one instruction does: the guest before it, the event that it makes and the port's answer where it makes a
-- call, the end where the run ends with it, and the guest after it.
pub data Executes (instruction : Instruction) : GuestView → List Event → List Answer → Option End → GuestView → Type 0 where
  halts : {g : GuestView} → instruction ≡ Halt → Executes instruction g [] [] (Some end.Halted) g
  moves : {g : GuestView} → instruction ≢ Halt → event_asked g instruction ≡ None → Executes instruction g [] [] None (after g instruction 0)
  asks : {g : GuestView} {event : Event} {reply : Reply} {value : ℕ} → event_asked g instruction ≡ Some event → value_of reply ≡ Some value
      → Executes instruction g (event ∷ []) (Ok reply ∷ []) None (after g instruction value)
  stops : {g : GuestView} {event : Event} {reply : Reply} → event_asked g instruction ≡ Some event → value_of reply ≡ None
      → Executes instruction g (event ∷ []) (Ok reply ∷ []) (Some (end.Stopped reply)) g
  fails : {g : GuestView} {event : Event} {fault : PortFault} → event_asked g instruction ≡ Some event
      → Executes instruction g (event ∷ []) (Err fault ∷ []) (Some (end.PortFault fault)) g

-- that many turns, each with the instruction at the counter, none of which ends the run
pub data Turns (program : List Instruction) : ℕ → GuestView → List Event → List Answer → GuestView → Type 0 where
  none : {g : GuestView} → Turns program 0 g [] [] g
  turn : {n : ℕ} {g h k : GuestView} {events made : List Event} {answers given : List Answer} {instruction : Instruction}
      → Turns program n g events answers h → slice_get program h.counter ≡ Some instruction → Executes instruction h made given None k
      → Turns program (suc n) g (events ++ made) (answers ++ given) k

-- A run of a guest over a program: some turns, and then the end.
pub data IsRun (program : List Instruction) (turns : ℕ) : GuestView → List Answer → List Event → End → GuestView → Type 0 where
  -- the counter lies outside the program
  leaves : {n : ℕ} {g h : GuestView} {events : List Event} {answers : List Answer}
      → Turns program n g events answers h → n ≤ turns → slice_get program h.counter ≡ None → IsRun program turns g answers events end.Halted h
  -- it does not, and all turns are spent
  runs_out : {g h : GuestView} {events : List Event} {answers : List Answer} {instruction : Instruction}
      → Turns program turns g events answers h → slice_get program h.counter ≡ Some instruction → IsRun program turns g answers events end.OutOfTurns h
  -- one more turn ends the run
  ends : {n : ℕ} {g h k : GuestView} {events made : List Event} {answers given : List Answer} {instruction : Instruction} {e : End}
      → Turns program n g events answers h → n < turns → slice_get program h.counter ≡ Some instruction → Executes instruction h made given (Some e) k
      → IsRun program turns g (answers ++ given) (events ++ made) e k

-- ---- Over a port: its states are a chain of its steps, and its answers are the run's

-- a run of a program over a port, with its events and answers
pub record HasRun {S : Type 0} (step : S → Event → Answer → S → Type 0) (program : List Instruction) (turns : ℕ) (g : GuestView) (before : S) (e : End) (h : GuestView) (after : S) : Type 0 where
  pub events : List Event
  pub answers : List Answer
  pub chain : Chain step before events answers after
  pub run : IsRun program turns g answers events e h

-- one instruction over a port
pub record HasExecuted {S : Type 0} (step : S → Event → Answer → S → Type 0) (instruction : Instruction) (g : GuestView) (before : S) (e : Option End) (h : GuestView) (after : S) : Type 0 where
  pub events : List Event
  pub answers : List Answer
  pub chain : Chain step before events answers after
  pub executes : Executes instruction g events answers e h
