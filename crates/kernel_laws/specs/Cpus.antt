-- On which CPU a call comes in makes no difference.
use Rattle.std.proofs.Common.{◌≡◌, ℕ, List, map}
use Rattle.process_table.specs.State.{State}
use Rattle.kernel_calls.specs.Machine.{answer, answers, next, end_of}
use Rattle.kernel_calls.specs.declared.calls.Event.{Event}

-- the event on this CPU
abbrev pub on_cpu : ℕ → Event → Event
on_cpu cpu e = record { cpu = cpu; pid = e.pid; call = e.call }

-- an event is answered on each CPU alike, and leads to the same state
abbrev pub CpusMakeNoDifference : Type 0
CpusMakeNoDifference = (s : State) (e : Event) (cpu : ℕ) → (answer s (on_cpu cpu e) ≡ answer s e) × (next s (on_cpu cpu e) ≡ next s e)

-- so are events, each on a CPU of its own
abbrev pub RunsOnCpus : Type 0
RunsOnCpus = (s : State) (events : List Event) (cpu : Event → ℕ)
    → (answers s (map (λ e. on_cpu (cpu e) e) events) ≡ answers s events) × (end_of s (map (λ e. on_cpu (cpu e) e) events) ≡ end_of s events)
