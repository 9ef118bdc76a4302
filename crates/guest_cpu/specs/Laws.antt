-- What a core answers to a guest, and laws of all runs.
use Rattle.std.proofs.Common.{◌≡◌, ℕ, ◌+◌, ◌==◌, true, List, ◌∷◌, ◌++◌, Option, Ok}
use Rattle.std.specs.Prelude.{map}
use Rattle.authority_laws.specs.Authority.{HaveTheSame, LooksSame, IsQuiet, KeepsWithin, Along, Heard, heard}
use Rattle.authority_laws.specs.Families.{IsFamily}
use Rattle.kernel_calls.specs.Isolation.{Exchange, exchanges, own, events_in, InvolvesNobody, quota_asked, pages_given}
use Rattle.kernel_calls.specs.Machine.{answers, end_of}
use Rattle.kernel_calls.specs.declared.calls.Event.{Event}
use Rattle.kernel_calls.specs.declared.calls.Reply.TheVariants.{Child}
use Rattle.process_table.specs.Apart.{alone_with}
use Rattle.process_table.specs.State.{State, is_live}
use Rattle.process_table.specs.WellFormed.{IsWellFormed}
use Rattle.process_table.specs.View as core
use Rattle.guest_cpu.specs.declared.instructions.Instruction.{Instruction}
use Rattle.guest_cpu.specs.declared.runs.End.{End}
use Rattle.guest_cpu.specs.declared.runs.End.TheVariants as end
use Rattle.guest_cpu.specs.Guests.{GuestView}
use Rattle.guest_cpu.specs.Ports.{Answer, Chain, IsCoreStep}
use Rattle.guest_cpu.specs.Runs.{IsRun, HasRun}

-- a core's answers to a chain of calls are the machine's, and it ends in the machine's last state
abbrev pub CoresAnswer : Type 0
CoresAnswer = (before after : core.View) (events : List Event) (given : List Answer) → Chain IsCoreStep before events given after
    → (given ≡ map Ok (answers before.state events)) × (after.state ≡ end_of before.state events)

-- a guest that ran out of turns and is run again runs as one that had all the turns from the start
abbrev pub RunsGoOn : Type 0
RunsGoOn = (program : List Instruction) (m n : ℕ) (g h k : GuestView) (given more : List Answer) (events made : List Event) (e : End)
    → IsRun program m g given events end.OutOfTurns h → IsRun program n h more made e k → IsRun program (m + n) g (given ++ more) (events ++ made) e k

-- the program, the guest, the turns and the port's answers determine the events, the end and the guest afterwards
abbrev pub RunsAreDetermined : Type 0
RunsAreDetermined = (program : List Instruction) (turns : ℕ) (g h k : GuestView) (given : List Answer) (events made : List Event) (e f : End)
    → IsRun program turns g given events e h → IsRun program turns g given made f k → (events ≡ made) × (e ≡ f) × (h ≡ k)

-- the guest as one of process 1 on CPU 0
abbrev pub alone : GuestView → GuestView
alone g = record { cpu = 0; pid = 1; registers = g.registers; counter = g.counter }

-- the answers in a list of exchanges
abbrev pub answered : List Exchange → List Answer
answered part = map (λ x. Ok x.1) part

-- A guest's exchanges begin the part of a process that a run made, and that part involves nobody. Then the guest ends
-- as it ends over any core in which process 1 is alone with the quota and the pages that the process was given, whatever
-- the root's quota is. It ends in the same way, with the same registers and the same counter.
abbrev pub GuestsAreIsolated : Type 0
GuestsAreIsolated = (s : State) (events : List Event) (before later mine rest : List Exchange) (e : Event) (p : ℕ) → IsWellFormed s
    → exchanges s events ≡ before ++ (e, Child p) ∷ later → own p later ≡ mine ++ rest → InvolvesNobody (mine ++ rest)
    → (program : List Instruction) (turns : ℕ) (g h : GuestView) (ends : End) → IsRun program turns g (answered mine) (events_in mine) ends h
    → (start finish : core.View) (last : GuestView) (ends_alone : End) (root : ℕ)
    → start.state ≡ alone_with root (quota_asked e.call) (pages_given (end_of s (events_in before)) e.pid e.call)
    → HasRun IsCoreStep program turns (alone g) start ends_alone last finish → (ends_alone ≡ ends) × (last ≡ alone h)

-- a call that a process observes, as an event on this CPU
abbrev pub event_told : ℕ → Heard → Event
event_told cpu x = record { cpu = cpu; pid = x.pid; call = x.call }

-- the events that a process observes, as on one CPU
abbrev pub events_told : ℕ → List Heard → List Event
events_told cpu xs = map (event_told cpu) xs

-- the answers to them
abbrev pub answers_told : List Heard → List Answer
answers_told xs = map (λ x. Ok x.reply) xs

-- what its calls find
abbrev pub founds : List Heard → List (Option ℕ)
founds xs = map (λ x. x.finds) xs

-- Two guests of one program make all calls of a process, each in one of two runs, on whichever CPUs these come in, and
-- find the same. Then they get the same replies, and end in the same way, with the same registers and the same counter.
abbrev pub GuestsEndAlike : (mine theirs : List Heard) → Type 0
GuestsEndAlike mine theirs = founds mine ≡ founds theirs
    → (program : List Instruction) (turns : ℕ) (g h k : GuestView) (e f : End)
    → IsRun program turns g (answers_told mine) (events_told g.cpu mine) e h
    → IsRun program turns g (answers_told theirs) (events_told g.cpu theirs) f k → (mine ≡ theirs) × (e ≡ f) × (h ≡ k)

-- so it is if two states look the same to a live process, and outsiders use no channel to it in a run from each
abbrev pub GuestsHearTheSame : Type 0
GuestsHearTheSame = (s t : State) (p : ℕ) (events others : List Event) → IsWellFormed s → IsWellFormed t
    → is_live s p ≡ true → LooksSame s t (λ q. q == p)
    → Along IsQuiet s (λ q. q == p) events → Along IsQuiet t (λ q. q == p) others
    → GuestsEndAlike (heard s (λ q. q == p) (exchanges s events)) (heard t (λ q. q == p) (exchanges t others))

-- and if their process is a family of its own, has the same in both states, and keeps within itself in both runs,
-- whatever outsiders do
abbrev pub GuestsAreUnreached : Type 0
GuestsAreUnreached = (s t : State) (p : ℕ) (events others : List Event) → IsWellFormed s → IsWellFormed t
    → IsFamily s (λ q. q == p) → IsFamily t (λ q. q == p) → HaveTheSame s t (λ q. q == p)
    → Along (λ _. KeepsWithin) s (λ q. q == p) events → Along (λ _. KeepsWithin) t (λ q. q == p) others
    → GuestsEndAlike (heard s (λ q. q == p) (exchanges s events)) (heard t (λ q. q == p) (exchanges t others))
