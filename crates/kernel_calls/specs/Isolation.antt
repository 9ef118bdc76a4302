-- The replies that a process gets in a run, and what they depend on.
use Rattle.std.specs.Prelude.{◌≡◌, ℕ, ◌+◌, Bool, true, false, if◌then◌else◌, ◌==◌, List, [], ◌∷◌, ◌++◌, length, map, filter, drop, All}
use Rattle.std.specs.List.{zip}
use Rattle.kernel_calls.specs.Below.{Map, nat_order, FirstPage, pages_held, alone_with, State, IsWellFormed}
use Rattle.kernel_calls.specs.Machine.{answer, answers, end_of}
use Rattle.kernel_calls.specs.declared.calls.Call.{Call}
use Rattle.kernel_calls.specs.declared.calls.Event.{Event}
use Rattle.kernel_calls.specs.declared.calls.Reply.{Reply}
use Rattle.page_words.specs.FiniteMap as map
use Rattle.kernel_calls.specs.declared.calls.Call.TheVariants as call
use Rattle.kernel_calls.specs.declared.calls.Reply.TheVariants as reply

-- an event of a run, and the reply to it
abbrev pub Exchange : Type 0
Exchange = Event × Reply

-- a run's events, each with its reply
abbrev pub exchanges : State → List Event → List Exchange
exchanges s events = zip events (answers s events)

-- whether a call is an Exit
abbrev pub is_exit : Call → Bool
is_exit call.Exit = true
is_exit _ = false

-- whether a call has to do with other processes: it makes or takes an offer, or makes a child, as a spawn and a fork do
abbrev pub involves_others : Call → Bool
involves_others (call.Offer _ _ _) = true
involves_others (call.Accept _ _ _) = true
involves_others (call.Spawn _) = true
involves_others (call.Fork _) = true
involves_others _ = false

-- those of a process, up to its first Exit, that one included
abbrev pub own : ℕ → List Exchange → List Exchange
own p [] = []
own p (x ∷ later) = if x.0.pid == p then x ∷ (if is_exit x.0.call then [] else own p later) else own p later

-- the events in a list of exchanges
abbrev pub events_in : List Exchange → List Event
events_in run = map (λ x. x.0) run

-- the calls in a list of exchanges
abbrev pub calls_of : List Exchange → List Call
calls_of run = map (λ x. x.0.call) run

-- the replies in a list of exchanges
abbrev pub replies_of : List Exchange → List Reply
replies_of run = map (λ x. x.1) run

-- exchanges of a process that involves nobody else
abbrev pub InvolvesNobody : List Exchange → Type 0
InvolvesNobody run = All (λ c. involves_others c ≡ false) (calls_of run)

-- the replies to these calls of process 1, on CPU 0, of a machine where it is alone with that quota and these pages,
-- under a root of another quota
abbrev pub solo : ℕ → ℕ → Map nat_order FirstPage → List Call → List Reply
solo root quota pages calls = answers (alone_with root quota pages) (map (λ c. record { cpu = 0; pid = 1; call = c }) calls)

-- the quota that a call gives the child that it makes
abbrev pub quota_asked : Call → ℕ
quota_asked (call.Spawn quota) = quota
quota_asked (call.Fork quota) = quota
quota_asked _ = 0

-- the pages that a call of a process gives that child: a spawn gives none, a fork copies of all that the process has
abbrev pub pages_given : State → ℕ → Call → Map nat_order FirstPage
pages_given s p (call.Fork _) = pages_held s p
pages_given s p _ = map.empty

-- a part that involves nobody gets the replies that process 1 gets alone with that quota and these pages, whatever the
-- root's quota is
abbrev pub IsAsAlone : ℕ → Map nat_order FirstPage → List Exchange → Type 0
IsAsAlone quota pages part = InvolvesNobody part → (root : ℕ) → replies_of part ≡ solo root quota pages (calls_of part)

-- each process that an event of a run makes gets after that event the replies that it gets alone
abbrev pub IsIsolated : State → List Event → List Reply → Type 0
IsIsolated s events replies = (before later : List Exchange) (e : Event) (p : ℕ)
    → zip events replies ≡ before ++ (e, reply.Child p) ∷ later
    → IsAsAlone (quota_asked e.call) (pages_given (end_of s (events_in before)) e.pid e.call) (own p later)

-- and so in every run from a well formed state
abbrev pub RunsAreIsolated : Type 0
RunsAreIsolated = (s : State) (events : List Event) → IsWellFormed s → IsIsolated s events (answers s events)

-- the exchanges of a process after one event of a run, up to its first Exit
abbrev pub own_behind : ℕ → State → List Event → Event → List Event → List Exchange
own_behind p s before e later = own p (drop (length before + 1) (exchanges s (before ++ e ∷ later)))

-- after the event that made it, a process gets the same replies in the run without the later events of all others
abbrev pub OthersMakeNoDifference : Type 0
OthersMakeNoDifference = (s : State) (before : List Event) (e : Event) (later : List Event) (p : ℕ) → IsWellFormed s → answer (end_of s before) e ≡ reply.Child p
    → InvolvesNobody (own_behind p s before e later)
    → own_behind p s before e (filter (λ (other : Event). other.pid == p) later) ≡ own_behind p s before e later
