-- Which calls the events of other processes can refuse.
use Rattle.std.proofs.Common.{◌≡◌, ◌≢◌, ℕ, ◌+◌, true, List, take, drop, Option, Some, None}
use Rattle.std.specs.Prelude.{◌⊎◌}
use Rattle.std.specs.List.{All, slice_get}
use Rattle.process_table.specs.State.{State}
use Rattle.process_table.specs.WellFormed.{IsWellFormed}
use Rattle.process_table.specs.declared.causes.Cause.TheVariants.{NoTarget, NoOffer, TableFull}
use Rattle.kernel_calls.specs.Machine.{answer, answers, next, end_of, completes}
use Rattle.kernel_calls.specs.declared.calls.Call.{Call}
use Rattle.kernel_calls.specs.declared.calls.Event.{Event}
use Rattle.kernel_calls.specs.declared.calls.Reply.{Reply}
use Rattle.kernel_calls.specs.declared.calls.Call.TheVariants as call
use Rattle.kernel_calls.specs.declared.calls.Reply.TheVariants as reply

-- the refusal of a call that other processes can make impossible
abbrev pub lost : Call → Option Reply
lost (call.Offer _ _ _) = Some (reply.Refused NoTarget)
lost (call.Withdraw _ _) = Some (reply.Refused NoOffer)
lost (call.Accept _ _ _) = Some (reply.Refused NoOffer)
lost (call.Spawn _) = Some (reply.Refused TableFull)
lost (call.Fork _) = Some (reply.Refused TableFull)
lost _ = None

-- The event o makes a call of p impossible. It may be the exit of the target of p's new offer, or an exit or accept by
-- the target of p's pending offer. It may be the giver of an offer to p, which exits, unmaps the page or withdraws the
-- offer. Or it makes a child.
abbrev pub Loses : State → Event → ℕ → Call → Type 0
Loses s o p (call.Offer _ target _) = (o.pid ≡ target) × (o.call ≡ call.Exit)
Loses s o p (call.Withdraw page target) = (o.pid ≡ target)
    × ((o.call ≡ call.Exit) ⊎ ((own : ℕ) × (o.call ≡ call.Accept p page own)))
Loses s o p (call.Accept giver page _) = (o.pid ≡ giver)
    × ((o.call ≡ call.Exit) ⊎ ((o.call ≡ call.Unmap page) ⊎ (o.call ≡ call.Withdraw page p)))
Loses s o p _ = (child : ℕ) × (answer s o ≡ reply.Child child)

-- if an event would complete, it completes after an event of another process, or that event makes it impossible
abbrev pub OthersNeverRefuse : Type 0
OthersNeverRefuse = (s : State) (o e : Event) → IsWellFormed s → e.pid ≢ o.pid → completes (answer s e) ≡ true
    → (completes (answer (next s o) e) ≡ true) ⊎ (Loses s o e.pid e.call × (lost e.call ≡ Some (answer (next s o) e)))

-- after any events of other processes it completes, or gets that refusal
abbrev pub RunsNeverRefuse : Type 0
RunsNeverRefuse = (s : State) (others : List Event) (e : Event) → IsWellFormed s
    → All (λ (o : Event). e.pid ≢ o.pid) others → completes (answer s e) ≡ true
    → (completes (answer (end_of s others) e) ≡ true) ⊎ (lost e.call ≡ Some (answer (end_of s others) e))

-- In a run with these replies, take a call that would complete after the first k events. If the next n events are of
-- other processes, and it comes then, it completes or gets that refusal.
abbrev pub IsServed : State → List Event → List Reply → Type 0
IsServed s events replies = (k n : ℕ) (e : Event) (r : Reply) → slice_get events (k + n) ≡ Some e
    → slice_get replies (k + n) ≡ Some r → All (λ (o : Event). e.pid ≢ o.pid) (take n (drop k events))
    → completes (answer (end_of s (take k events)) e) ≡ true → (completes r ≡ true) ⊎ (lost e.call ≡ Some r)

-- each run from a well-formed state
abbrev pub RunsAreServed : Type 0
RunsAreServed = (s : State) (events : List Event) → IsWellFormed s → IsServed s events (answers s events)
