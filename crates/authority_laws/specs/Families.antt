-- Families of processes that keep to themselves, whatever all others do.
use Rattle.std.proofs.Common.{◌≡◌, ℕ, ◌==◌, Bool, true, List}
use Rattle.std.specs.List.{zip}
use Rattle.process_table.specs.State.{State, is_live}
use Rattle.process_table.specs.WellFormed.{IsWellFormed}
use Rattle.kernel_calls.specs.Integrity.{is_child_of}
use Rattle.authority_laws.specs.Authority.{HaveTheSame, IsConfined, KeepsWithin, Along, AskAlike, ToldAlike, heard, members_at_end}
use Rattle.kernel_calls.specs.Isolation.{exchanges}
use Rattle.kernel_calls.specs.Machine.{answer, answers, next, end_of}
use Rattle.kernel_calls.specs.declared.calls.Event.{Event}
use Rattle.kernel_calls.specs.declared.calls.Reply.{Reply}
use Rattle.kernel_calls.specs.declared.calls.Reply.TheVariants as reply

-- a confined set of live processes, with all their children
pub record IsFamily (s : State) (C : ℕ → Bool) : Type 0 where
  pub confined : IsConfined s C
  pub live : (p : ℕ) → C p ≡ true → is_live s p ≡ true
  pub children : (p q : ℕ) → C p ≡ true → is_child_of s p q ≡ true → C q ≡ true

-- In a run with these replies, a family that keeps within itself, with all children that it makes, gets the replies
-- that it gets in any other. The other run begins in a state in which the family has the same. In both it makes the
-- same calls and finds the same, whatever others do.
abbrev pub IsUnreached : State → List Event → List Reply → Type 0
IsUnreached s events replies = (t : State) (C : ℕ → Bool) (other : List Event) → IsWellFormed t
    → IsFamily s C → IsFamily t C → HaveTheSame s t C
    → Along (λ _. KeepsWithin) s C events → Along (λ _. KeepsWithin) t C other
    → ToldAlike (heard s C (zip events replies)) (heard t C (exchanges t other))

-- the law for each run from a well-formed state
abbrev pub FamiliesHearTheirOwn : Type 0
FamiliesHearTheirOwn = (s : State) (events : List Event) → IsWellFormed s → IsUnreached s events (answers s events)

-- a new child is a family by itself
abbrev pub NewbornsAreFamilies : Type 0
NewbornsAreFamilies = (s : State) (e : Event) (child : ℕ) → IsWellFormed s → answer s e ≡ reply.Child child
    → IsFamily (next s e) (λ q. q == child)

-- a family that makes the same calls and finds the same in two runs has the same at their ends
abbrev pub FamiliesEndTheSame : Type 0
FamiliesEndTheSame = (s t : State) (C : ℕ → Bool) (events other : List Event) → IsWellFormed s → IsWellFormed t
    → IsFamily s C → IsFamily t C → HaveTheSame s t C
    → Along (λ _. KeepsWithin) s C events → Along (λ _. KeepsWithin) t C other
    → AskAlike (heard s C (exchanges s events)) (heard t C (exchanges t other))
    → HaveTheSame (end_of s events) (end_of t other) (members_at_end s C events)
