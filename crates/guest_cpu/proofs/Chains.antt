-- Chains one after another, and what a core answers along one.
use Rattle.std.proofs.Common.{◌≡◌, ℕ, ◌+◌, List, [], ◌∷◌, ◌++◌, map, refl, sym, ap, ◌∙◌, subst, append_assoc, append-nil, Ok, Some, None}
use Rattle.std.proofs.Math.Numerals.{add-one}
use Rattle.std.specs.Prelude.{slice_get}
use Rattle.kernel_calls.specs.Machine.{answer, next, answers, end_of}
use Rattle.kernel_calls.specs.declared.calls.Event.{Event}
use Rattle.kernel_calls.specs.declared.calls.Reply.{Reply}
use Rattle.process_table.specs.State.{State}
use Rattle.process_table.specs.View as core
use Rattle.guest_cpu.specs.declared.instructions.Instruction.{Instruction}
use Rattle.guest_cpu.specs.Guests.{GuestView}
use Rattle.guest_cpu.specs.Ports.{Answer, Chain, none, call, IsCoreStep}
use Rattle.guest_cpu.specs.Runs.{Executes, Turns, turn}

module _ {S : Type 0} (step : S → Event → Answer → S → Type 0) where
  pub append : {s t u : S} {events made : List Event} {given more : List Answer}
      → Chain step s events given t → Chain step t made more u → Chain step s (events ++ made) (given ++ more) u
  append {s} {t} {u} {events} {made} {given} {more} first none =
      subst (λ es. Chain step s es (given ++ []) t) (sym (append-nil events)) (subst (λ rs. Chain step s events rs t) (sym (append-nil given)) first)
  append {s} {t} {u} {events} {made} {given} {more} first (call {events = es} {answers = rs} {event} {answer} so_far last) =
      subst (λ es'. Chain step s es' (given ++ (rs ++ answer ∷ [])) u) (append_assoc events es (event ∷ []))
      (subst (λ rs'. Chain step s (events ++ es ++ event ∷ []) rs' u) (append_assoc given rs (answer ∷ [])) (call (append first so_far) last))

-- one turn more
pub one_more : {program : List Instruction} {n : ℕ} {g h k : GuestView} {events made : List Event} {given more : List Answer} {instruction : Instruction}
    → Turns program n g events given h → slice_get program h.counter ≡ Some instruction → Executes instruction h made more None k
    → Turns program (n + 1) g (events ++ made) (given ++ more) k
one_more so_far there executes = rw add-one (turn so_far there executes)

-- the answers along events and one more
answers-snoc : (s : State) (events : List Event) (e : Event) → answers s (events ++ e ∷ []) ≡ answers s events ++ answer (end_of s events) e ∷ []
answers-snoc s [] e = refl
answers-snoc s (x ∷ events) e = ap (λ rest. answer s x ∷ rest) (answers-snoc (next s x) events e)

end_of-snoc : (s : State) (events : List Event) (e : Event) → end_of s (events ++ e ∷ []) ≡ next (end_of s events) e
end_of-snoc s [] e = refl
end_of-snoc s (x ∷ events) e = end_of-snoc (next s x) events e

map-snoc : (xs : List Reply) (x : Reply) → map {B = Answer} Ok (xs ++ x ∷ []) ≡ map {B = Answer} Ok xs ++ Ok x ∷ []
map-snoc [] x = refl
map-snoc (y ∷ xs) x = ap (λ rest. Ok y ∷ rest) (map-snoc xs x)

pub core_answers : {before after : core.View} {events : List Event} {given : List Answer} → Chain IsCoreStep before events given after
    → (given ≡ map Ok (answers before.state events)) × (after.state ≡ end_of before.state events)
core_answers none = (refl, refl)
core_answers {before} (call {events = events} {answers = given} {event} {answer = last_given} so_far last) =
    let before_it = core_answers so_far in (
      ap (λ s. given ++ s) (ap (λ a. a ∷ []) (last.reply ∙ ap (λ s. Ok (answer s event)) before_it.1))
          ∙ ap (λ front. front ++ Ok (answer (end_of before.state events) event) ∷ []) before_it.0
          ∙ sym (map-snoc (answers before.state events) (answer (end_of before.state events) event))
          ∙ sym (ap (map Ok) (answers-snoc before.state events event)),
      last.state ∙ ap (λ s. next s event) before_it.1 ∙ sym (end_of-snoc before.state events event),
    )
