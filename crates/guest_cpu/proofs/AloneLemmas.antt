-- A guest over a core ends in one way, and a guest that involves nobody ends as it would alone.
use Rattle.std.proofs.Common.{◌≡◌, ℕ, zero, suc, Bool, true, false, List, [], ◌∷◌, ◌++◌, refl, sym, ap, ◌∙◌, subst, Option, Some, None, Ok}
use Rattle.std.proofs.lemmas.Option.{same_Some}
use Rattle.std.specs.Prelude.{map, slice_get}
use Rattle.std.specs.Option.{option_map}
use Rattle.kernel_calls.specs.Isolation.{Exchange, InvolvesNobody, events_in, calls_of, replies_of, quota_asked, pages_given}
use Rattle.kernel_calls.specs.Machine.{answer, answers, next, end_of}
use Rattle.kernel_calls.specs.declared.calls.Call.{Call}
use Rattle.kernel_calls.specs.declared.calls.Event.{Event}
use Rattle.kernel_calls.specs.declared.calls.Reply.{Reply}
use Rattle.kernel_calls.proofs.Isolated.{runs_isolated}
use Rattle.process_table.specs.Apart.{alone_with}
use Rattle.process_table.specs.State.{State}
use Rattle.guest_cpu.specs.declared.instructions.Instruction.{Instruction}
use Rattle.guest_cpu.specs.declared.instructions.Instruction.TheVariants.{Set, Add, Load, Store, JumpEq, Jump, Sys, Halt}
use Rattle.guest_cpu.specs.declared.runs.End.{End}
use Rattle.guest_cpu.specs.declared.runs.End.TheVariants as end
use Rattle.guest_cpu.specs.Guests.{GuestView, event_asked, value_of, after}
use Rattle.guest_cpu.specs.Laws.{GuestsAreIsolated, alone}
use Rattle.guest_cpu.specs.Laws as laws
use Rattle.guest_cpu.specs.Ports.{Answer}
use Rattle.guest_cpu.specs.Runs.{Executes, halts, moves, asks, stops, fails, Turns, none, turn, IsRun, leaves, runs_out, ends}
use Rattle.guest_cpu.proofs.Chains.{core_answers}
use Rattle.guest_cpu.proofs.RunLemmas.{Outcome, in_front, is_last, replied, answered, quiet, acted, stepped, stood, follow, followed}

-- ---- What a core makes of a guest

-- events, the end and the guest afterwards
abbrev Made : Type 0
Made = List Event × (End × GuestView)

abbrev behind : List Event → Made → Made
behind events made = (events ++ made.0, made.1)

abbrev told : List Event → State → List Answer
told events s = map Ok (answers s events)

-- What a turn makes of a guest over a core in a state, where `go` is what the turns after it make of theirs.
module _ (go : GuestView → State → Made) where
  abbrev by_value : Instruction → GuestView → Event → State → Option ℕ → Made
  by_value instruction g event s None = (event ∷ [], (end.Stopped (answer s event), g))
  by_value instruction g event s (Some value) = behind (event ∷ []) (go (after g instruction value) (next s event))

  abbrev by_last : Instruction → GuestView → State → Bool → Made
  by_last instruction g s true = ([], (end.Halted, g))
  by_last instruction g s false = go (after g instruction 0) s

  abbrev by_event : Instruction → GuestView → State → Option Event → Made
  by_event instruction g s None = by_last instruction g s (is_last instruction)
  by_event instruction g s (Some event) = by_value instruction g event s (value_of (answer s event))

  abbrev by_place : GuestView → State → Option Instruction → Made
  by_place g s None = ([], (end.Halted, g))
  by_place g s (Some instruction) = by_event instruction g s (event_asked g instruction)

abbrev at_end : GuestView → Option Instruction → Made
at_end g None = ([], (end.Halted, g))
at_end g (Some instruction) = ([], (end.OutOfTurns, g))

-- what so many turns make of a guest over a core
over_core : List Instruction → ℕ → GuestView → State → Made
over_core program zero g s = at_end g (slice_get program g.counter)
over_core program (suc turns) g s = by_place (λ h t. over_core program turns h t) g s (slice_get program g.counter)

-- ---- It is what the core's own answers make of the guest

first_of : Event → List Event → Event
first_of d [] = d
first_of d (x ∷ xs) = x

rest_of : List Event → List Event
rest_of [] = []
rest_of (x ∷ xs) = xs

nothing : {X : Type 0} (x : X) → None ≡ Some x → ⊥
nothing x is = cc

module _ (rest : GuestView → List Answer → Outcome) (go : GuestView → State → Made)
    (same : (h : GuestView) (t : State) (es : List Event) (r : End × GuestView) → rest h (told es t) ≡ Some (es, r) → (es, r) ≡ go h t) where
  -- the first event of what is made is the one that was asked
  first_is : (instruction : Instruction) (g : GuestView) (event x : Event) (es : List Event) (r : End × GuestView) (reply : Reply) (more : List Answer) (value : Option ℕ)
      → replied rest instruction g event reply more value ≡ Some (x ∷ es, r) → event ≡ x
  unfolding first_of
  first_is instruction g event x es r reply more None is = ap (λ (m : Made). first_of event m.0) (same_Some (event ∷ [], (end.Stopped reply, g)) (x ∷ es, r) is)
  first_is instruction g event x es r reply more (Some value) is = by (rest (after g instruction value) more) is
    where
      by : (o : Outcome) → in_front (event ∷ []) o ≡ Some (x ∷ es, r) → event ≡ x
      by None not = absurd (nothing (x ∷ es, r) not)
      by (Some m) so = ap (λ (k : Made). first_of event k.0) (same_Some (event ∷ m.0, m.1) (x ∷ es, r) so)

  value_is : (instruction : Instruction) (g : GuestView) (event : Event) (s : State) (es : List Event) (r : End × GuestView) (value : Option ℕ)
      → replied rest instruction g event (answer s event) (told es (next s event)) value ≡ Some (event ∷ es, r) → (event ∷ es, r) ≡ by_value go instruction g event s value
  unfolding rest_of
  value_is instruction g event s es r None is = sym (same_Some (event ∷ [], (end.Stopped (answer s event), g)) (event ∷ es, r) is)
  value_is instruction g event s es r (Some value) is = by (rest (after g instruction value) (told es (next s event))) refl is
    where
      by : (o : Outcome) → rest (after g instruction value) (told es (next s event)) ≡ o → in_front (event ∷ []) o ≡ Some (event ∷ es, r)
          → (event ∷ es, r) ≡ behind (event ∷ []) (go (after g instruction value) (next s event))
      by None at not = absurd (nothing (event ∷ es, r) not)
      by (Some m) at so =
          let made : m ≡ (es, r) = ap (λ (k : Made). (rest_of k.0, k.1)) (same_Some (event ∷ m.0, m.1) (event ∷ es, r) so) in
          ap (behind (event ∷ [])) (same (after g instruction value) (next s event) es r (at ∙ ap Some made))

  event_is : (instruction : Instruction) (g : GuestView) (event : Event) (s : State) (events : List Event) (r : End × GuestView)
      → answered rest instruction g event (told events s) ≡ Some (events, r) → (events, r) ≡ by_value go instruction g event s (value_of (answer s event))
  event_is instruction g event s [] r is = absurd (nothing ([], r) is)
  event_is instruction g event s (x ∷ es) r is =
      subst (λ (y : Event). replied rest instruction g event (answer s y) (told es (next s y)) (value_of (answer s y)) ≡ Some (y ∷ es, r) → (y ∷ es, r) ≡ by_value go instruction g event s (value_of (answer s event)))
      (first_is instruction g event x es r (answer s x) (told es (next s x)) (value_of (answer s x)) is)
      (value_is instruction g event s es r (value_of (answer s event))) is

  last_is : (instruction : Instruction) (g : GuestView) (s : State) (events : List Event) (r : End × GuestView) (b : Bool)
      → quiet rest instruction g (told events s) b ≡ Some (events, r) → (events, r) ≡ by_last go instruction g s b
  last_is instruction g s events r true is = sym (same_Some ([], (end.Halted, g)) (events, r) is)
  last_is instruction g s events r false is = same (after g instruction 0) s events r is

  acted_is : (instruction : Instruction) (g : GuestView) (s : State) (events : List Event) (r : End × GuestView) (event : Option Event)
      → acted rest instruction g (told events s) event ≡ Some (events, r) → (events, r) ≡ by_event go instruction g s event
  acted_is instruction g s events r None is = last_is instruction g s events r (is_last instruction) is
  acted_is instruction g s events r (Some event) is = event_is instruction g event s events r is

  place_is : (g : GuestView) (s : State) (events : List Event) (r : End × GuestView) (at : Option Instruction)
      → stepped rest g (told events s) at ≡ Some (events, r) → (events, r) ≡ by_place go g s at
  place_is g s events r None is = sym (same_Some ([], (end.Halted, g)) (events, r) is)
  place_is g s events r (Some instruction) is = acted_is instruction g s events r (event_asked g instruction) is

stood_is : (g : GuestView) (events : List Event) (r : End × GuestView) (at : Option Instruction) → stood g at ≡ Some (events, r) → (events, r) ≡ at_end g at
stood_is g events r None is = sym (same_Some ([], (end.Halted, g)) (events, r) is)
stood_is g events r (Some instruction) is = sym (same_Some ([], (end.OutOfTurns, g)) (events, r) is)

core_follows : (program : List Instruction) (turns : ℕ) (g : GuestView) (s : State) (events : List Event) (r : End × GuestView)
    → follow program turns g (told events s) ≡ Some (events, r) → (events, r) ≡ over_core program turns g s
unfolding follow over_core
core_follows program zero g s events r is = stood_is g events r (slice_get program g.counter) is
core_follows program (suc turns) g s events r is =
    place_is (λ h more. follow program turns h more) (λ h t. over_core program turns h t) (λ h t es q. core_follows program turns h t es q) g s events r (slice_get program g.counter) is

-- ---- A guest as one of process 1 on CPU 0

abbrev moved : Event → Event
moved event = record { cpu = 0; pid = 1; call = event.call }

event_alone : (g : GuestView) (instruction : Instruction) → event_asked (alone g) instruction ≡ option_map moved (event_asked g instruction)
event_alone g (Set to value) = refl
event_alone g (Add to a b) = refl
event_alone g (Load size to address) = refl
event_alone g (Store size address value) = refl
event_alone g (JumpEq a b target) = refl
event_alone g (Jump target) = refl
event_alone g (Sys to call) = refl
event_alone g Halt = refl

after_alone : (g : GuestView) (instruction : Instruction) (given : ℕ) → after (alone g) instruction given ≡ alone (after g instruction given)
after_alone g (Set to value) given = refl
after_alone g (Add to a b) given = refl
after_alone g (Load size to address) given = refl
after_alone g (Store size address value) given = refl
after_alone g (JumpEq a b target) given = refl
after_alone g (Jump target) given = refl
after_alone g (Sys to call) given = refl
after_alone g Halt given = refl

executes_alone : {instruction : Instruction} {g h : GuestView} {made : List Event} {given : List Answer} {e : Option End} → Executes instruction g made given e h
    → Executes instruction (alone g) (map moved made) given e (alone h)
executes_alone (halts is_halt) = halts is_halt
executes_alone {instruction} {g} (moves other no_event) =
    subst (Executes instruction (alone g) [] [] None) (after_alone g instruction 0) (moves other (event_alone g instruction ∙ ap (option_map moved) no_event))
executes_alone {instruction} {g} (asks {event = event} {reply = reply} {value = value} is_event is_value) =
    subst (Executes instruction (alone g) (moved event ∷ []) (Ok reply ∷ []) None) (after_alone g instruction value) (asks (event_alone g instruction ∙ ap (option_map moved) is_event) is_value)
executes_alone {instruction} {g} (stops is_event no_value) = stops (event_alone g instruction ∙ ap (option_map moved) is_event) no_value
executes_alone {instruction} {g} (fails is_event) = fails (event_alone g instruction ∙ ap (option_map moved) is_event)

moved-append : (xs ys : List Event) → map moved (xs ++ ys) ≡ map moved xs ++ map moved ys
moved-append [] ys = refl
moved-append (x ∷ xs) ys = ap (λ l. moved x ∷ l) (moved-append xs ys)

turns_alone : {program : List Instruction} {n : ℕ} {g h : GuestView} {events : List Event} {given : List Answer} → Turns program n g events given h → Turns program n (alone g) (map moved events) given (alone h)
turns_alone none = none
turns_alone {program} {g} {h = k} (turn {n = n} {events = events} {made = made} {answers = answers} {given = given} so_far there executes) =
    subst (λ es. Turns program (suc n) (alone g) es (answers ++ given) (alone k)) (sym (moved-append events made)) (turn (turns_alone so_far) there (executes_alone executes))

run_alone : {program : List Instruction} {turns : ℕ} {g h : GuestView} {given : List Answer} {events : List Event} {e : End} → IsRun program turns g given events e h
    → IsRun program turns (alone g) given (map moved events) e (alone h)
run_alone (leaves so_far within outside) = leaves (turns_alone so_far) within outside
run_alone (runs_out so_far there) = runs_out (turns_alone so_far) there
run_alone {program} {turns} {g} {h = k} {e = e} (ends {events = events} {made = made} {answers = answers} {given = given} so_far within there executes) =
    subst (λ es. IsRun program turns (alone g) (answers ++ given) es e (alone k)) (sym (moved-append events made)) (ends (turns_alone so_far) within there (executes_alone executes))

-- ---- A part's replies, alone

abbrev alone_event : Call → Event
alone_event c = record { cpu = 0; pid = 1; call = c }

first_reply : Reply → List Reply → Reply
first_reply d [] = d
first_reply d (x ∷ xs) = x

later_replies : List Reply → List Reply
later_replies [] = []
later_replies (x ∷ xs) = xs

-- what is told of a whole part is told of its beginning
begins : (s : State) (mine rest : List Exchange) → replies_of (mine ++ rest) ≡ answers s (map alone_event (calls_of (mine ++ rest))) → replies_of mine ≡ answers s (map alone_event (calls_of mine))
unfolding first_reply later_replies
begins s [] rest is = refl
begins s (x ∷ mine) rest is =
    let head = ap (first_reply x.1) is in
    let tail = begins (next s (alone_event x.0.call)) mine rest (ap later_replies is) in
    λ i. head i ∷ tail i

answered_is : (part : List Exchange) → laws.answered part ≡ map Ok (replies_of part)
answered_is [] = refl
answered_is (x ∷ part) = ap (λ l. Ok x.1 ∷ l) (answered_is part)

asked_is : (part : List Exchange) → map moved (events_in part) ≡ map alone_event (calls_of part)
asked_is [] = refl
asked_is (x ∷ part) = ap (λ l. alone_event x.0.call ∷ l) (asked_is part)

pub guests_isolated : GuestsAreIsolated
guests_isolated s events before later mine rest e p well is part quiet program turns g h stop ran start finish last stop_alone root state other =
    let here : State = alone_with root (quota_asked e.call) (pages_given (end_of s (events_in before)) e.pid e.call) in
    let calls : List Event = map alone_event (calls_of mine) in
    let all = runs_isolated s events well before later e p is (subst InvolvesNobody (sym part) quiet) root in
    let told_alone : replies_of mine ≡ answers here calls = begins here mine rest (subst (λ xs. replies_of xs ≡ answers here (map alone_event (calls_of xs))) part all) in
    let first : IsRun program turns (alone g) (told calls here) calls stop (alone h) =
    subst (λ es. IsRun program turns (alone g) (told calls here) es stop (alone h)) (asked_is mine)
    (subst (λ rs. IsRun program turns (alone g) rs (map moved (events_in mine)) stop (alone h)) (answered_is mine ∙ ap (map Ok) told_alone) (run_alone ran)) in
    let answers_are : other.answers ≡ told other.events here = (core_answers other.chain).0 ∙ ap (told other.events) state in
    let second : IsRun program turns (alone g) (told other.events here) other.events stop_alone last =
    subst (λ rs. IsRun program turns (alone g) rs other.events stop_alone last) answers_are other.run in
    let one = core_follows program turns (alone g) here calls (stop, alone h) (followed first) in
    let two = core_follows program turns (alone g) here other.events (stop_alone, last) (followed second) in
    let same : (other.events, (stop_alone, last)) ≡ (calls, (stop, alone h)) = two ∙ sym one in
    (ap (λ (m : Made). m.1.0) same, ap (λ (m : Made). m.1.1) same)
