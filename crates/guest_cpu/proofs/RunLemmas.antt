-- Runs one after another, and that the port's answers determine a run.
use Rattle.std.proofs.Common.{◌≡◌, ◌≢◌, ℕ, suc, ◌+◌, ◌-◌, Bool, true, false, List, [], ◌∷◌, ◌++◌, refl, sym, ap, ◌∙◌, subst, append_assoc, append-nil, zero, zero-add, add-zero, Option, Some, None, Ok, Err, arith}
use Rattle.std.proofs.lemmas.Option.{same_Some}
use Rattle.std.specs.Prelude.{slice_get}
use Rattle.std.specs.Option.{option_map}
use Rattle.kernel_calls.specs.declared.calls.Event.{Event}
use Rattle.kernel_calls.specs.declared.calls.Reply.{Reply}
use Rattle.guest_cpu.specs.declared.instructions.Instruction.{Instruction}
use Rattle.guest_cpu.specs.declared.instructions.Instruction.TheVariants.{Halt}
use Rattle.guest_cpu.specs.declared.runs.End.{End}
use Rattle.guest_cpu.specs.declared.runs.End.TheVariants as end
use Rattle.guest_cpu.specs.Guests.{GuestView, event_asked, value_of, after}
use Rattle.guest_cpu.specs.Ports.{Answer}
use Rattle.guest_cpu.specs.Runs.{Executes, halts, moves, asks, stops, fails, Turns, none, turn, IsRun, leaves, runs_out, ends}

-- ---- One run after another

-- no instruction ends a run for want of turns
never_out_of_turns : {instruction : Instruction} {g h : GuestView} {made : List Event} {given : List Answer} → Executes instruction g made given (Some end.OutOfTurns) h → ⊥
never_out_of_turns executes = elim executes [ ]

-- a run that ended so made all its turns
spent : {program : List Instruction} {turns : ℕ} {g h : GuestView} {events : List Event} {given : List Answer}
    → IsRun program turns g given events end.OutOfTurns h → Turns program turns g events given h
spent (runs_out so_far there) = so_far
spent (ends so_far within there executes) = absurd (never_out_of_turns executes)

-- turns after turns
turns_on : {program : List Instruction} {m n : ℕ} {g h k : GuestView} {events made : List Event} {given more : List Answer}
    → Turns program m g events given h → Turns program n h made more k → Turns program (m + n) g (events ++ made) (given ++ more) k
turns_on {program} {m} {g} {h} {events} {given} first none =
    subst (λ n. Turns program n g (events ++ []) (given ++ []) h) (omega arith)
    (subst (λ es. Turns program m g es (given ++ []) h) (sym (append-nil events))
    (subst (λ rs. Turns program m g events rs h) (sym (append-nil given)) first))
turns_on {program} {m} {g} {k} {events} {given} first (turn {n = n} {events = es} {made = made} {answers = rs} {given = more} so_far there executes) =
    subst (λ t. Turns program t g (events ++ (es ++ made)) (given ++ (rs ++ more)) k) (omega arith)
    (subst (λ es'. Turns program (suc (m + n)) g es' (given ++ (rs ++ more)) k) (append_assoc events es made)
    (subst (λ rs'. Turns program (suc (m + n)) g (events ++ es ++ made) rs' k) (append_assoc given rs more) (turn (turns_on first so_far) there executes)))

-- a run after turns
run_on : {program : List Instruction} {m n : ℕ} {g h k : GuestView} {given more : List Answer} {events made : List Event} {e : End}
    → Turns program m g events given h → IsRun program n h more made e k → IsRun program (m + n) g (given ++ more) (events ++ made) e k
run_on first (leaves so_far within outside) = leaves (turns_on first so_far) (omega (arith, within)) outside
run_on first (runs_out so_far there) = runs_out (turns_on first so_far) there
run_on {program} {m} {n} {g} {k} {given} {events} {e} first (ends {n = before} {events = es} {made = made} {answers = rs} {given = more} so_far within there executes) =
    subst (λ es'. IsRun program (m + n) g (given ++ (rs ++ more)) es' e k) (append_assoc events es made)
    (subst (λ rs'. IsRun program (m + n) g rs' (events ++ es ++ made) e k) (append_assoc given rs more)
    (ends (turns_on first so_far) (omega (arith, within)) there executes))

pub goes_on : {program : List Instruction} {m n : ℕ} {g h k : GuestView} {given more : List Answer} {events made : List Event} {e : End}
    → IsRun program m g given events end.OutOfTurns h → IsRun program n h more made e k → IsRun program (m + n) g (given ++ more) (events ++ made) e k
goes_on first second = run_on (spent first) second

-- ---- What the answers make of a guest

-- events, the end and the guest afterwards; none where an answer is missing
abbrev pub Outcome : Type 0
Outcome = Option (List Event × (End × GuestView))

-- those events before what follows
abbrev pub in_front : List Event → Outcome → Outcome
in_front events outcome = option_map (λ p. (events ++ p.0, p.1)) outcome

abbrev pub is_last : Instruction → Bool
is_last Halt = true
is_last _ = false

-- What a turn makes of a guest and the answers, where `rest` is what the turns after it make of theirs. Each of these
-- decides by its last argument: the value of the reply, the next answer, whether the run ends here with no call, the
-- event of the instruction, the instruction at the counter.
module _ (rest : GuestView → List Answer → Outcome) where
  abbrev pub replied : Instruction → GuestView → Event → Reply → List Answer → Option ℕ → Outcome
  replied instruction g event reply more None = Some (event ∷ [], (end.Stopped reply, g))
  replied instruction g event reply more (Some value) = in_front (event ∷ []) (rest (after g instruction value) more)

  abbrev pub answered : Instruction → GuestView → Event → List Answer → Outcome
  answered instruction g event [] = None
  answered instruction g event (Ok reply ∷ more) = replied instruction g event reply more (value_of reply)
  answered instruction g event (Err fault ∷ more) = Some (event ∷ [], (end.PortFault fault, g))

  abbrev pub quiet : Instruction → GuestView → List Answer → Bool → Outcome
  quiet instruction g given true = Some ([], (end.Halted, g))
  quiet instruction g given false = rest (after g instruction 0) given

  abbrev pub acted : Instruction → GuestView → List Answer → Option Event → Outcome
  acted instruction g given None = quiet instruction g given (is_last instruction)
  acted instruction g given (Some event) = answered instruction g event given

  abbrev pub stepped : GuestView → List Answer → Option Instruction → Outcome
  stepped g given None = Some ([], (end.Halted, g))
  stepped g given (Some instruction) = acted instruction g given (event_asked g instruction)

-- what is made where no turn is left
abbrev pub stood : GuestView → Option Instruction → Outcome
stood g None = Some ([], (end.Halted, g))
stood g (Some instruction) = Some ([], (end.OutOfTurns, g))

-- what so many turns make, the first turn first
unfoldable pub follow : List Instruction → ℕ → GuestView → List Answer → Outcome
follow program zero g given = stood g (slice_get program g.counter)
follow program (suc turns) g given = stepped (λ h more. follow program turns h more) g given (slice_get program g.counter)

in_front-nil : (outcome : Outcome) → in_front [] outcome ≡ outcome
in_front-nil None = refl
in_front-nil (Some p) = refl

in_front-append : (events made : List Event) (outcome : Outcome) → in_front events (in_front made outcome) ≡ in_front (events ++ made) outcome
in_front-append events made None = refl
in_front-append events made (Some p) = ap (λ es. Some (es, p.1)) (sym (append_assoc events made p.0))

others_go_on : (instruction : Instruction) → instruction ≢ Halt → is_last instruction ≡ false
others_go_on Halt other = absurd (other refl)
others_go_on _ other = refl

-- a turn by an instruction that the run goes on after, and by one that ends it
module _ (rest : GuestView → List Answer → Outcome) where
  goes_by : {instruction : Instruction} {g h : GuestView} {made : List Event} {given : List Answer} → Executes instruction g made given None h
      → (more : List Answer) → acted rest instruction g (given ++ more) (event_asked g instruction) ≡ in_front made (rest h more)
  goes_by {instruction} {g} (moves other no_event) more =
      ap (acted rest instruction g more) no_event ∙ ap (quiet rest instruction g more) (others_go_on instruction other)
      ∙ sym (in_front-nil (rest (after g instruction 0) more))
  goes_by {instruction} {g} (asks {event = event} {reply = reply} {value = value} is_event is_value) more =
      ap (acted rest instruction g (Ok reply ∷ more)) is_event ∙ ap (replied rest instruction g event reply more) is_value

  ends_by : {instruction : Instruction} {g h : GuestView} {made : List Event} {given : List Answer} {e : End} → Executes instruction g made given (Some e) h
      → (more : List Answer) → acted rest instruction g (given ++ more) (event_asked g instruction) ≡ Some (made, (e, h))
  ends_by {g} (halts is_halt) more = ap (λ i. acted rest i g more (event_asked g i)) is_halt
  ends_by {instruction} {g} (stops {event = event} {reply = reply} is_event no_value) more =
      ap (acted rest instruction g (Ok reply ∷ more)) is_event ∙ ap (replied rest instruction g event reply more) no_value
  ends_by {instruction} {g} (fails {event = event} {fault = fault} is_event) more = ap (acted rest instruction g (Err fault ∷ more)) is_event

-- turns, and what follows them
follows : {program : List Instruction} {n : ℕ} {g h : GuestView} {events : List Event} {given : List Answer} → Turns program n g events given h
    → (m : ℕ) (more : List Answer) → follow program (n + m) g (given ++ more) ≡ in_front events (follow program m h more)
unfolding follow
follows {program} {g} none m more = ap (λ t. follow program t g more) (zero-add m) ∙ sym (in_front-nil (follow program m g more))
follows {program} {g} {h = k}
    (turn {n = n} {h = h} {events = events} {made = made} {answers = answers} {given = given} {instruction = instruction} so_far there executes) m more =
    let one_later : suc n + m ≡ n + suc m = omega arith in
    ap (λ t. follow program t g (answers ++ given ++ more)) one_later
    ∙ ap (follow program (n + suc m) g) (append_assoc answers given more)
    ∙ follows so_far (suc m) (given ++ more)
    ∙ ap (λ i. in_front events (stepped (follow program m) h (given ++ more) i)) there
    ∙ ap (in_front events) (goes_by (follow program m) executes more)
    ∙ in_front-append events made (follow program m k more)

-- a counter outside the program
follow_outside : (program : List Instruction) (turns : ℕ) (g : GuestView) → slice_get program g.counter ≡ None
    → follow program turns g [] ≡ Some ([], (end.Halted, g))
unfolding follow
follow_outside program zero g outside = ap (stood g) outside
follow_outside program (suc turns) g outside = ap (stepped (follow program turns) g []) outside

-- a run is what its answers make of the guest
pub followed : {program : List Instruction} {turns : ℕ} {g h : GuestView} {given : List Answer} {events : List Event} {e : End} → IsRun program turns g given events e h
    → follow program turns g given ≡ Some (events, (e, h))
unfolding follow
followed {program} {turns} {g} {h} {given} {events} (leaves {n = n} so_far within outside) =
    let left : turns ≡ n + (turns - n) = omega (arith, within) in
    ap (λ t. follow program t g given) left
    ∙ ap (follow program (n + (turns - n)) g) (sym (append-nil given))
    ∙ follows so_far (turns - n) []
    ∙ ap (in_front events) (follow_outside program (turns - n) h outside)
    ∙ ap (λ es. Some (es, (end.Halted, h))) (append-nil events)
followed {program} {turns} {g} {h} {given} {events} (runs_out so_far there) =
    ap (λ t. follow program t g given) (sym (add-zero turns))
    ∙ ap (follow program (turns + 0) g) (sym (append-nil given))
    ∙ follows so_far 0 []
    ∙ ap (λ i. in_front events (stood h i)) there
    ∙ ap (λ es. Some (es, (end.OutOfTurns, h))) (append-nil events)
followed {program} {turns} {g} {e}
    (ends {n = n} {h = h} {k = k} {events = events} {made = made} {answers = answers} {given = given} {instruction = instruction} so_far within there executes) =
    let left : turns ≡ n + suc (turns - n - 1) = omega (arith, within) in
    ap (λ t. follow program t g (answers ++ given)) left
    ∙ ap (λ rs. follow program (n + suc (turns - n - 1)) g (answers ++ rs)) (sym (append-nil given))
    ∙ follows so_far (suc (turns - n - 1)) (given ++ [])
    ∙ ap (λ i. in_front events (stepped (follow program (turns - n - 1)) h (given ++ []) i)) there
    ∙ ap (in_front events) (ends_by (follow program (turns - n - 1)) executes [])

pub determined : {program : List Instruction} {turns : ℕ} {g h k : GuestView} {given : List Answer} {events made : List Event} {e f : End}
    → IsRun program turns g given events e h → IsRun program turns g given made f k → (events ≡ made) × (e ≡ f) × (h ≡ k)
determined {h} {k} {events} {made} {e} {f} first second =
    let same = same_Some (events, (e, h)) (made, (f, k)) (sym (followed first) ∙ followed second) in
    (ap (λ p. p.0) same, ap (λ p. p.1.0) same, ap (λ p. p.1.1) same)
