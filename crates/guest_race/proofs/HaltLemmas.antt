-- A guest that halted on a CPU.
use Rattle.std.proofs.Common.{◌≡◌, ◌∙◌, ℕ, ◌==◌, Bool, true, false, cond, List, [], Option, Some, None, refl, sym, ap, subst}
use Rattle.std.specs.Prelude.{option_map}
use Rattle.std.specs.Option.{IfNone}
use Rattle.guest_cpu.specs.Guests.{GuestView, after, call_of, opening_guest}
use Rattle.guest_cpu.specs.Ports.{Answer}
use Rattle.guest_cpu.specs.Runs.{Executes, moves, asks, halts, Turns, none, turn, IsRun, leaves, ends, HasRun}
use Rattle.guest_cpu.specs.declared.instructions.Instruction.{Instruction}
use Rattle.guest_cpu.specs.declared.instructions.Instruction.TheVariants.{Set, Add, Load, Store, JumpEq, Jump, Sys, Halt}
use Rattle.guest_cpu.specs.declared.runs.End.{End}
use Rattle.guest_cpu.specs.declared.runs.End.TheVariants as end
use Rattle.kernel_calls.specs.declared.calls.Call.{Call}
use Rattle.kernel_calls.specs.declared.calls.Event.{Event}
use Rattle.locked_core.specs.Makers.{Maker}
use Rattle.locked_core.specs.Names.{Names}
use Rattle.locked_core.specs.Ports.{IsCpuStep}
use Rattle.memory_report.specs.Histories.{entries_of}
use Rattle.guest_race.specs.Causes.{cause_of}
use Rattle.guest_race.specs.Programs.{race_program, turns}
use Rattle.guest_race.specs.Rounds.{Halts}
use Rattle.guest_race.specs.declared.faults.RoundFault.{RoundFault}
use Rattle.guest_race.specs.declared.faults.RoundFault.TheVariants.{NoMemory, Failed}
use Rattle.guest_race.proofs.GrowthLemmas.{AllBy, AllReplies, by_both, replies_both, grown}

after_cpu : (g : GuestView) (instruction : Instruction) (given : ℕ) → (after g instruction given).cpu ≡ g.cpu
after_cpu g (Set to value) given = refl
after_cpu g (Add to a b) given = refl
after_cpu g (Load size to address) given = refl
after_cpu g (Store size address value) given = refl
after_cpu g (JumpEq a b target) given = refl
after_cpu g (Jump target) given = refl
after_cpu g (Sys to c) given = refl
after_cpu g Halt given = refl

-- the event of an instruction is of the guest's CPU
event_cpu : (g : GuestView) (asked : Option Call) (event : Event) → option_map (λ c. record { cpu = g.cpu; pid = g.pid; call = c }) asked ≡ Some event → event.cpu ≡ g.cpu
event_cpu g None event is = cc
event_cpu g (Some c) event is =
    let same : record { cpu = g.cpu; pid = g.pid; call = c } ≡ event = cc in
    sym (ap (λ (e : Event). e.cpu) same)

abbrev Moved : GuestView → GuestView → List Event → List Answer → Type 0
Moved g h events answers = (h.cpu ≡ g.cpu) × AllBy g.cpu events × AllReplies answers

executed : {instruction : Instruction} {g h : GuestView} {events : List Event} {answers : List Answer} → Executes instruction g events answers None h → Moved g h events answers
executed {instruction} {g} (moves not asks_nothing) = (after_cpu g instruction 0, tt, tt)
executed {instruction} {g} (asks {event = event} {value = value} is gives) = (after_cpu g instruction value, (event_cpu g (call_of g instruction) event is, tt), (tt, tt))

turned : {program : List Instruction} {n : ℕ} {g h : GuestView} {events : List Event} {answers : List Answer} → Turns program n g events answers h → Moved g h events answers
turned none = (refl, tt, tt)
turned (turn {g = g} {h = h} {k = k} {events = events} {made = made} {answers = answers} {given = given} before at step) =
    let first = turned before in
    let last = executed step in
    (last.0 ∙ first.0, by_both g.cpu events made first.1 (subst (λ n. AllBy n made) first.0 last.1), replies_both answers given first.2 last.2)

halted : {program : List Instruction} {n : ℕ} {g h : GuestView} {events : List Event} {answers : List Answer} → IsRun program n g answers events end.Halted h → AllBy g.cpu events × AllReplies answers
halted (leaves before within outside) = ((turned before).1, (turned before).2)
halted {g = g} (ends {events = events} {answers = answers} before within at (halts is)) =
    (by_both g.cpu events [] (turned before).1 tt, replies_both answers [] (turned before).2 tt)

-- a guest of the process and CPU of one number: where it halted, the CPU has its calls, and no cause is told
abbrev pub Left : ℕ → Maker → Maker → Type 0
Left n start last = (last.number ≡ n) × Halts n (entries_of n start.seen) (entries_of n last.seen)

guest_halts : (frames : ℕ) (book : Names) (n : ℕ) (start last : Maker) (guest : GuestView) → start.number ≡ n → HasRun (IsCpuStep frames book) (race_program n) turns (opening_guest start.number n) start end.Halted guest last → Left n start last
guest_halts frames book n start last guest number ran =
    let run : IsRun (race_program n) turns (opening_guest n n) ran.answers ran.events end.Halted guest = subst (λ k. IsRun (race_program n) turns (opening_guest k n) ran.answers ran.events end.Halted guest) number ran.run in
    let facts = halted run in
    let more = grown frames book n ran.chain number facts.0 facts.1 in (
      more.number,
      record {
        made = more.made;
        guest = guest;
        own = more.own;
        run = rw (more.events_are, more.answers_are) run;
      },
    )

pub halts_or_not : (frames : ℕ) (book : Names) (n : ℕ) (start last : Maker) (guest : GuestView) (e : End) (cause : Option RoundFault) → cause ≡ cause_of e → start.number ≡ n
    → HasRun (IsCpuStep frames book) (race_program n) turns (opening_guest start.number n) start e guest last → IfNone cause (Left n start last)
halts_or_not frames book n start last guest e cause is number ran = rw is (go e ran)
  where
    go : (e : End) → HasRun (IsCpuStep frames book) (race_program n) turns (opening_guest start.number n) start e guest last → IfNone (cause_of e) (Left n start last)
    go end.Halted ran = guest_halts frames book n start last guest number ran
    go end.OutOfTurns ran = tt
    go (end.Stopped reply) ran = tt
    go (end.PortFault fault) ran = by_number (fault == 1)
      where
        by_number : (b : Bool) → IfNone (cond b (Some NoMemory) (Some Failed)) (Left n start last)
        by_number true = tt
        by_number false = tt
