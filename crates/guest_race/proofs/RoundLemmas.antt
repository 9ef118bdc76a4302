-- A round, from what its parts came to.
use Rattle.std.proofs.Common.{◌≡◌, ◌∙◌, ℕ, zero, suc, ◌<◌, ◌≤◌, List, [], ◌∷◌, ◌++◌, length, take, drop, Option, Some, None, true, refl, sym, ap, subst, arith, take-append-drop}
use Rattle.std.specs.Prelude.{Any, Result, Ok, Err, IfOk, slice_index_or}
use Rattle.std.specs.Option.{IfNone, IfSome}
use Rattle.image_check.specs.Told.{Told}
use Rattle.std.proofs.lemmas.List.Elements.{All-weaker, recursion_from_All}
use Rattle.locked_core.specs.Makers.{Maker, maker}
use Rattle.locked_core.proofs.Prefixes.{same_entries}
use Rattle.memory_report.specs.Histories.{calls_of, entries_of}
use Rattle.memory_report.specs.declared.entries.LogEntry.{LogEntry}
use Rattle.memory_report.specs.declared.rows.Row.{Row}
use Rattle.guest_race.specs.Asked.{IsAsked, Judges}
use Rattle.guest_race.specs.Causes.{told_cause}
use Rattle.guest_race.specs.Rounds.{Audited, BothHalt, Closes, IsReported, Reports}
use Rattle.guest_race.specs.declared.faults.RoundFault.{RoundFault}

-- the number of one of two CPUs
below_two : (first second : Maker) (n : ℕ) → first.number ≡ 0 → second.number ≡ 1 → Any (λ c. c.number ≡ n) (first ∷ second ∷ []) → n < 2
below_two first second n zeroth oneth any = go any.0 any.1 any.2 any.3 any.4
  where
    go : (k : ℕ) (x : Maker) → k < 2 → slice_index_or (first ∷ second ∷ []) k x ≡ x → x.number ≡ n → n < 2
    go zero x below is has =
        let number : n ≡ 0 = sym has ∙ ap (λ (c : Maker). c.number) (sym is) ∙ zeroth in
        omega arith
    go (suc zero) x below is has =
        let number : n ≡ 1 = sym has ∙ ap (λ (c : Maker). c.number) (sym is) ∙ oneth in
        omega arith
    go (suc (suc k)) x below is has = absurd (omega arith)

-- what a closed history has of a CPU that came back
own_entries : (log : List LogEntry) (cpu : Maker) (n : ℕ) → cpu.number ≡ n → take (length cpu.seen) log ≡ cpu.seen → calls_of cpu.number log ≡ calls_of cpu.number cpu.seen → entries_of n log ≡ entries_of n cpu.seen
own_entries log cpu n number begins calls =
    subst (λ k. entries_of k log ≡ entries_of k cpu.seen) number
    (same_entries cpu.number log cpu.seen (drop (length cpu.seen) log, sym (take-append-drop (length cpu.seen) log) ∙ ap (λ l. l ++ drop (length cpu.seen) log) begins) calls)

-- an audit for a CPU speaks of its number and of what it has seen
audited_by_seen : (frames : ℕ) (cpu : Maker) → cpu.number ≡ 0 → Audited frames cpu → Audited frames (maker 0 cpu.seen)
audited_by_seen frames cpu zeroth a = (
  a.0,
  a.1,
  record { legal = a.2.legal; begins = a.2.begins; own = subst (λ k. calls_of k a.1 ≡ calls_of k cpu.seen) zeroth a.2.own; stands = a.2.stands },
  a.3,
)

round_is : (frames : ℕ) (first second : Maker) (rows : List (Option Row)) → frames ≤ 4096 → first.number ≡ 0 → second.number ≡ 1 → BothHalt (entries_of 0 first.seen) (entries_of 1 second.seen) → Reports frames first.seen second.seen rows
    → Audited frames first → Closes frames (first ∷ second ∷ []) rows → IsReported frames rows
round_is frames first second rows few zeroth oneth both reported audited closed =
    let log = closed.0 in
    let is = closed.1 in
    let begins = recursion_from_All (λ (c : Maker). take (length c.seen) log ≡ c.seen) (first ∷ second ∷ []) is.begins in
    let calls = recursion_from_All (λ (c : Maker). calls_of c.number log ≡ calls_of c.number c.seen) (first ∷ second ∷ []) is.calls in
    let of_first : entries_of 0 log ≡ entries_of 0 first.seen = own_entries log first 0 zeroth begins.0 calls.0 in
    let of_second : entries_of 1 log ≡ entries_of 1 second.seen = own_entries log second 1 oneth begins.1.0 calls.1.0 in (
      log,
      record {
        legal = is.legal;
        few = few;
        both = rw (of_first, of_second) both;
        others = All-weaker (λ e. Any (λ c. c.number ≡ e.cpu) (first ∷ second ∷ [])) (λ e. e.cpu < 2) (λ e any. below_two first second e.cpu zeroth oneth any) log is.all;
        report = is.report;
        seen_first = first.seen;
        seen_second = second.seen;
        all_first = sym of_first;
        all_second = sym of_second;
        reported = reported;
        audited = audited_by_seen frames first zeroth audited;
      },
    )

-- where no cause is told of two, there is none
no_first : (a b : Option RoundFault) → told_cause a b ≡ None → a ≡ None
no_first None b is = refl
no_first (Some x) None is = cc
no_first (Some x) (Some y) is = cc

no_second : (a b : Option RoundFault) → told_cause a b ≡ None → b ≡ None
no_second None b is = is
no_second (Some x) None is = cc
no_second (Some x) (Some y) is = cc

pub round_reports : (frames : ℕ) (first second : Maker) (played audited cause : Option RoundFault) (reported : Option (List (Option Row))) (report result : Result (List (Option Row)) RoundFault)
    → frames ≤ 4096 → IfNone played ((first.number ≡ 0) × (second.number ≡ 1)) → IfNone played (BothHalt (entries_of 0 first.seen) (entries_of 1 second.seen)) → IfSome reported (λ rows. Reports frames first.seen second.seen rows)
    → IfNone audited (Audited frames first) → cause ≡ told_cause played audited
    → IfOk report (λ rows. Closes frames (first ∷ second ∷ []) rows × (reported ≡ Some rows)) → IfOk result (λ rows. (cause ≡ None) × (report ≡ Ok rows)) → IfOk result (IsReported frames)
round_reports frames first second played audited cause reported report (Err fault) few numbers both told sound is closed judged = tt
round_reports frames first second played audited cause reported report (Ok rows) few numbers both told sound is closed judged =
    let none : told_cause played audited ≡ None = sym is ∙ judged.0 in
    let number = subst (λ (c : Option RoundFault). IfNone c ((first.number ≡ 0) × (second.number ≡ 1))) (no_first played audited none) numbers in
    let halted = subst (λ (c : Option RoundFault). IfNone c (BothHalt (entries_of 0 first.seen) (entries_of 1 second.seen))) (no_first played audited none) both in
    let found = subst (λ (c : Option RoundFault). IfNone c (Audited frames first)) (no_second played audited none) sound in
    let ends = subst (λ (r : Result (List (Option Row)) RoundFault). IfOk r (λ rows. Closes frames (first ∷ second ∷ []) rows × (reported ≡ Some rows))) judged.1 closed in
    let one = subst (λ (r : Option (List (Option Row))). IfSome r (λ rows. Reports frames first.seen second.seen rows)) ends.1 told in
    round_is frames first second rows few number.0 number.1 halted one found ends.0

-- a referee who asked in a round that was played, and whose answers are the round's
pub asked_both : {S : Type 0} (frames : ℕ) (cpus : List Maker) (asks_report : S → List (Option Row) → S → Type 0) (asks_verdict : S → Told → S → Type 0) (before between after : S)
    (played audited cause : Option RoundFault) (reported : Option (List (Option Row))) (report result : Result (List (Option Row)) RoundFault)
    → IfSome reported (λ rows. asks_report before rows between) → IfNone audited (Judges asks_verdict between true after) → cause ≡ told_cause played audited
    → IfOk report (λ rows. Closes frames cpus rows × (reported ≡ Some rows)) → IfOk result (λ rows. (cause ≡ None) × (report ≡ Ok rows))
    → IfOk result (λ rows. IsAsked asks_report asks_verdict before rows after)
asked_both frames cpus asks_report asks_verdict before between after played audited cause reported report (Err fault) told sound is closed judged = tt
asked_both frames cpus asks_report asks_verdict before between after played audited cause reported report (Ok rows) told sound is closed judged =
    let ends = subst (λ (r : Result (List (Option Row)) RoundFault). IfOk r (λ rows. Closes frames cpus rows × (reported ≡ Some rows))) judged.1 closed in
    let found = subst (λ (c : Option RoundFault). IfNone c (Judges asks_verdict between true after)) (no_second played audited (sym is ∙ judged.0)) sound in
    record {
      between = between;
      report = subst (λ (r : Option (List (Option Row))). IfSome r (λ rows. asks_report before rows between)) ends.1 told;
      verdict = found.0;
      judged_so = found.1;
      sound = sym found.2;
    }
