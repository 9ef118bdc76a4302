-- The replies of a process in a legal history.
use Rattle.std.proofs.Common.{◌≡◌, ℕ, ◌+◌, List, [], ◌∷◌, ◌++◌, length, drop, suc, refl, sym, ap, subst, ◌∙◌, arith, add-one}
use Rattle.std.specs.List.{zip}
use Rattle.kernel_calls.specs.Isolation.{exchanges, own, own_behind, InvolvesNobody, IsIsolated}
use Rattle.kernel_calls.specs.Machine.{answer}
use Rattle.kernel_calls.specs.declared.calls.Reply.TheVariants.{Child}
use Rattle.kernel_calls.proofs.Isolated.{runs_isolated, others_make_no_difference}
use Rattle.kernel_calls.proofs.Runs.{runs-stay}
use Rattle.memory_report.proofs.HistoryLemmas.{events-append, begins_legal, last_reply}
use Rattle.memory_report.specs.Histories.{event_of, events_of, replies_of, exchanges_of, state_after, Legal}
use Rattle.memory_report.specs.Laws.{HistoriesAreIsolated, OthersMakeNoDifference}
use Rattle.memory_report.specs.declared.entries.LogEntry.{LogEntry}
use Rattle.process_table.specs.State.{State, open_with}
use Rattle.process_table.specs.WellFormed.{IsWellFormed}

pub opens_well : (frames : ℕ) (log : List LogEntry) → Legal frames log → IsWellFormed (open_with frames)
opens_well frames log h = let low = h.size.0 in (runs-stay frames [] (omega arith)).0

pub histories_isolated : HistoriesAreIsolated
histories_isolated frames log h =
    subst (IsIsolated (open_with frames) (events_of log)) (sym h.replies) (runs_isolated (open_with frames) (events_of log) (opens_well frames log h))

-- a history's entries are its run's events with its replies
zipped : (log : List LogEntry) → zip (events_of log) (replies_of log) ≡ exchanges_of log
zipped [] = refl
zipped (e ∷ log) = ap (λ rest. (event_of e, e.reply) ∷ rest) (zipped log)

drop_past : (before : List LogEntry) (e : LogEntry) (later : List LogEntry) → drop (suc (length before)) (exchanges_of (before ++ e ∷ later)) ≡ exchanges_of later
drop_past [] e later = refl
drop_past (x ∷ before) e later = drop_past before e later

length-of-events : (log : List LogEntry) → length (events_of log) ≡ length log
length-of-events [] = refl
length-of-events (e ∷ log) = ap suc (length-of-events log)

-- behind an entry of a legal history the run has its later entries
run_behind : (frames : ℕ) (before : List LogEntry) (e : LogEntry) (later : List LogEntry) (p : ℕ) → Legal frames (before ++ e ∷ later)
    → own_behind p (open_with frames) (events_of before) (event_of e) (events_of later) ≡ own p (exchanges_of later)
run_behind frames before e later p h =
    let s : State = open_with frames in
    let log : List LogEntry = before ++ e ∷ later in
    let run : exchanges s (events_of before ++ event_of e ∷ events_of later) ≡ exchanges_of log =
    ap (exchanges s) (sym (events-append before (e ∷ later))) ∙ (ap (zip (events_of log)) (sym h.replies) ∙ zipped log) in
    let place : length (events_of before) + 1 ≡ suc (length before) = ap (λ n. n + 1) (length-of-events before) ∙ add-one (length before) in
    ap (own p) ((λ i. drop (place i) (run i)) ∙ drop_past before e later)

pub others_left_out : OthersMakeNoDifference
others_left_out frames before e later p h child alone =
    let s : State = open_with frames in
    let front : Legal frames (before ++ e ∷ []) = begins_legal frames (before ++ e ∷ []) later (subst (Legal frames) (sym (joined before)) h) in
    let told : answer (state_after frames before) (event_of e) ≡ Child p = sym (last_reply frames before e front) ∙ child in
    let same = run_behind frames before e later p h in
    others_make_no_difference s (events_of before) (event_of e) (events_of later) p (opens_well frames (before ++ e ∷ later) h) told (subst InvolvesNobody (sym same) alone) ∙ same
  where
    joined : (xs : List LogEntry) → (xs ++ e ∷ []) ++ later ≡ xs ++ e ∷ later
    joined [] = refl
    joined (x ∷ xs) = ap (λ rest. x ∷ rest) (joined xs)
