-- The replies of members of sets in a legal history, and that confined sets stay so.
use Rattle.std.proofs.Common.{◌≡◌, ℕ, List, ◌++◌, sym, ap, subst, ◌∙◌}
use Rattle.authority_laws.specs.Authority.{HearTheirOwn, KeepsBorders}
use Rattle.authority_laws.specs.Availability.{IsServed}
use Rattle.authority_laws.specs.Families.{IsUnreached}
use Rattle.kernel_calls.specs.Machine.{end_of}
use Rattle.kernel_calls.specs.declared.calls.Reply.{Reply}
use Rattle.authority_laws.proofs.Confined.{runs_keep_borders}
use Rattle.authority_laws.proofs.Hearing.{members_hear_the_same, families_hear_their_own}
use Rattle.kernel_calls.proofs.Runs.{kept-run, end_of-append}
use Rattle.authority_laws.proofs.Served.{runs_are_served}
use Rattle.memory_report.proofs.HistoryLemmas.{events-append, later_replies}
use Rattle.memory_report.proofs.IsolatedHistories.{opens_well}
use Rattle.memory_report.specs.Histories.{events_of, state_after, Legal}
use Rattle.memory_report.specs.Laws.{HistoriesAreGuarded}
use Rattle.memory_report.specs.declared.entries.LogEntry.{LogEntry}
use Rattle.process_table.specs.State.{State, open_with}
use Rattle.process_table.specs.WellFormed.{IsWellFormed}

well_after : (frames : ℕ) (log before : List LogEntry) → Legal frames log → IsWellFormed (state_after frames before)
well_after frames log before h = (kept-run (open_with frames) (events_of before) (opens_well frames log h)).0

-- the last state is that of the run of the later entries
goes_on_to : (frames : ℕ) (log before later : List LogEntry) → log ≡ before ++ later
    → end_of (state_after frames before) (events_of later) ≡ state_after frames log
goes_on_to frames log before later is =
    sym (end_of-append (open_with frames) (events_of before) (events_of later))
    ∙ ap (end_of (open_with frames)) (sym (events-append before later) ∙ ap events_of (sym is))

pub histories_guarded : HistoriesAreGuarded
histories_guarded frames log h = record {
  heard = λ before later is.
      subst (λ (replies : List Reply). HearTheirOwn (state_after frames before) (events_of later) replies)
      (sym (later_replies frames before later (subst (Legal frames) is h)))
      (members_hear_the_same (state_after frames before) (events_of later) (well_after frames log before h));
  borders = λ before later is.
      subst (λ (t : State). KeepsBorders (state_after frames before) (events_of later) t)
      (goes_on_to frames log before later is)
      (runs_keep_borders (state_after frames before) (events_of later) (well_after frames log before h));
  unreached = λ before later is.
      subst (λ (replies : List Reply). IsUnreached (state_after frames before) (events_of later) replies)
      (sym (later_replies frames before later (subst (Legal frames) is h)))
      (families_hear_their_own (state_after frames before) (events_of later) (well_after frames log before h));
  served = subst (IsServed (open_with frames) (events_of log)) (sym h.replies)
      (runs_are_served (open_with frames) (events_of log) (opens_well frames log h));
}
