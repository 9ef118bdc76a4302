-- Laws on histories and reports.
use Rattle.std.specs.Prelude.{◌≡◌, ℕ, ◌≤◌, ◌==◌, List, [], ◌∷◌, ◌++◌, filter}
use Rattle.kernel_calls.specs.Isolation.{InvolvesNobody, own, own_behind}
use Rattle.kernel_calls.specs.declared.calls.Call.{Call}
use Rattle.kernel_calls.specs.declared.calls.Event.{Event}
use Rattle.kernel_calls.specs.declared.calls.Reply.TheVariants.{Child}
use Rattle.memory_report.specs.Histories.{Legal, AreIsolated, AreGuarded, entry_after, event_of, events_of, exchanges_of}
use Rattle.memory_report.specs.Reports.{report_of, total_of}
use Rattle.memory_report.specs.declared.entries.LogEntry.{LogEntry}
use Rattle.process_table.specs.State.{State, open_with}
use Rattle.process_table.specs.WellFormed.{IsWellFormed, total}

-- no entry is a legal history of every machine that boots
abbrev pub EmptyIsLegal : Type 0
EmptyIsLegal = (frames : ℕ) → 16 ≤ frames → frames ≤ 1048576 → Legal frames []

-- a legal history with what is logged of one more call is legal
abbrev pub GrowsLegal : Type 0
GrowsLegal = (frames : ℕ) (log : List LogEntry) (cpu pid : ℕ) (call : Call) → Legal frames log → Legal frames (log ++ entry_after frames log cpu pid call ∷ [])

-- a prefix of a legal history is legal
abbrev pub BeginsLegal : Type 0
BeginsLegal = (frames : ℕ) (log rest : List LogEntry) → Legal frames (log ++ rest) → Legal frames log

-- the replies of a process in a legal history are those that it gets alone
abbrev pub HistoriesAreIsolated : Type 0
HistoriesAreIsolated = (frames : ℕ) (log : List LogEntry) → Legal frames log → AreIsolated frames log

-- they are also those of the machine's run without the later events of all others
abbrev pub OthersMakeNoDifference : Type 0
OthersMakeNoDifference = (frames : ℕ) (before : List LogEntry) (e : LogEntry) (later : List LogEntry) (p : ℕ) → Legal frames (before ++ e ∷ later) → e.reply ≡ Child p
    → InvolvesNobody (own p (exchanges_of later))
    → own_behind p (open_with frames) (events_of before) (event_of e) (filter (λ (other : Event). other.pid == p) (events_of later)) ≡ own p (exchanges_of later)

-- from each place of a legal history on, members of sets get their own replies, and confined sets stay so
abbrev pub HistoriesAreGuarded : Type 0
HistoriesAreGuarded = (frames : ℕ) (log : List LogEntry) → Legal frames log → AreGuarded frames log

-- the total of a report is what all live processes cost together
abbrev pub TotalIsCost : Type 0
TotalIsCost = (s : State) → IsWellFormed s → total_of (report_of s) ≡ total s
