-- What a round is.
--     made_by cpu      the events of all calls of a CPU
--     Halts      that a guest's calls on a CPU are those of a run that halts
--     IsRound      what a round's history is, the rows of its report, and what an audit found
use Rattle.std.specs.Prelude.{◌≡◌, ℕ, ◌<◌, ◌≤◌, true, List, [], ◌++◌, length, map, take, All, Any, Option, Ok}
use Rattle.guest_cpu.specs.Guests.{GuestView, opening_guest}
use Rattle.guest_cpu.specs.Runs.{IsRun}
use Rattle.guest_cpu.specs.declared.runs.End.TheVariants as end
use Rattle.guest_race.specs.Programs.{opening_events, race_program, turns}
use Rattle.image_check.specs.Told.{fails_nothing, verdict_on}
use Rattle.kernel_calls.specs.declared.calls.Event.{Event}
use Rattle.locked_core.specs.Makers.{Maker, maker, IsSnapshot}
use Rattle.memory_image.specs.Image.{Image}
use Rattle.memory_report.specs.Histories.{Legal, StartsWith, calls_of, entries_of, events_of, replies_of, state_after}
use Rattle.memory_report.specs.Reports.{report_of}
use Rattle.memory_report.specs.declared.entries.LogEntry.{LogEntry}
use Rattle.memory_report.specs.declared.rows.Row.{Row}

-- the events of all calls that a CPU has made
abbrev pub made_by : Maker → List Event
made_by cpu = events_of (entries_of cpu.number cpu.seen)

-- A guest of the process and CPU of that number, from the entries that the CPU had to those that it has. It ran with
-- the replies in the new entries, made their events, and halted within its turns.
pub record Halts (number : ℕ) (had has : List LogEntry) : Type 0 where
  pub made : List LogEntry
  pub guest : GuestView
  pub own : has ≡ had ++ made
  pub run : IsRun (race_program number) turns (opening_guest number number) (map Ok (replies_of made)) (events_of made) end.Halted guest

-- Both guests halted: CPU 0 made the opening's calls and then those of the first guest, CPU 1 those of the second.
pub record BothHalt (of_first of_second : List LogEntry) : Type 0 where
  pub opened : List LogEntry
  pub opening : events_of opened ≡ opening_events
  pub first : Halts 0 opened of_first
  pub second : Halts 1 [] of_second

-- the report of a legal history, which begins with all that was seen by each of two
pub record Reports (frames : ℕ) (by_first by_second : List LogEntry) (rows : List (Option Row)) : Type 0 where
  pub log : List LogEntry
  pub legal : Legal frames log
  pub first : StartsWith log by_first
  pub second : StartsWith log by_second
  pub report : rows ≡ report_of (state_after frames log)

-- A kernel that its returned CPUs closed. The history is legal, begins with what each CPU has seen, and has of each
-- only the calls that it made. The report is that of the state after it.
pub record IsClosed (frames : ℕ) (cpus : List Maker) (rows : List (Option Row)) (log : List LogEntry) : Type 0 where
  pub legal : Legal frames log
  pub begins : All (λ c. take (length c.seen) log ≡ c.seen) cpus
  pub calls : All (λ c. calls_of c.number log ≡ calls_of c.number c.seen) cpus
  pub all : All (λ e. Any (λ c. c.number ≡ e.cpu) cpus) log
  pub report : rows ≡ report_of (state_after frames log)

-- the kernel of these CPUs was closed with this report
abbrev pub Closes : ℕ → List Maker → List (Option Row) → Type 0
Closes frames cpus rows = (log : List LogEntry) × IsClosed frames cpus rows log

-- An image that was taken for a CPU, in which an audit found nothing that fails.
abbrev pub Audited : ℕ → Maker → Type 0
Audited frames cpu = (image : Image) × (history : List LogEntry) × IsSnapshot frames cpu image history × (fails_nothing (verdict_on image) ≡ true)

-- A round by its history. The history is legal, and its entries are those of the two guests. Its report is also the one
-- of a monitor that had received all that both CPUs had seen, with all their own calls. An audit of an image that was
-- taken for the first CPU after all its calls found nothing.
pub record IsRound (frames : ℕ) (rows : List (Option Row)) (log : List LogEntry) : Type 0 where
  pub legal : Legal frames log
  pub few : frames ≤ 4096
  pub both : BothHalt (entries_of 0 log) (entries_of 1 log)
  pub others : All (λ e. e.cpu < 2) log
  pub report : rows ≡ report_of (state_after frames log)
  pub seen_first : List LogEntry
  pub seen_second : List LogEntry
  pub all_first : entries_of 0 seen_first ≡ entries_of 0 log
  pub all_second : entries_of 1 seen_second ≡ entries_of 1 log
  pub reported : Reports frames seen_first seen_second rows
  pub audited : Audited frames (maker 0 seen_first)

-- a report is that of some round
abbrev pub IsReported : ℕ → List (Option Row) → Type 0
IsReported frames rows = (log : List LogEntry) × IsRound frames rows log
