-- The moments of a kernel's history: each entry, with the core as its call left it.
use Rattle.std.specs.Prelude.{◌≡◌, ℕ, List, [], ◌∷◌, ◌++◌, map}
use Rattle.kernel_calls.specs.Processors.{IsCore}
use Rattle.kernel_calls.specs.Along.{EndAlong}
use Rattle.kernel_calls.specs.Translations.{ended_by}
use Rattle.kernel_calls.specs.declared.translations.Ended.{Ended}
use Rattle.memory_report.specs.Histories.{event_of, events_of, state_after}
use Rattle.memory_report.specs.declared.entries.LogEntry.{LogEntry}
use Rattle.process_table.specs.State.{open_with}
use Rattle.process_table.specs.View.{View}
use Rattle.shootdowns.specs.Windows as window
use Rattle.locked_core.specs.declared.moment.Moment.{Moment}

-- an entry, and the core after it
abbrev pub moment : LogEntry → View → Moment
moment entry core = record { entry = entry; core = core }

-- the entries alone
abbrev pub entries_in : List Moment → List LogEntry
entries_in log = map (λ (m : Moment). m.entry) log

-- the core after these moments, from the opening one on
abbrev pub core_after : View → List Moment → View
core_after opening [] = opening
core_after opening (m ∷ rest) = core_after m.core rest

-- the list begins with these moments
abbrev pub Begins : List Moment → List Moment → Type 0
Begins log seen = (rest : List Moment) × (log ≡ seen ++ rest)

-- The kernel opened with a core. Each call began in the core that the call before it left, and left its own: the next
-- state, and each way that its event doesn't end leads where it led.
pub record Follows (opening : View) (log : List Moment) : Type 0 where
  pub opened : IsCore opening
  pub each : (before : List Moment) (m : Moment) (rest : List Moment) → log ≡ before ++ m ∷ rest
      → window.Begins (core_after opening before) (event_of m.entry) m.entry.reply m.core

-- what each of these calls ended, in the core that it had
abbrev pub ended_along : View → List Moment → List Ended
ended_along core [] = []
ended_along core (m ∷ rest) = ended_by core (event_of m.entry) ∷ ended_along m.core rest

-- the moments from any place on follow one another too, from the core at that place
abbrev pub FollowsFrom : Type 0
FollowsFrom = (opening : View) (before later : List Moment) → Follows opening (before ++ later) → Follows (core_after opening before) later

-- and their events were carried out one after another, each with what it ended: the premise of what is kept through
-- runs
abbrev pub EndsAlong : Type 0
EndsAlong = (opening : View) (log : List Moment) → Follows opening log
    → EndAlong (events_of (entries_in log)) (ended_along opening log) opening (core_after opening log)

-- if the kernel opened as a machine of that many frames, the core at each place is in the state after the entries
-- before it
abbrev pub StatesFollow : Type 0
StatesFollow = (frames : ℕ) (opening : View) (before later : List Moment) → opening.state ≡ open_with frames → Follows opening (before ++ later)
    → (core_after opening before).state ≡ state_after frames (entries_in before)
