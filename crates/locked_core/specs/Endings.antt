-- Which translations a call of a CPU ended.
use Rattle.std.specs.Prelude.{◌≡◌, ℕ, ◌+◌, List, [], ◌∷◌, ◌++◌, length}
use Rattle.kernel_calls.specs.Translations.{ended_by, Ends}
use Rattle.kernel_calls.specs.declared.translations.Ended.{Ended}
use Rattle.memory_report.specs.Histories.{event_of, state_after}
use Rattle.locked_core.specs.Makers.{Maker}
use Rattle.locked_core.specs.Moments.{Begins, core_after, ended_along, entries_in}
use Rattle.locked_core.specs.declared.moment.Moment.{Moment}
use Rattle.process_table.specs.View.{View}

-- What the event of the last entry that the CPU has seen ended, in the core that the entries before it left. That is
-- the core of the last moment before it, or the one that the kernel opened with. The event left the core of the last
-- moment, with all else that processors keep. Both moments are of the kernel's one history, which all of its CPUs see.
pub record EndsAtLast (frames : ℕ) (opening : View) (cpu : Maker) (ended : Ended) : Type 0 where
  pub before : List Moment
  pub last : Moment
  pub grown : cpu.moments ≡ before ++ last ∷ []
  pub stood : (core_after opening before).state ≡ state_after frames (entries_in before)
  pub stands : last.core.state ≡ state_after frames cpu.seen
  pub told : ended ≡ ended_by (core_after opening before) (event_of last.entry)
  pub ends : Ends ended (core_after opening before) last.core

-- what is reported of a call is fixed by the moments that its CPU has seen
abbrev pub ToldOnce : Type 0
ToldOnce = (frames : ℕ) (opening : View) (cpu : Maker) (a b : Ended) → EndsAtLast frames opening cpu a → EndsAtLast frames opening cpu b → a ≡ b

-- What was reported of a call of one CPU, among what the calls of a longer list ended, such as that of another CPU: it
-- is at the place of that call.
pub record IsAmong (log : List Ended) (ended : Ended) (place : ℕ) : Type 0 where
  pub earlier : List Ended
  pub later : List Ended
  pub all : log ≡ earlier ++ ended ∷ later
  pub here : length earlier + 1 ≡ place

-- what is reported of a call of one CPU is what that call ended in each list of moments that begins with the CPU's
abbrev pub ToldToAll : Type 0
ToldToAll = (frames : ℕ) (opening : View) (cpu : Maker) (ended : Ended) (log : List Moment) → EndsAtLast frames opening cpu ended → Begins log cpu.moments
    → IsAmong (ended_along opening log) ended (length cpu.moments)
