-- What is written of a kernel's machine, and where it is in the kernel's history.
use Rattle.std.specs.Prelude.{◌≡◌, ◌⊎◌, ℕ, List, Option}
use Rattle.memory_report.specs.Histories.{Legal, calls_of, state_after}
use Rattle.process_table.specs.View.{View}
use Rattle.wide_image.specs.Stored.{StoresMachine, StoresFront}
use Rattle.locked_core.specs.Makers.{Maker}
use Rattle.locked_core.specs.Moments.{Begins, Follows, core_after, entries_in}
use Rattle.locked_core.specs.declared.moment.Moment.{Moment}

-- Where a snapshot was written for a CPU: after these moments of the kernel's one history. It is a legal history,
-- begins with the moments that the CPU has seen, and has the calls that it made. The core is in the state after it.
pub record IsPlace (frames : ℕ) (opening : View) (cpu : Maker) (moments : List Moment) : Type 0 where
  pub legal : Legal frames (entries_in moments)
  pub begins : Begins moments cpu.moments
  pub own : calls_of cpu.number (entries_in moments) ≡ calls_of cpu.number cpu.seen
  pub follows : Follows opening moments
  pub stands : (core_after opening moments).state ≡ state_after frames (entries_in moments)

-- the snapshot of the whole machine was written, with its offers, as the core that these moments left has it
pub record IsStored (frames : ℕ) (opening : View) (cpu : Maker) (old new : Option (List ℕ)) (moments : List Moment) : Type 0 where
  pub place : IsPlace frames opening cpu moments
  pub stored : StoresMachine (core_after opening moments) old new

-- the same, of which a prefix was written
pub record IsStoredInPart (frames : ℕ) (opening : View) (cpu : Maker) (old new : Option (List ℕ)) (moments : List Moment) : Type 0 where
  pub place : IsPlace frames opening cpu moments
  pub stored : StoresFront (core_after opening moments) old new

-- what was written of a snapshot that was not written whole: nothing, or a prefix
abbrev pub LeavesPart : ℕ → View → Maker → Option (List ℕ) → Option (List ℕ) → Type 0
LeavesPart frames opening cpu old new = (new ≡ old) ⊎ ((moments : List Moment) × IsStoredInPart frames opening cpu old new moments)
