-- The invariant of a kernel under its lock, and of one that has no name yet, one fact a line.
use Rattle.std.specs.Prelude.{◌≡◌, ℕ, ◌+◌, ◌<◌, ◌≤◌, Bool, true, List, [], length}
use Rattle.locked_core.specs.Makers.{AreOfCpus}
use Rattle.logbook.specs.Pages.{Book}
use Rattle.memory_report.specs.Histories.{Legal, state_after}
use Rattle.memory_report.specs.declared.entries.LogEntry.{LogEntry}
use Rattle.process_table.specs.State.{State, open_with}
use Rattle.process_table.specs.View.{View}
use Rattle.locked_core.specs.Counts.{Log, counts_of}
use Rattle.locked_core.specs.Moments.{Follows, core_after, entries_in}
use Rattle.locked_core.specs.declared.moment.Moment.{Moment}
use Rattle.locked_core.specs.Pages.{Page, LagsBehind, page}
use Rattle.locked_core.specs.Published.{view_of}
use Rattle.locked_core.specs.declared.rule.WhichKernel.{WhichKernel}

-- What a kernel with so many frames and CPUs and this book has under its lock: the core, its log and what it adds to the
-- history. Also the total of the calls that its CPUs count as theirs, the number of each CPU's, and the two sides of what is published, of which
-- readers see one.
pub record IsUnderLock (frames parts keeps : ℕ) (book : Book) (opening core : View) (log : List LogEntry) (held : ℕ) (added : List Moment) (total : ℕ) (tally : List ℕ) (is_watched : Bool) (side other : Page) (seat : WhichKernel) : Type 0 where
  pub legal : Legal frames log
  pub stands : core.state ≡ state_after frames log
  pub told : entries_in added ≡ log
  -- the core is the one that the last call left, and each call left its own to the next
  pub left : core_after opening added ≡ core
  pub follows : Follows opening added
  pub opened : opening.state ≡ open_with frames
  -- each entry is a call that one CPU counts as its own
  pub counted : total ≡ length log
  -- and of each CPU there are as many as it counts
  pub tallied : tally ≡ counts_of log
  -- and each entry is of one of them
  pub cpus : AreOfCpus parts log
  pub mine : seat ≡ view_of frames book
  -- where there is a monitor, what is published reports on the whole log
  pub shown : is_watched ≡ true → side ≡ page frames book log
  pub lags : LagsBehind side (page frames book log)
  pub spare : LagsBehind other (page frames book log)
  -- and the other side lacks only the last entry, which the log keeps
  pub near : is_watched ≡ true → length log ≤ length other.log + 1
  pub keeps_named : held ≡ keeps
  pub keeps_two : 2 ≤ keeps

-- a kernel that was made and has no name yet
pub record IsMade (frames cpus : ℕ) (book : Book) (log : Log) (parts : ℕ) (core : State) (side other : Page) (seat : WhichKernel) : Type 0 where
  pub some : 0 < cpus
  pub few : cpus ≤ 8
  -- one part of the count for each CPU
  pub one_each : parts ≡ cpus
  pub least : 16 ≤ frames
  pub most : frames ≤ 1048576
  pub opening : core ≡ open_with frames
  pub none : log.entries ≡ []
  pub keeps_two : 2 ≤ log.keeps
  pub mine : seat ≡ view_of frames book
  pub shown : side ≡ page frames book []
  pub spare : other ≡ page frames book []
