-- What lies under the lock, as a contract sees it.
use Rattle.std.specs.Prelude.{ℕ, Bool, List}
use Rattle.locked_core.specs.Names.{Names}
use Rattle.locked_core.specs.declared.moment.Moment.{Moment}
use Rattle.memory_report.specs.declared.entries.LogEntry.{LogEntry}
use Rattle.process_table.specs.View.{View}

-- the core, the log of all calls, the history that it is, and whether a monitor reads what is published
pub record UnderLock : Type 0 where
  pub core : View
  pub log : List LogEntry
  pub moments : List Moment
  pub is_watched : Bool

-- a kernel that has no name yet: how many frames its memory has, for how many CPUs and monitors it is, and its names
pub record Unnamed : Type 0 where
  pub frames : ℕ
  pub cpus : ℕ
  pub monitors : ℕ
  pub book : Names

-- a kernel that was closed: the entries of all its calls, those that were kept, and the core that they left
pub record Closed : Type 0 where
  pub entries : List LogEntry
  pub kept : List LogEntry
  pub core : View

-- a kernel that its threads share: how many CPUs it has
pub record Shared : Type 0 where
  pub cpus : ℕ
