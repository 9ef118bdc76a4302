-- The log of all calls, the last of which are kept, and how many entries each CPU has in it.
use Rattle.std.specs.Prelude.{◌≡◌, ℕ, ◌-◌, ◌<◌, ◌≤◌, ◌^◌, List, All, drop, length, map}
use Rattle.std.specs.List.{range_with_len}
use Rattle.memory_report.specs.Histories.{calls_of}
use Rattle.memory_report.specs.declared.entries.LogEntry.{LogEntry}

-- the numbers of the CPUs 0 to 7
unfoldable pub counts_of : List LogEntry → List ℕ
counts_of log = map (λ cpu. calls_of cpu log) (range_with_len 0 8)

-- the last so many entries, or all if there are fewer
abbrev pub last_of : ℕ → List LogEntry → List LogEntry
last_of n log = drop (length log - n) log

-- a log: its entries, how many of the last ones are kept, and for how many there is memory
pub record Log : Type 0 where
  pub entries : List LogEntry
  pub keeps : ℕ
  pub capacity : ℕ

-- one entry more can be logged: there is memory for it, or it takes the place of one that is kept
abbrev pub HasRoom : Log → Type 0
HasRoom log = (length log.entries < 2 ^ 62) × (length log.entries < log.keeps → length log.entries < log.capacity)

-- What is stored of a log: the entries that are kept, and how many there are in all. Also how many of the last ones are
-- to be kept, for how many there is memory, and each CPU's number of entries. If fewer than all are to be kept, there is
-- memory for them.
pub record IsLog (log kept : List LogEntry) (count keeps capacity : ℕ) (counts : List ℕ) : Type 0 where
  pub long : count ≡ length log
  pub most : count ≤ 2 ^ 62
  pub least : 2 ≤ keeps
  pub last : kept ≡ last_of keeps log
  pub reserved : keeps < 2 ^ 62 → keeps ≤ capacity
  pub counted : counts ≡ counts_of log
  pub small : All (λ e. e.cpu < 8) log
