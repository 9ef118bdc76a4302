-- Reports, by the machine's state alone.
use Rattle.std.specs.Prelude.{◌≡◌, ℕ, List, ◌∷◌, [], ◌++◌, map, Option, Some, None, sum_by}
use Rattle.std.specs.List.{range_with_len}
use Rattle.std.specs.Option.{option_map}
use Rattle.memory_report.specs.Histories.{Legal, state_after}
use Rattle.memory_report.specs.declared.entries.LogEntry.{LogEntry}
use Rattle.memory_report.specs.declared.rows.Row.{Row}
use Rattle.process_table.specs.State.{State, container_of}
use Rattle.quota_tree.specs.declared.Container.{Container}

-- what a report says of a container
abbrev pub row_from : Container → Row
row_from c = record { parent = c.parent; quota = c.quota; used = c.used; given = c.given }

-- the row of a process, where it is live: parent, quota, cost and what its children were given
abbrev pub row_of : State → ℕ → Option Row
row_of s p = option_map row_from (container_of s p)

-- the rows of the numbers 0 to 63
unfoldable pub report_of : State → List (Option Row)
report_of s = map (λ p. row_of s p) (range_with_len 0 64)

-- what a row adds to the total
abbrev pub used_in : Option Row → ℕ
used_in None = 0
used_in (Some row) = row.used

-- what all rows use together
abbrev pub total_of : List (Option Row) → ℕ
total_of rows = sum_by used_in rows

-- Whatever legal history the entry ends: from the report before it the entry leads to the report after it.
abbrev pub Absorbs : List (Option Row) → LogEntry → List (Option Row) → Type 0
Absorbs before e after = (frames : ℕ) (log : List LogEntry) → Legal frames (log ++ e ∷ []) → before ≡ report_of (state_after frames log) → after ≡ report_of (state_after frames (log ++ e ∷ []))
