-- A report as numbers.
use Rattle.std.specs.Prelude.{◌≡◌, ℕ, ◌<◌, List, Option, Some, None, true, false, length, slice_index_or}
use Rattle.memory_report.specs.declared.rows.Row.{Row}
use Rattle.tower_threads.specs.declared.monitors.TowerRow.{TowerRow}

-- the row of a process, or zeros
abbrev pub row_numbers : Option Row → TowerRow
row_numbers (Some row) = record { live = true; parent = row.parent; quota = row.quota; used = row.used; given = row.given }
row_numbers None = record { live = false; parent = 0; quota = 0; used = 0; given = 0 }

-- the first so many rows are the report's, as many as there is room for
pub record AreRows (report : List (Option Row)) (n : ℕ) (before after : List TowerRow) : Type 0 where
  pub long : length after ≡ length before
  pub rows : (k : ℕ) → k < n → k < length after → slice_index_or after k (row_numbers None) ≡ row_numbers (slice_index_or report k None)
