-- The text of a report.
use Rattle.std.specs.Prelude.{ℕ, ◌+◌, List, [], ◌∷◌, ◌++◌, Option, Some, None, codes, decimal}
use Rattle.memory_report.specs.Reports.{total_of}
use Rattle.memory_report.specs.declared.rows.Row.{Row}

-- the line of a live process, without its line feed
abbrev pub row_text : ℕ → Row → List ℕ
row_text p row = codes "process " ++ decimal p ++ codes " parent " ++ decimal row.parent ++ codes " quota " ++ decimal row.quota ++ codes " used " ++ decimal row.used ++ codes " given " ++ decimal row.given

-- a row's line, where its process is live
unfoldable pub line_of : ℕ → Option Row → List ℕ
line_of p None = []
line_of p (Some row) = row_text p row ++ 10 ∷ []

-- a line for each row, of which the first has this number
abbrev pub lines_from : ℕ → List (Option Row) → List ℕ
lines_from p [] = []
lines_from p (row ∷ rows) = line_of p row ++ lines_from (p + 1) rows

-- the last line of a report
unfoldable pub total_line : ℕ → List ℕ
total_line total = codes "total " ++ decimal total ++ 10 ∷ []

-- the text of a report
unfoldable pub report_text : List (Option Row) → List ℕ
report_text rows = lines_from 0 rows ++ total_line (total_of rows)
