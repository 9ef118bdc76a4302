-- What is published, as a contract sees it.
use Rattle.std.specs.Prelude.{◌≡◌, ℕ, List, Option, take}
use Rattle.logbook.specs.Pages.{Book}
use Rattle.memory_report.specs.Histories.{Legal, StartsWith, state_after}
use Rattle.memory_report.specs.Reports.{report_of}
use Rattle.memory_report.specs.declared.entries.LogEntry.{LogEntry}
use Rattle.memory_report.specs.declared.rows.Row.{Row}

-- a prefix of the history of a kernel, which has so many frames and this book
pub record Page : Type 0 where
  pub frames : ℕ
  pub book : Book
  pub log : List LogEntry

-- what is published of a kernel
abbrev pub page : ℕ → Book → List LogEntry → Page
page frames book log = record { frames = frames; book = book; log = log }

-- a page of the same kernel, whose log begins that of the whole one
pub record LagsBehind (part whole : Page) : Type 0 where
  pub frames : part.frames ≡ whole.frames
  pub book : part.book ≡ whole.book
  pub begins : StartsWith whole.log part.log

-- Of whatever legal history this is the log: from the report on the first so many entries it leads to the report on
-- all.
abbrev pub CatchesUp : List (Option Row) → ℕ → List LogEntry → List (Option Row) → Type 0
CatchesUp before count log after = (frames : ℕ) → Legal frames log → before ≡ report_of (state_after frames (take count log)) → after ≡ report_of (state_after frames log)
