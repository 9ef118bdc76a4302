-- The names of a kernel: which history and which count of calls are its own.
use Rattle.std.specs.Prelude.{ℕ, List, []}
use Rattle.logbook.specs.Pages.{Book}
use Rattle.process_table.specs.State.{open_with}
use Rattle.process_table.specs.View.{View}

-- The book of the history, and the core that the kernel opens with. Also the ledger of the calls that its CPUs made,
-- with the number of its parts, and the ledgers of the calls of each CPU. And how many of the last entries are kept.
pub record Names : Type 0 where
  pub history : Book
  pub ledger : ℕ
  pub parts : ℕ
  pub ledgers : List ℕ
  pub opening : View
  pub keeps : ℕ

-- a core that holds nothing
abbrev pub no_core : View
no_core = record { state = open_with 0; directories = []; bytes = []; roles = [] }

-- the names of no kernel
abbrev pub no_names : Names
no_names = record { history = record { number = 0; log_name = 0; cells_name = 0 }; ledger = 0; parts = 0; ledgers = []; opening = no_core; keeps = 0 }
