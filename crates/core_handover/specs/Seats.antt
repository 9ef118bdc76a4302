-- What a contract sees of CPUs and monitors.
use Rattle.std.specs.Prelude.{◌≡◌, ℕ, All, Bool, false, List, [], ◌∷◌, length}
use Rattle.std.specs.Global.{Box}
use Rattle.logbook.specs.Pages.{Book}
use Rattle.process_table.specs.View.{View}
use Rattle.core_handover.specs.Histories.{Known, given, known}
use Rattle.core_handover.specs.declared.given.Given.{Given}

-- the history that a CPU knows, and whether it has the core
pub record Seat : Type 0 where
  pub book : Book
  pub log : List Given
  pub has : Bool

abbrev pub seat : Book → List Given → Bool → Seat
seat book log has = record { book = book; log = log; has = has }

-- boxes of so many values, which are all this one
abbrev pub AreAll : {D : Type 0} → D → ℕ → List (Box D) → Type 0
AreAll x count boxes = (length boxes ≡ count) × All (λ b. b.value ≡ x) boxes

-- so many CPUs and monitors of one history, which begins with a core and has no more yet
pub record AreSeats (core : View) (m n : ℕ) (cpus : List (Box Seat)) (monitors : List (Box Known)) : Type 0 where
  pub book : Book
  pub seats : AreAll (seat book (given core ∷ []) false) m cpus
  pub watchers : AreAll (known book (given core ∷ [])) n monitors
