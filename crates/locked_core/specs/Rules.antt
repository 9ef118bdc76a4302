-- The rule of the history, and the result of each of its steps.
use Rattle.std.specs.Prelude.{ℕ, ◌≡◌, ◌==◌, ◌+◌, ◌<◌, ◌≤◌, true, List, [], ◌∷◌, ◌++◌, length, MatchBool}
use Rattle.logbook.specs.Pages.{Cell, Step, View, Book, Named, cell, nib, may_make}
use Rattle.locked_core.specs.declared.moment.Moment.{Moment}

-- The first word is the length of the history, and the second is how many turns were taken. Each turn has a cell, after
-- those of the two words. An entry is added with a turn, whose cell is at home from then on. At most one turn is out.
pub record CellsHold (cells : List Cell) (log : List Moment) : Type 0 where
  pub head : cell cells 0 ≡ (length log, true)
  pub turns : ℕ
  pub taken : cell cells 1 ≡ (turns, true)
  pub each : length cells ≡ turns + 2
  pub used : length log ≤ turns
  pub one : turns ≤ length log + 1
  pub home : (key : ℕ) → key < length log + 2 → (cell cells key).1 ≡ true

-- the book's first word
abbrev pub head_of : Book → Named
head_of b = record { tracked = true; key = 0; book = b }

-- the book's second word
abbrev pub turns_of : Book → Named
turns_of b = record { tracked = true; key = 1; book = b }

-- the cell of the turn that follows this history
abbrev pub turn_after : List Moment → ℕ
turn_after log = length log + 2

-- the entry was added to all that had been seen, which was all of the history
abbrev pub Adds : Step Moment → View Moment ℕ → ℕ → View Moment ℕ → Type 0
Adds s v found w = w.0 ≡ v.0 ++ s.ask ∷ []

-- where as many turns were found as were expected, the next one was taken, and no more entries than that had been seen
abbrev pub Claims : Step Moment → View Moment ℕ → ℕ → View Moment ℕ → Type 0
Claims s v found w = MatchBool (found == s.old) ((length v.0 ≤ s.old) × (w.1.0 ≡ nib may_make (s.old + 2) 0)) (Unit {0})

-- the turn is still the next one, and no more entries had been seen than were expected
abbrev pub Confirms : Step Moment → View Moment ℕ → ℕ → View Moment ℕ → Type 0
Confirms s v found w = (length v.0 ≤ s.old) × (w.1.0 ≡ v.1.0)
