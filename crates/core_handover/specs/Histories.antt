-- The history of a core that threads share.
use Rattle.std.specs.Prelude.{◌≡◌, ℕ, ◌+◌, ◌==◌, true, List, [], ◌∷◌, ◌++◌, length, MatchBool}
use Rattle.logbook.specs.Pages as pages
use Rattle.logbook.specs.Pages.{Book, Cell, Named, Step, cell}
use Rattle.process_table.specs.State.{open_with}
use Rattle.process_table.specs.View.{View}
use Rattle.core_handover.specs.declared.given.Given.{Given}

-- a core that was given back
abbrev pub given : View → Given
given core = record { core = core }

-- a prefix of the history of one book: the core as it was shared, and then as it was each time that it was given back
pub record Known : Type 0 where
  pub book : Book
  pub log : List Given

abbrev pub known : Book → List Given → Known
known book log = record { book = book; log = log }

-- the list begins with these
abbrev pub Begins : List Given → List Given → Type 0
Begins log seen = (rest : List Given) × (log ≡ seen ++ rest)

-- a core that holds nothing
abbrev pub no_core : View
no_core = record { state = open_with 0; directories = []; bytes = []; roles = [] }

-- the last core, from the one before these on
abbrev pub last_from : View → List Given → View
last_from core [] = core
last_from core (g ∷ rest) = last_from g.core rest

-- the last core of a history, which has one
abbrev pub last_core : List Given → View
last_core log = last_from no_core log

-- The book has one word. It is how often the core was given back: how much longer the history is than as it began.
pub record CellsHold (cells : List Cell) (log : List Given) : Type 0 where
  pub gives : ℕ
  pub head : cell cells 0 ≡ (gives, true)
  pub one : length cells ≡ 1
  pub long : length log ≡ gives + 1

-- the book's word
abbrev pub head_of : Book → Named
head_of b = record { tracked = true; key = 0; book = b }

-- where as much was found as had been seen, the core was added to that
abbrev pub Adds : Step Given → pages.View Given ℕ → ℕ → pages.View Given ℕ → Type 0
Adds s v found w = MatchBool (found == s.old) (w.0 ≡ v.0 ++ s.ask ∷ []) (Unit {0})
