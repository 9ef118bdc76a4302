-- A thread's place, as a contract sees it.
use Rattle.std.specs.Prelude.{ℕ, Bool, true, false, List, [], ◌∷◌, Option, None}
use Rattle.atomic_table.specs.Seated.{TableId}

-- which lock it is of, whether the thread has the value, and the history that it knows
pub record PlaceView (T : Type 0) : Type 0 where
  pub table : TableId
  pub has : Bool
  pub log : List T

abbrev pub place : {T : Type 0} → TableId → Bool → List T → PlaceView T
place table has log = record { table = table; has = has; log = log }

-- the slots that are out with it: while it has the value, the one in which that was
abbrev pub slots_of : {T : Type 0} → Bool → List (ℕ × Option T)
slots_of true = (0, None) ∷ []
slots_of false = []
