-- The rule of one word and one slot, and what its steps tell.
use Rattle.std.specs.Prelude.{◌≡◌, ℕ, ◌==◌, Bool, true, false, List, [], ◌∷◌, ◌++◌, MatchBool, Option, None, Some}
use mathlib.Core.Option.{some}
use lib.ListN.{get_elem?}
use Rattle.atomic_table.specs.Table.{Me, State, Step}
use Rattle.seat_lock.specs.declared.law.Doing.{Doing}

module _ {T : Type 0} where
  abbrev pub doing : Bool → List T → Doing T
  doing has log = record { has = has; log = log }

  -- the list begins with these
  abbrev pub Begins : List T → List T → Type 0
  Begins log seen = (rest : List T) × (log ≡ seen ++ rest)

  -- the list's last element is this one
  abbrev pub EndsWith : List T → T → Type 0
  EndsWith log x = (before : List T) × (log ≡ before ++ x ∷ [])

  -- Threads know prefixes of the history. The word is 0 while the slot is at home, which holds the last of the history
  -- then; 3 until something was given. At most one thread has what the slot holds; it knows all of the history.
  pub record Holds (s : State (Option T) (Doing T)) : Type 0 where
    pub whole : List T
    pub word : ℕ
    pub words : s.words ≡ word ∷ []
    pub prefix : (k : ℕ) (v : Doing T) → get_elem? s.views k ≡ some v → Begins whole v.log
    pub home : word ≡ 0 → (x : T) × (s.homes ≡ some (Some x) ∷ []) × EndsWith whole x
    pub fresh : word ≡ 3 → (s.homes ≡ some None ∷ []) × (whole ≡ [])
    pub nobody : word ≡ 0 → (k : ℕ) (v : Doing T) → get_elem? s.views k ≡ some v → v.has ≡ false
    pub none : word ≡ 3 → (k : ℕ) (v : Doing T) → get_elem? s.views k ≡ some v → v.has ≡ false
    pub owner : (k : ℕ) (v : Doing T) → get_elem? s.views k ≡ some v → v.has ≡ true → v.log ≡ whole
    pub one : (j k : ℕ) (u v : Doing T) → get_elem? s.views j ≡ some u → get_elem? s.views k ≡ some v → u.has ≡ true → v.has ≡ true → j ≡ k

  -- what a thread knows that took: all of the history, of which it has the last
  pub record HasTaken (v : Doing T) (after : Me (Option T) (Doing T)) : Type 0 where
    pub log : List T
    pub held : T
    pub now : after ≡ (doing true log, (0, Some held) ∷ [])
    pub begins : Begins log v.log
    pub last : EndsWith log held

  -- it took if the word was as expected, and otherwise nothing happened
  abbrev pub Takes : Step (Option T) → Me (Option T) (Doing T) → ℕ → Me (Option T) (Doing T) → Type 0
  Takes s me found after = MatchBool (found == s.first) (HasTaken me.0 after) (after ≡ me)

  -- the same of a first take, of nothing
  abbrev pub Begun : Step (Option T) → Me (Option T) (Doing T) → ℕ → Me (Option T) (Doing T) → Type 0
  Begun s me found after = MatchBool (found == s.first) (after ≡ (doing true [], (0, None) ∷ [])) (after ≡ me)

  -- what it gave is the last of the history
  abbrev pub Gives : Step (Option T) → Me (Option T) (Doing T) → ℕ → Me (Option T) (Doing T) → Type 0
  Gives s me found after = (x : T) → me.1 ≡ (0, Some x) ∷ [] → after ≡ (doing false (me.0.log ++ x ∷ []), [])

  abbrev pub Closes : Step (Option T) → Me (Option T) (Doing T) → ℕ → Me (Option T) (Doing T) → Type 0
  Closes s me found after = after ≡ me
