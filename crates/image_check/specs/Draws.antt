-- Numbers that several helpers draw: what is counted for each drawn number adds up to what is counted for all.
use Rattle.std.specs.Prelude.{◌≡◌, ℕ, ◌+◌, ◌<◌, ◌≤◌, ◌==◌, List, [], ◌∷◌, sum_by}
use Rattle.page_map.specs.Pages.{counted}
use Rattle.image_check.specs.Counts.{sum_range}

-- how often a number is in a list
abbrev pub times : ℕ → List ℕ → ℕ
times x [] = 0
times x (y ∷ ys) = counted (y == x) + times x ys

-- all numbers below n were drawn, each once
pub record AreDrawn (drawn : List ℕ) (n : ℕ) : Type 0 where
  pub below : (x : ℕ) → x < n → times x drawn ≡ 1
  pub above : (x : ℕ) → n ≤ x → times x drawn ≡ 0

-- none was drawn twice, nor one from n on
pub record AreSomeDrawn (drawn : List ℕ) (n : ℕ) : Type 0 where
  pub below : (x : ℕ) → x < n → times x drawn ≤ 1
  pub above : (x : ℕ) → n ≤ x → times x drawn ≡ 0

-- a sum over all drawn numbers is the sum over the range
abbrev pub DrawsAddUp : Type 0
DrawsAddUp = (f : ℕ → ℕ) (drawn : List ℕ) (n : ℕ) → AreDrawn drawn n → sum_by f drawn ≡ sum_range f 0 n

-- so a helper's counts stay below those of all
abbrev pub DrawsStayBelow : Type 0
DrawsStayBelow = (f : ℕ → ℕ) (drawn : List ℕ) (n : ℕ) → AreSomeDrawn drawn n → sum_by f drawn ≤ sum_range f 0 n
