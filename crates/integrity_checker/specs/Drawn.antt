-- The numbers that are drawn from one word, each by one seat.
use Rattle.std.specs.Prelude.{◌≡◌, ℕ, ◌+◌, ◌<◌, ◌≤◌, min, nat_lt, List, [], ◌∷◌, ◌++◌, length, slice_index, Bool, true, false}
use mathlib.Core.Option.{some}
use lib.ListN.{get_elem?}
use Rattle.atomic_table.specs.Table.{State, Me, Step}
use Rattle.page_map.specs.Pages.{counted}
use Rattle.memory_image.specs.Image.{Image}
use Rattle.image_check.specs.Draws.{times}
use Rattle.integrity_checker.specs.declared.draw.Drawer.{Drawer}

-- a helper's view with these parts
abbrev pub drawer : Image → ℕ → List ℕ → Bool → Drawer
drawer image share drawn done = record { image = image; share = share; drawn = drawn; done = done }

-- f of each view, added up
unfoldable pub total : (Drawer → ℕ) → List Drawer → ℕ
total f [] = 0
total f (v ∷ vs) = f v + total f vs

-- 1 for a number below n, and else 0
abbrev pub once_below : ℕ → ℕ → ℕ
once_below x n = counted (nat_lt x n)

-- the share in a view
abbrev pub share_of : Drawer → ℕ
share_of v = v.share

-- v where it is so, and else 0
abbrev pub where_so : Bool → ℕ → ℕ
where_so true k = k
where_so false k = 0

-- the share of a seat that is done
abbrev pub spent_of : Drawer → ℕ
spent_of v = where_so v.done v.share

-- how often a view has drawn x
abbrev pub times_of : ℕ → Drawer → ℕ
times_of x v = times x v.drawn

-- a seat that has drawn nothing yet
abbrev pub IsIdle : Drawer → Type 0
IsIdle v = (v.drawn ≡ []) × (v.done ≡ false)

-- a seat without a share has drawn nothing, and the word of one that is done is 64 or more
abbrev pub FitsSeat : ℕ → Drawer → Type 0
FitsSeat word v = (v.share ≡ 0 → v.drawn ≡ []) × (v.done ≡ true → 64 ≤ word)

-- The word and the views of n helpers. Each number below 64 and below the word is in one list, once, and no other
-- number is in any. The shares are those of n helpers, and each helper that is done has drawn once more.
abbrev pub ViewsFit : ℕ → ℕ → List Drawer → Type 0
ViewsFit n word views =
    ((x : ℕ) → total (times_of x) views ≡ once_below x (min word 64))
    × (total share_of views ≡ n)
    × (word ≤ 64 + total spent_of views)
    × ((seat : ℕ) (v : Drawer) → get_elem? views seat ≡ some v → FitsSeat word v)

-- the rule of n helpers, at most 8, over one word
abbrev pub Given : ℕ → State ℕ Drawer → Type 0
Given n s = (n ≤ 8) × (length s.words ≡ 1) × ViewsFit n (slice_index s.words 0) s.views

-- one draw: a number that the seat had not drawn, or none is left
abbrev pub Drew : Step ℕ → Me ℕ Drawer → ℕ → Me ℕ Drawer → Type 0
Drew st m found m' =
    (m'.1 ≡ m.1)
    × (found < 64 → (m'.0 ≡ drawer m.0.image m.0.share (m.0.drawn ++ found ∷ []) m.0.done) × (times found m.0.drawn ≡ 0))
    × (64 ≤ found → m'.0 ≡ drawer m.0.image m.0.share m.0.drawn true)

-- what a seat with all shares that is done learns
abbrev pub Totals : Step ℕ → Me ℕ Drawer → ℕ → Me ℕ Drawer → Type 0
Totals st m found m' = (m' ≡ m) × ((x : ℕ) → times x m.0.drawn ≡ once_below x 64)

-- both views, of the first one's image
abbrev pub gathered : Drawer → Drawer → Drawer
gathered v w = drawer v.image (v.share + w.share) (v.drawn ++ w.drawn) true

-- what is left of a view that was put to another
abbrev pub spent : Drawer
spent = drawer (record { version = 1; processes = []; roles = []; bytes = [] }) 0 [] false
