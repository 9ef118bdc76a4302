-- A list of options as a finite map from number to value.
use Rattle.std.specs.Prelude.{ℕ, ◌+◌, List, [], ◌∷◌, Option, Some, None}
use Rattle.page_words.specs.FiniteMap as map
use Rattle.page_words.specs.FiniteMap.{Map, nat_order}

-- what f gives of each value that is there, where the list begins at this number
abbrev pub collected_from : {C X : Type 0} → (C → X) → ℕ → List (Option C) → Map nat_order X
collected_from f start [] = map.empty
collected_from f start (None ∷ values) = collected_from f (start + 1) values
collected_from f start (Some value ∷ values) = map.insert (collected_from f (start + 1) values) start (f value)

-- a map of the values that are there, by place
unfoldable pub collected : {C X : Type 0} → (C → X) → List (Option C) → Map nat_order X
collected f values = collected_from f 0 values
