-- A finite set that computes: a `Map` with nothing at each key.
use Rattle.std.proofs.Common.{ℕ, Bool, List, [], ◌∷◌}
use Rattle.page_words.specs.FiniteMap as map
use Rattle.page_words.specs.FiniteMap.{Order, Map}

-- a finite set: a finite map to nothing
abbrev pub Set : {K : Type 0} → Order K → Type 0
Set o = Map o (Unit {0})

module _ {K : Type 0} {o : Order K} where
  abbrev pub empty : Set o
  empty = map.empty

  abbrev pub contains : Set o → K → Bool
  contains s k = map.contains_key s k

  abbrev pub insert : Set o → K → Set o
  insert s k = map.insert s k tt

  abbrev pub remove : Set o → K → Set o
  remove s k = map.remove s k

  -- the members that pass the test
  abbrev pub retain : Set o → (K → Bool) → Set o
  retain s p = map.retain_keys s p

  abbrev pub len : Set o → ℕ
  len s = map.len s

  abbrev pub items : Set o → List K
  items s = map.keys s

  abbrev pub from_list : List K → Set o
  from_list [] = empty
  from_list (k ∷ ks) = insert (from_list ks) k
