-- The first value of an argument, as it was given.
use Rattle.std.proofs.Common.{◌≡◌, ◌∙◌, List, [], ◌∷◌, Option, Some, None, refl, ap}
use Rattle.std.specs.Prelude.{map, option_and_then, option_map, slice_get}
use Rattle.std.specs.Borrow.{Bor}
use Rattle.clap.specs.Matches.{first_value, matched_of, raw_values}
use Rattle.clap.specs.Walk.{Text, all_of, rows_of}
use Rattle.clap.specs.declared.parser.matches.Found.{Found}
use Rattle.clap.specs.declared.parser.matches.MatchedArg.{MatchedArg}
use Rattle.clap.proofs.WalkLemmas.{raw_values-rows}

pub first_is : (f : Found) (id : Text) → first_value f id ≡ option_and_then (λ (values : List Text). slice_get values 0) (all_of id (rows_of f))
first_is f id = go (matched_of f id) ∙ ap (option_and_then (λ (values : List Text). slice_get values 0)) (raw_values-rows f id)
  where
    first : (vs : List (Bor Text)) → option_map (λ s. s.now) (slice_get vs 0) ≡ slice_get (map (λ s. s.now) vs) 0
    first [] = refl
    first (v ∷ vs) = refl

    go : (o : Option MatchedArg) → option_and_then (λ (a : MatchedArg). option_map (λ s. s.now) (slice_get a.vals.items 0)) o ≡ option_and_then (λ (values : List Text). slice_get values 0) (option_map raw_values o)
    go None = refl
    go (Some a) = first a.vals.items
