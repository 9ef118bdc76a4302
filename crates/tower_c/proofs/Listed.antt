-- Values that are written in places of a list.
use Rattle.std.proofs.Common.{◌≡◌, ℕ, ◌+◌, ◌<◌, ◌≤◌, ◌∙◌, List, [], ◌∷◌, ◌++◌, length, map, take, drop, set, ap, sym, arith, append_assoc, length-append, drop-drop}
use Rattle.std.specs.Prelude.{slice_index_or}
use Rattle.std.proofs.lemmas.List.{map-append, take_more_set, take_at, drop_at, length-take-le, take-append-drop, drop-append-le}
use borrow.Rule.Slice.PartMut.{put_mid}
use Rattle.tower_c.proofs.RunLemmas.{take_one, begins}

-- one value more in the first places, as a function makes it of another list's
pub one_more_of : {A B : Type 0} (f : A → B) (xs : List A) (ys : List B) (i : ℕ) (x : A) (d : B) → i < length xs → i < length ys → f x ≡ slice_index_or ys i d
    → map f (take i xs) ≡ take i ys → map f (take (i + 1) (set xs i x)) ≡ take (i + 1) ys
one_more_of f xs ys i x d here there is same =
    ap (map f) (take_more_set xs i x here) ∙ map-append f (take i xs) (x ∷ []) ∙ (λ j. same j ++ is j ∷ [])
    ∙ sym (take_one ys i (slice_index_or ys i d) (drop (i + 1) ys) (begins ys i d there)).0

-- a list with a part of k places from a on, the first of which were written
module _ {X : Type 0} (xs old part : List X) (a k more : ℕ) (here : a ≤ length xs) (within : more ≤ length part) where
  first : length (take a xs ++ take more part) ≡ a + more
  first = let p = length-take-le a xs here in let q = length-take-le more part within in length-append (take a xs) (take more part) ∙ (λ i. p i + q i)

  split : put_mid a k xs part ≡ (take a xs ++ take more part) ++ (drop more part ++ drop k (drop a xs))
  split =
      ap (λ l. take a xs ++ (l ++ drop k (drop a xs))) (sym (take-append-drop more part))
      ∙ ap (λ l. take a xs ++ l) (append_assoc (take more part) (drop more part) (drop k (drop a xs)))
      ∙ sym (append_assoc (take a xs) (take more part) (drop more part ++ drop k (drop a xs)))

  -- those that were written follow the ones before
  pub part_take : take (a + more) (put_mid a k xs part) ≡ take a xs ++ take more part
  part_take = ap (take (a + more)) split ∙ take_at (take a xs ++ take more part) (drop more part ++ drop k (drop a xs)) (a + more) first

  pub part_long : a + more ≤ length (put_mid a k xs part)
  part_long =
      let s = ap length split ∙ length-append (take a xs ++ take more part) (drop more part ++ drop k (drop a xs)) in
      let f = first in
      omega (arith, s, f)

  -- and the others are as they were
  pub part_rest : drop a xs ≡ drop a old → length part ≡ length (take k (drop a xs)) → drop more part ≡ drop more (take k (drop a xs))
      → drop (a + more) (put_mid a k xs part) ≡ drop (a + more) old
  part_rest rest long same =
      ap (drop (a + more)) split ∙ drop_at (take a xs ++ take more part) (drop more part ++ drop k (drop a xs)) (a + more) first
      ∙ ap (λ l. l ++ drop k (drop a xs)) same
      ∙ sym (drop-append-le more (take k (drop a xs)) (drop k (drop a xs)) (omega (arith, within, long)))
      ∙ ap (drop more) (take-append-drop k (drop a xs) ∙ rest) ∙ drop-drop more a old
