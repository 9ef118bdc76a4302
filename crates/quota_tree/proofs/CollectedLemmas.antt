-- What the map of a list of options answers, and what a write into the list leaves of it.
use Rattle.quota_tree.proofs.Prelude
use Prelude.{◌≡◌, ℕ, zero, suc, ◌+◌, ◌<◌, inl, inr, Bool, cond, List, [], ◌∷◌, length, replicate, get_or, refl, sym, ap, ◌∙◌, Option, Some, None, arith, position, slice_set, option_map, get_or-set_same, get_or-set_other, nat_order, collected_from, collected, find, range_with_len, get-insert, same_itself, same_map, get-remove, same_cases, same_apart}
use Rattle.page_words.specs.FiniteMap as map

module _ {C X : Type 0} (f : C → X) where
  pub get-before : (start : ℕ) (values : List (Option C)) (q : ℕ) → q < start → map.get (collected_from f start values) q ≡ None
  get-before start [] q h = refl
  get-before start (None ∷ values) q h = get-before (start + 1) values q (omega arith)
  get-before start (Some c ∷ values) q h =
      grind (arith, get-insert, same_apart, get-before (start + 1) values q (omega arith))

  get-at : (start : ℕ) (values : List (Option C)) (i q : ℕ) → q ≡ start + i → map.get (collected_from f start values) q ≡ option_map f (get_or values i None)
  get-at start [] i q e = refl
  get-at start (None ∷ values) zero q e = get-before (start + 1) values q (omega arith)
  get-at start (None ∷ values) (suc i) q e = get-at (start + 1) values i q (omega arith)
  get-at start (Some c ∷ values) zero q e = grind (arith, get-insert, same_itself)
  get-at start (Some c ∷ values) (suc i) q e =
      grind (arith, get-insert, same_apart, get-at (start + 1) values i q (omega arith))

  -- the map answers as the list does
  pub get-collected : (values : List (Option C)) (q : ℕ) → map.get (collected f values) q ≡ option_map f (get_or values q None)
  unfolding collected
  get-collected values q = get-at 0 values q q (omega arith)

  pub collected_from-replicate : (start n : ℕ) → collected_from f start (replicate n None) ≡ map.empty
  collected_from-replicate start zero = refl
  collected_from-replicate start (suc n) = collected_from-replicate (start + 1) n

  -- one value more, or another in its place
  pub collected-set : (values : List (Option C)) (k : ℕ) (c : C) → k < length values → collected f (slice_set values k (Some c)) ≡ map.insert (collected f values) k (f c)
  collected-set values k c h = same_map (collected f (slice_set values k (Some c))) (map.insert (collected f values) k (f c)) (λ q.
      get-collected (slice_set values k (Some c)) q
      ∙ elim (same_cases nat_order q k) [
        | inl is ↦ ap (λ j. option_map f (get_or (slice_set values k (Some c)) j None)) is.0 ∙ ap (option_map f) (get_or-set_same values k (Some c) None h) ∙ ap (λ b. cond b (Some (f c)) (map.get (collected f values) q)) (sym is.1)
        | inr other ↦ ap (option_map f) (get_or-set_other values k q (Some c) None other.0) ∙ sym (get-collected values q) ∙ ap (λ b. cond b (Some (f c)) (map.get (collected f values) q)) (sym other.1)
      ]
      ∙ sym (get-insert (collected f values) k (f c) q))

  -- one value less
  pub collected-unset : (values : List (Option C)) (k : ℕ) → k < length values → collected f (slice_set values k None) ≡ map.remove (collected f values) k
  collected-unset values k h = same_map (collected f (slice_set values k None)) (map.remove (collected f values) k) (λ q.
      get-collected (slice_set values k None) q
      ∙ elim (same_cases nat_order q k) [
        | inl is ↦ ap (λ j. option_map f (get_or (slice_set values k None) j None)) is.0 ∙ ap (option_map f) (get_or-set_same values k None None h) ∙ ap (λ b. cond b None (map.get (collected f values) q)) (sym is.1)
        | inr other ↦ ap (option_map f) (get_or-set_other values k q None None other.0) ∙ sym (get-collected values q) ∙ ap (λ b. cond b None (map.get (collected f values) q)) (sym other.1)
      ]
      ∙ sym (get-remove (collected f values) k q))

module _ {X : Type 0} (p : X → Bool) (t : ℕ → Bool) (start : ℕ) (x : X) (xs : List X) where
  find-step : t start ≡ p x → find t (range_with_len (start + 1) (length xs)) ≡ option_map (λ i. (start + 1) + i) (position p xs) → (b : Bool) → p x ≡ b
      → find t (range_with_len start (length (x ∷ xs))) ≡ option_map (λ i. start + i) (position p (x ∷ xs))
  find-step here rest b is = grind arith

-- the first number that passes a test is the first place that does
pub find-position : {X : Type 0} (p : X → Bool) (t : ℕ → Bool) (d : X) (start : ℕ) (xs : List X)
    → ((i : ℕ) → i < length xs → t (start + i) ≡ p (get_or xs i d)) → find t (range_with_len start (length xs)) ≡ option_map (λ i. start + i) (position p xs)
find-position p t d start [] alike = refl
find-position p t d start (x ∷ xs) alike =
    let e : start ≡ start + 0 = omega arith in
    find-step p t start x xs
    (ap t e ∙ alike 0 (omega arith))
    (find-position p t d (start + 1) xs (λ i h. (let k : (start + 1) + i ≡ start + suc i = omega arith in ap t k ∙ alike (suc i) (omega arith))))
    (p x) refl
