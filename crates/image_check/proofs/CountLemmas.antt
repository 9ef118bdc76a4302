-- Counts over ranges are the sizes of sets.
use Rattle.std.proofs.Common.{◌≡◌, ◌≢◌, ℕ, zero, suc, ◌+◌, ◌<◌, ◌≤◌, Bool, true, false, ◌||◌, cond, List, [], ◌∷◌, ◌++◌, map as list_map, refl, sym, ap, ◌∙◌, arith, inl, inr, Option, Some, None, is_some, sum_by}
use Rattle.std.specs.List.{range_with_len, list_any}
use Rattle.std.proofs.lemmas.Bool.{cases_eq}
use Rattle.std.proofs.lemmas.List.Sums.{sum_by-cons}
use Rattle.page_words.specs.FiniteMap as map
use Rattle.page_words.specs.FiniteMap.{Order, Map, same}
use Rattle.page_words.proofs.MapLemmas.{same_itself, get-collect, len-insert}
use Rattle.page_map.specs.Pages.{counted, count_range}
use Rattle.image_check.specs.Counts.{sum_range}

module _ {K : Type 0} (o : Order K) (g : ℕ → K) (apart : (i j : ℕ) → i ≢ j → same o (g i) (g j) ≡ false) where
  pub any-in : (q first count : ℕ) → first ≤ q → q < first + count → list_any (same o (g q)) (list_map g (range_with_len first count)) ≡ true
  any-in q first zero low high = absurd (omega arith)
  any-in q first (suc count) low high = elim (cases_eq q first) [
    | inl e ↦ ap (λ b. b || list_any (same o (g q)) (list_map g (range_with_len (first + 1) count))) (ap (λ j. same o (g q) (g j)) (sym e) ∙ same_itself o (g q))
    | inr n ↦ ap (λ b. b || list_any (same o (g q)) (list_map g (range_with_len (first + 1) count))) (apart q first n) ∙ any-in q (first + 1) count (omega arith) (omega arith)
  ]

  pub any-out : (q first count : ℕ) → q < first → list_any (same o (g q)) (list_map g (range_with_len first count)) ≡ false
  any-out q first zero low = refl
  any-out q first (suc count) low =
      ap (λ b. b || list_any (same o (g q)) (list_map g (range_with_len (first + 1) count))) (apart q first (omega arith)) ∙ any-out q (first + 1) count (omega arith)

pub any-append : {A : Type 0} (t : A → Bool) (xs ys : List A) → list_any t (xs ++ ys) ≡ (list_any t xs || list_any t ys)
any-append t [] ys = refl
any-append t (x ∷ xs) ys = ap (λ b. t x || b) (any-append t xs ys) ∙ or_assoc (t x) (list_any t xs) (list_any t ys)
  where
    or_assoc : (a b c : Bool) → (a || (b || c)) ≡ ((a || b) || c)
    or_assoc true b c = refl
    or_assoc false b c = refl

none-there : {X : Type 0} (b : Bool) (x : Option X) → b ≡ false → is_some (cond b x None) ≡ false
none-there true x h = cc
none-there false x h = refl

module _ {K X : Type 0} (o : Order K) (g : ℕ → K) (apart : (i j : ℕ) → i ≢ j → same o (g i) (g j) ≡ false) (f : K → Option X) where
  len-put_some : (k : K) (x : Option X) (m : Map o X) → map.contains_key m k ≡ false → map.len (map.put_some k x m) ≡ counted (is_some x) + map.len m
  len-put_some k None m h = omega arith
  len-put_some k (Some x) m h = len-insert m k x ∙ ap (λ b. cond b (map.len m) (map.len m + 1)) h ∙ omega arith

  -- what is collected at a range of keys, and at others
  pub len-collect : (rest : List K) → ((k : ℕ) → list_any (same o (g k)) rest ≡ false) → (first count : ℕ)
      → map.len (map.collect {o = o} f (list_map g (range_with_len first count) ++ rest)) ≡ count_range (λ k. is_some (f (g k))) first count + map.len (map.collect {o = o} f rest)
  unfolding count_range
  len-collect rest none first zero = omega arith
  len-collect rest none first (suc count) =
      let others = list_map g (range_with_len (first + 1) count) ++ rest in
      let absent : list_any (same o (g first)) others ≡ false =
      any-append (same o (g first)) (list_map g (range_with_len (first + 1) count)) rest
      ∙ (λ i. any-out o g apart first (first + 1) count (omega arith) i || none first i) in
      let a = len-put_some (g first) (f (g first)) (map.collect {o = o} f others)
      (ap is_some (get-collect o f others (g first)) ∙ none-there (list_any (same o (g first)) others) (f (g first)) absent) in
      let b = len-collect rest none (first + 1) count in
      omega (arith, a, b)

-- ---- Sums

-- the same, as a sum over the list of the numbers
pub sum-listed : (f : ℕ → ℕ) (first count : ℕ) → sum_range f first count ≡ sum_by f (range_with_len first count)
unfolding sum_range
sum-listed f first zero = refl
sum-listed f first (suc count) = ap (λ n. f first + n) (sum-listed f (first + 1) count) ∙ sym (sum_by-cons f first (range_with_len (first + 1) count))
