-- Sums over a map's entries as sums over the numbers below a bound.
use Rattle.process_table.proofs.Prelude.{◌≡◌, ℕ, ◌<◌, ◌&&◌, Bool, true, cond, List, [], ◌∷◌, refl, sym, ap, subst, ◌∙◌, Option, Some, None, is_some, sum_by, arith, inl, inr, T, nat_cmp, range_with_len, cases_eq, sum_by-cons, Map, nat_order, cost, directory_of, live_cost, total_cost, sum_one, State, is_live, total, eqb-true, eq-eqb, unsigned_tied, below_all, is_sorted, lt_not_eq}
use Rattle.std.specs.FinMap.Entries.{find}
use Rattle.page_words.specs.FiniteMap as map

-- what g gives of a value, and 0 of none
abbrev pub found : {X : Type 0} → (X → ℕ) → Option X → ℕ
found g None = 0
found g (Some x) = g x

-- sums of the same terms are the same
pub sum-same : {A : Type 0} (f g : A → ℕ) (xs : List A) → ((x : A) → f x ≡ g x) → sum_by f xs ≡ sum_by g xs
sum-same f g xs is = grind (arith, sum_by-cons)

-- a sum of zeros is 0
pub sum-zero : {A : Type 0} (xs : List A) → 0 ≡ sum_by (λ (_ : A). 0) xs
sum-zero [] = refl
sum-zero {A} (x ∷ xs) = let a = sum_by-cons (λ (_ : A). 0) x xs in let d = sum-zero xs in omega (arith, a, d)

both : (a b : Bool) → T (a && b) → T a × T b
both a b h = grind arith

module _ {X : Type 0} where
  -- a key below all entries is none of them
  find-below : (k : ℕ) (es : List (ℕ × X)) → T (below_all nat_cmp k es) → find nat_cmp k es ≡ None
  find-below k [] h = refl
  find-below k (e ∷ es) h = ap (λ b. cond b (Some e.1) (find nat_cmp k es)) (lt_not_eq (nat_cmp k e.0) (both _ _ h).0) ∙ find-below k es (both _ _ h).1

  find-head : (e : ℕ × X) (es : List (ℕ × X)) → find nat_cmp e.0 (e ∷ es) ≡ Some e.1
  find-head e es = ap (λ b. cond b (Some e.1) (find nat_cmp e.0 es)) (unsigned_tied e.0 e.0 ∙ eq-eqb e.0 e.0 refl)

  sum-entries : (f : ℕ → X → ℕ) (n : ℕ) (es : List (ℕ × X)) → T (is_sorted nat_cmp es) → ((k : ℕ) (x : X) → find nat_cmp k es ≡ Some x → k < n)
      → sum_by (λ e. f e.0 e.1) es ≡ sum_by (λ k. found (f k) (find nat_cmp k es)) (range_with_len 0 n)
  sum-entries f n [] h keys = sum-zero (range_with_len 0 n)
  sum-entries f n (e ∷ es) h keys =
      let none = find-below e.0 es (both _ _ h).0 in
      let small : e.0 < n = keys e.0 e.1 (find-head e es) in
      let b = sum-entries f n es ((both (below_all nat_cmp e.0 es) (is_sorted nat_cmp es) h).1) later in
      let c = sum_one (λ k. found (f k) (find nat_cmp k (e ∷ es))) (λ k. found (f k) (find nat_cmp k es)) e.0 (f e.0 e.1) 0 n (omega arith) (omega (arith, small)) (grind (arith, find-head, find-below, both)) (λ q differ. ap (found (f q)) (grind (arith, eqb-true))) in
      omega (arith, sum_by-cons (λ (e : ℕ × X). f e.0 e.1) e es, b, c)
    where
      later : (k : ℕ) (x : X) → find nat_cmp k es ≡ Some x → k < n
      later k x is = elim (cases_eq k e.0) [
        | inl same ↦ subst (λ j. j < n) (sym same) (keys e.0 e.1 (find-head e es))
        | inr differ ↦ keys k x ((grind (arith, eqb-true)) ∙ is)
      ]

  -- a sum over a map's entries is one over the numbers below n, where all its keys are
  pub sum-range : (m : Map nat_order X) (f : ℕ → X → ℕ) (n : ℕ) → ((k : ℕ) (x : X) → map.get m k ≡ Some x → k < n)
      → sum_by (λ e. f e.0 e.1) m.entries ≡ sum_by (λ k. found (f k) (map.get m k)) (range_with_len 0 n)
  sum-range m f n keys = sum-entries f n m.entries m.sorted keys

-- costs summed over directories are those summed over the book
pub total-book : (directories : List (Option ℕ)) (s : State) → ((p : ℕ) → is_some (directory_of directories p) ≡ is_live s p) → ((p : ℕ) → is_live s p ≡ true → p < 64) → total_cost directories s.spaces ≡ total s
unfolding total_cost
total-book directories s live small =
    sum-same (live_cost (directory_of directories) s.spaces) (λ k. found (λ _. cost s.spaces k) (map.get s.book k)) (range_with_len 0 64) (λ p. (grind arith))
    ∙ sym (sum-range s.book (λ k _. cost s.spaces k) 64 (λ k x is. small k (ap is_some is)))
