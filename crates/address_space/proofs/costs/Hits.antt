-- How often a frame is in a list, and that all frames together are there no more often than the list is long.
use Rattle.address_space.proofs.Prelude.{◌≡◌, ℕ, zero, suc, ◌+◌, ◌≤◌, ◌==◌, Bool, true, cond, ◌||◌, List, [], ◌∷◌, ◌++◌, map, length, refl, ap, sym, subst, ◌∙◌, arith, inl, inr, Some, slice_get, list_any, cases_eq, ne_eqb, sum_by-cons, Order, same, same_or_not, Role, weight, frames_weight, eq-eqb}

abbrev pub once : Bool → ℕ
once b = cond b 1 0

-- how often f stands in a list
abbrev pub hits : ℕ → List ℕ → ℕ
hits f [] = 0
hits f (x ∷ xs) = once (x == f) + hits f xs

-- the sum of what g gives for so many numbers from a first one on
abbrev pub sum_from : (ℕ → ℕ) → ℕ → ℕ → ℕ
sum_from g first zero = 0
sum_from g first (suc count) = g first + sum_from g (first + 1) count

sum-none : (g : ℕ → ℕ) (a n : ℕ) → ((f : ℕ) → a ≤ f → g f ≡ 0) → sum_from g a n ≡ 0
sum-none g a zero h = refl
sum-none g a (suc n) h = let own = h a (omega arith) in let rest = sum-none g (a + 1) n (λ f l. h f (omega (arith, l))) in omega (arith, own, rest)

sum-add : (g h : ℕ → ℕ) (a n : ℕ) → sum_from (λ f. g f + h f) a n ≡ sum_from g a n + sum_from h a n
sum-add g h a zero = omega arith
sum-add g h a (suc n) = let rest = sum-add g h (a + 1) n in omega (arith, rest)

-- one place is one frame's
once-most : (x a n : ℕ) → sum_from (λ f. once (x == f)) a n ≤ 1
once-most x a zero = omega arith
once-most x a (suc n) = grind (arith, cases_eq, eq-eqb, sum-none, ne_eqb, once-most x (a + 1) n)

-- all frames together stand in a list no more often than it is long
pub sum-hits : (xs : List ℕ) (a n : ℕ) → sum_from (λ f. hits f xs) a n ≤ length xs
sum-hits [] a n = let none = sum-none (λ f. hits f []) a n (λ f l. refl) in omega (arith, none)
sum-hits (x ∷ xs) a n =
    omega (arith, sum-add (λ f. once (x == f)) (λ f. hits f xs) a n, once-most x a n, sum-hits xs a n)

pub hits-append : (f : ℕ) (xs ys : List ℕ) → hits f (xs ++ ys) ≡ hits f xs + hits f ys
hits-append f [] ys = omega arith
hits-append f (x ∷ xs) ys = let rest = hits-append f xs ys in omega (arith, rest)

-- what g gives of a key of a list stands in the list of all that it gives
pub hits-map : {K : Type 0} (o : Order K) (g : K → ℕ) (k : K) (f : ℕ) (ks : List K) → list_any (same o k) ks ≡ true → g k ≡ f → 1 ≤ hits f (map g ks)
hits-map o g k f [] h e = cc
hits-map o g k f (x ∷ xs) h e = elim (same_or_not o k x) [
  | inl is ↦ let own : once (g x == f) ≡ 1 = ap once (eq-eqb (g x) f (ap g (sym is.0) ∙ e)) in omega (arith, own)
  | inr other ↦ let rest = hits-map o g k f xs (ap (λ b. b || list_any (same o k) xs) (sym other) ∙ h) e in omega (arith, rest)
]

-- where each frame weighs no more than g says, so do all together
pub weights-below : (roles : List Role) (g : ℕ → ℕ) (a : ℕ) → ((i : ℕ) (r : Role) → slice_get roles i ≡ Some r → weight r ≤ g (a + i)) → frames_weight roles ≤ sum_from g a (length roles)
weights-below [] g a h = omega arith
weights-below (r ∷ rs) g a h =
    let here : a + 0 ≡ a = omega arith in
    let rest = weights-below rs g (a + 1) (λ i q is. (let next : a + suc i ≡ a + 1 + i = omega arith in subst (λ k. weight q ≤ g k) next (h (suc i) q is))) in
    omega (arith, sum_by-cons weight r rs, subst (λ k. weight r ≤ g k) here (h 0 r refl), rest)
