-- What is counted for each drawn number adds up to what is counted for all.
use Rattle.std.proofs.Common.{◌≡◌, ℕ, zero, suc, ◌+◌, ◌*◌, ◌<◌, ◌≤◌, List, [], ◌∷◌, refl, sym, ap, ◌∙◌, arith, inl, inr, sum_by}
use Rattle.std.specs.Prelude.{◌==◌}
use Rattle.std.proofs.lemmas.Bool.{cases_lt, eq-eqb, ne_eqb}
use Rattle.std.proofs.lemmas.List.Sums.{sum_by-cons}
use Rattle.page_map.specs.Pages.{counted}
use Rattle.image_check.specs.Counts.{sum_range}
use Rattle.image_check.specs.Draws.{times, DrawsAddUp, DrawsStayBelow}
use Rattle.image_check.proofs.RangeLemmas.{sum-none, sum-one, sum-same}

sum-plus : (f g : ℕ → ℕ) (first count : ℕ) → sum_range (λ k. f k + g k) first count ≡ sum_range f first count + sum_range g first count
unfolding sum_range
sum-plus f g first zero = refl
sum-plus f g first (suc count) = let r = sum-plus f g (first + 1) count in omega (arith, r)

sum-le : (f g : ℕ → ℕ) (first count : ℕ) → ((k : ℕ) → first ≤ k → k < first + count → f k ≤ g k) → sum_range f first count ≤ sum_range g first count
unfolding sum_range
sum-le f g first zero h = omega arith
sum-le f g first (suc count) h =
    let a = h first (omega arith) (omega arith) in
    let b = sum-le f g (first + 1) count (λ k low high. h k (omega arith) (omega arith)) in
    omega (arith, a, b)

head-there : (x : ℕ) (xs : List ℕ) → 1 ≤ times x (x ∷ xs)
head-there x xs = let a : counted (x == x) ≡ 1 = ap counted (eq-eqb x x refl) in omega (arith, a)

tail-zero : (x y : ℕ) (ys : List ℕ) → times x (y ∷ ys) ≡ 0 → times x ys ≡ 0
tail-zero x y ys h = omega (arith, h)

head-below : (n x : ℕ) (xs : List ℕ) → ((k : ℕ) → n ≤ k → times k (x ∷ xs) ≡ 0) → x < n
head-below n x xs above = elim (cases_lt x n) [
  | inl low ↦ low
  | inr high ↦ absurd (let a = above x high in let b = head-there x xs in omega (arith, a, b))
]

one-term : (f : ℕ → ℕ) (x n : ℕ) → x < n → sum_range (λ k. counted (x == k) * f k) 0 n ≡ f x
one-term f x n low =
    sum-one (λ k. counted (x == k) * f k) 0 n x (omega arith) (omega (arith, low)) (λ k differ. ap (λ c. c * f k) (ap counted (ne_eqb x k (λ e. differ (sym e)))) ∙ zero-times (f k))
    ∙ ap (λ c. c * f x) (ap counted (eq-eqb x x refl)) ∙ one-times (f x)
  where
    zero-times : (m : ℕ) → 0 * m ≡ 0
    zero-times m = omega arith

    one-times : (m : ℕ) → 1 * m ≡ m
    one-times m = omega arith

add-times : (a b c : ℕ) → (a + b) * c ≡ a * c + b * c
add-times a b c = omega arith

-- a sum over a list of numbers below n, by how often each stands in it
weighted : (f : ℕ → ℕ) (xs : List ℕ) (n : ℕ) → ((k : ℕ) → n ≤ k → times k xs ≡ 0) → sum_by f xs ≡ sum_range (λ k. times k xs * f k) 0 n
weighted f [] n above = sym (sum-none (λ k. 0 * f k) 0 n (λ k low high. zero-times (f k)))
  where
    zero-times : (m : ℕ) → 0 * m ≡ 0
    zero-times m = omega arith
weighted f (x ∷ xs) n above =
    let a = sum_by-cons f x xs in
    let b = weighted f xs n (λ k high. tail-zero k x xs (above k high)) in
    let c = one-term f x n (head-below n x xs above) in
    let d = sum-plus (λ k. counted (x == k) * f k) (λ k. times k xs * f k) 0 n in
    let e = sum-same (λ k. times k (x ∷ xs) * f k) (λ k. counted (x == k) * f k + times k xs * f k) 0 n (λ k _ _. add-times (counted (x == k)) (times k xs) (f k)) in
    omega (arith, a, b, c, d, e)

pub draws_add_up : DrawsAddUp
draws_add_up f drawn n h =
    weighted f drawn n h.above
    ∙ sum-same (λ k. times k drawn * f k) f 0 n (λ k low high. ap (λ t. t * f k) (h.below k (omega (arith, high))) ∙ one-times (f k))
  where
    one-times : (m : ℕ) → 1 * m ≡ m
    one-times m = omega arith

at-most-once : (t m : ℕ) → t ≤ 1 → t * m ≤ m
at-most-once zero m h = omega arith
at-most-once (suc zero) m h = omega arith
at-most-once (suc (suc t)) m h = absurd (omega arith)

pub draws_stay_below : DrawsStayBelow
draws_stay_below f drawn n h =
    let a = weighted f drawn n h.above in
    let b = sum-le (λ k. times k drawn * f k) f 0 n (λ k low high. at-most-once (times k drawn) (f k) (h.below k (omega (arith, high)))) in
    omega (arith, a, b)
