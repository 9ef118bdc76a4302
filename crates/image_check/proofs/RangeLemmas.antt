-- Sums, counts and tests over ranges.
use Rattle.std.proofs.Common.{◌≡◌, ◌≢◌, ℕ, zero, suc, ◌+◌, ◌-◌, ◌<◌, ◌≤◌, Bool, true, false, ◌&&◌, refl, sym, ap, ◌∙◌, arith, inl, inr, Option, Some, None}
use Rattle.std.proofs.lemmas.Bool.{and_parts, and_from, cases_eq, eqb-true, eq-eqb, cases_Bool}
use Rattle.page_map.specs.Pages.{counted, count_range}
use Rattle.page_map.proofs.PageLemmas.{count_range-zero, count_range-more}
use Rattle.image_check.specs.Counts.{sum_range, all_range, is_this}

-- ---- All of a range

pub all-at : (p : ℕ → Bool) (first count : ℕ) → all_range p first count ≡ true → (k : ℕ) → first ≤ k → k < first + count → p k ≡ true
unfolding all_range
all-at p first zero h k low high = absurd (omega arith)
all-at p first (suc count) h k low high = elim (cases_eq k first) [
  | inl same ↦ ap p same ∙ (and_parts (p first) (all_range p (first + 1) count) h).0
  | inr differ ↦ all-at p (first + 1) count (and_parts (p first) (all_range p (first + 1) count) h).1 k (omega arith) (omega arith)
]

pub all-from : (p : ℕ → Bool) (first count : ℕ) → ((k : ℕ) → first ≤ k → k < first + count → p k ≡ true) → all_range p first count ≡ true
unfolding all_range
all-from p first zero h = refl
all-from p first (suc count) h = and_from (p first) (all_range p (first + 1) count) (h first (omega arith) (omega arith)) (all-from p (first + 1) count (λ k low high. h k (omega arith) (omega arith)))

-- ---- Sums

pub sum-none : (f : ℕ → ℕ) (first count : ℕ) → ((k : ℕ) → first ≤ k → k < first + count → f k ≡ 0) → sum_range f first count ≡ 0
unfolding sum_range
sum-none f first zero h = refl
sum-none f first (suc count) h =
    let a = h first (omega arith) (omega arith) in
    let b = sum-none f (first + 1) count (λ k low high. h k (omega arith) (omega arith)) in
    omega (arith, a, b)

pub sum-same : (f g : ℕ → ℕ) (first count : ℕ) → ((k : ℕ) → first ≤ k → k < first + count → f k ≡ g k) → sum_range f first count ≡ sum_range g first count
unfolding sum_range
sum-same f g first zero h = refl
sum-same f g first (suc count) h = λ i. h first (omega arith) (omega arith) i + sum-same f g (first + 1) count (λ k low high. h k (omega arith) (omega arith)) i

-- a sum of which one term alone isn't 0
pub sum-one : (f : ℕ → ℕ) (first count k : ℕ) → first ≤ k → k < first + count → ((j : ℕ) → j ≢ k → f j ≡ 0) → sum_range f first count ≡ f k
unfolding sum_range
sum-one f first zero k low high others = absurd (omega arith)
sum-one f first (suc count) k low high others = elim (cases_eq k first) [
  | inl same ↦
      let rest = sum-none f (first + 1) count (λ j l h. others j (omega arith)) in
      let own : f k ≡ f first = ap f same in
      omega (arith, rest, own)
  | inr differ ↦
      let none = others first (λ e. differ (sym e)) in
      let rest = sum-one f (first + 1) count k (omega arith) (omega arith) others in
      omega (arith, none, rest)
]

pub count-none : (p : ℕ → Bool) (first count : ℕ) → ((k : ℕ) → first ≤ k → k < first + count → p k ≡ false) → count_range p first count ≡ 0
unfolding count_range
count-none p first zero h = refl
count-none p first (suc count) h =
    let a : counted (p first) ≡ 0 = ap counted (h first (omega arith) (omega arith)) in
    let b = count-none p (first + 1) count (λ k low high. h k (omega arith) (omega arith)) in
    omega (arith, a, b)

-- one alone passes
pub count-one : (p : ℕ → Bool) (first count k : ℕ) → first ≤ k → k < first + count → p k ≡ true → ((j : ℕ) → j ≢ k → p j ≡ false) → count_range p first count ≡ 1
unfolding count_range
count-one p first zero k low high own others = absurd (omega arith)
count-one p first (suc count) k low high own others = elim (cases_eq k first) [
  | inl same ↦
      let rest = count-none p (first + 1) count (λ j l h. others j (omega arith)) in
      let one : counted (p first) ≡ 1 = ap counted (ap p (sym same) ∙ own) in
      omega (arith, rest, one)
  | inr differ ↦
      let none : counted (p first) ≡ 0 = ap counted (others first (λ e. differ (sym e))) in
      let rest = count-one p (first + 1) count k (omega arith) (omega arith) own others in
      omega (arith, none, rest)
]

-- a count that isn't 0 has one that passes
pub count-some : (p : ℕ → Bool) (first count : ℕ) → 1 ≤ count_range p first count → (k : ℕ) × (first ≤ k) × (k < first + count) × (p k ≡ true)
unfolding count_range
count-some p first zero h = absurd (omega arith)
count-some p first (suc count) h = elim (cases_Bool (p first)) [
  | inl t ↦ (first, omega arith, omega arith, t)
  | inr f ↦
      let none : counted (p first) ≡ 0 = ap counted f in
      let r = count-some p (first + 1) count (omega arith) in
      let low = r.1 in let high = r.2 in
      (r.0, omega arith, omega arith, r.3)
]

pub count-there : (p : ℕ → Bool) (first count k : ℕ) → first ≤ k → k < first + count → p k ≡ true → 1 ≤ count_range p first count
unfolding count_range
count-there p first zero k low high own = absurd (omega arith)
count-there p first (suc count) k low high own = elim (cases_eq k first) [
  | inl same ↦ let one : counted (p first) ≡ 1 = ap counted (ap p (sym same) ∙ own) in omega arith
  | inr differ ↦ let r = count-there p (first + 1) count k (omega arith) (omega arith) own in omega arith
]

-- ---- This one

pub this-true : (f : ℕ) (x : Option ℕ) → is_this f x ≡ true → x ≡ Some f
this-true f None h = cc
this-true f (Some g) h = ap Some (eqb-true g f h)

pub this-is : (f : ℕ) (x : Option ℕ) → x ≡ Some f → is_this f x ≡ true
this-is f None h = cc
this-is f (Some g) h = eq-eqb g f cc

pub count-same : (p q : ℕ → Bool) (first count : ℕ) → ((k : ℕ) → first ≤ k → k < first + count → p k ≡ q k) → count_range p first count ≡ count_range q first count
unfolding count_range
count-same p q first zero h = refl
count-same p q first (suc count) h = λ i. counted (h first (omega arith) (omega arith) i) + count-same p q (first + 1) count (λ k low high. h k (omega arith) (omega arith)) i

-- ---- Sums in two parts

pub sum-add : (f : ℕ → ℕ) (first count more : ℕ) → sum_range f first (count + more) ≡ sum_range f first count + sum_range f (first + count) more
unfolding sum_range
sum-add f first zero more = let a : 0 + more ≡ more = omega arith in let b : first + 0 ≡ first = omega arith in rw (a, b) (let k = sum_range f first more in omega arith)
sum-add f first (suc count) more =
    let a : suc count + more ≡ suc (count + more) = omega arith in
    let b : first + suc count ≡ first + 1 + count = omega arith in
    ap (sum_range f first) a ∙ (let r = sum-add f (first + 1) count more in let s : sum_range f (first + suc count) more ≡ sum_range f (first + 1 + count) more = ap (λ k. sum_range f k more) b in omega arith)

-- one term more
pub sum-more : (f : ℕ → ℕ) (count : ℕ) → sum_range f 0 (suc count) ≡ sum_range f 0 count + f count
unfolding sum_range
sum-more f count =
    let a : suc count ≡ count + 1 = omega arith in
    let b : sum_range f 0 (suc count) ≡ sum_range f 0 (count + 1) = ap (sum_range f 0) a in
    let c = sum-add f 0 count 1 in
    let d : f (0 + count) ≡ f count = ap f (let e : 0 + count ≡ count = omega arith in e) in
    omega (arith, b, c, d)

-- ---- A loop over a range

pub all_begins : (p : ℕ → Bool) (first : ℕ) → all_range p first (first - first) ≡ true
all_begins p first = all-from p first (first - first) (λ k low high. absurd (omega arith))

pub count_begins : (p : ℕ → Bool) (first : ℕ) → 0 ≡ count_range p first (first - first)
count_begins p first = sym (ap (count_range p first) (let e : first - first ≡ 0 = omega arith in e) ∙ count_range-zero p first)

pub count_goes_on : (p : ℕ → Bool) (first k n more : ℕ) → first ≤ k → n ≡ count_range p first (k - first) → more ≡ counted (p k) → n + more ≡ count_range p first (k + 1 - first)
count_goes_on p first k n more low so_far one =
    let a : k + 1 - first ≡ k - first + 1 = omega arith in
    let b : first + (k - first) ≡ k = omega arith in
    let c : count_range p first (k + 1 - first) ≡ count_range p first (k - first + 1) = ap (count_range p first) a in
    let d : counted (p (first + (k - first))) ≡ counted (p k) = ap (λ j. counted (p j)) b in
    omega (arith, count_range-more p first (k - first))

pub count_done : (p : ℕ → Bool) (first count k n : ℕ) → k ≡ first + count → n ≡ count_range p first (k - first) → n ≡ count_range p first count
count_done p first count k n end so_far = so_far ∙ ap (count_range p first) (let e : k - first ≡ count = omega arith in e)

pub sum_begins : (f : ℕ → ℕ) → 0 ≡ sum_range f 0 0
unfolding sum_range
sum_begins f = refl

pub sum_goes_on : (f : ℕ → ℕ) (k n more : ℕ) → n ≡ sum_range f 0 k → more ≡ f k → n + more ≡ sum_range f 0 (k + 1)
sum_goes_on f k n more so_far one =
    let a : suc k ≡ k + 1 = omega arith in
    let b : sum_range f 0 (suc k) ≡ sum_range f 0 (k + 1) = ap (sum_range f 0) a in
    omega (arith, sum-more f k)

-- ---- A test of each number of a range

-- a range in two parts
pub all-add : (p : ℕ → Bool) (first count more : ℕ) → all_range p first (count + more) ≡ (all_range p first count && all_range p (first + count) more)
unfolding all_range
all-add p first zero more = let a : 0 + more ≡ more = omega arith in let b : first + 0 ≡ first = omega arith in rw (a, b) refl
all-add p first (suc count) more =
    let a : suc count + more ≡ suc (count + more) = omega arith in
    let b : first + 1 + count ≡ first + suc count = omega arith in
    ap (all_range p first) a ∙ ap (λ x. p first && x) (all-add p (first + 1) count more)
    ∙ and_parted (p first) (all_range p (first + 1) count) (all_range p (first + 1 + count) more)
    ∙ ap (λ k. (p first && all_range p (first + 1) count) && all_range p k more) b
  where
    and_parted : (a b c : Bool) → (a && (b && c)) ≡ ((a && b) && c)
    and_parted true b c = refl
    and_parted false b c = refl

pub all_starts : (p : ℕ → Bool) (first : ℕ) → true ≡ all_range p first (first - first)
all_starts p first = sym (all_begins p first)

-- one number more
pub all_grows : (p : ℕ → Bool) (first k : ℕ) (so_far own : Bool) → first ≤ k → so_far ≡ all_range p first (k - first) → own ≡ p k → (so_far && own) ≡ all_range p first (k + 1 - first)
unfolding all_range
all_grows p first k so_far own low a b =
    let c : k + 1 - first ≡ k - first + 1 = omega arith in
    let d : first + (k - first) ≡ k = omega arith in
    (λ i. a i && b i)
    ∙ sym (ap (all_range p first) c ∙ all-add p first (k - first) 1 ∙ ap (λ x. all_range p first (k - first) && x) (one (p (first + (k - first)))) ∙ ap (λ j. all_range p first (k - first) && p j) d)
  where
    one : (b : Bool) → (b && true) ≡ b
    one true = refl
    one false = refl

pub all_ends : (p : ℕ → Bool) (first count k : ℕ) (so_far : Bool) → k ≡ first + count → so_far ≡ all_range p first (k - first) → so_far ≡ all_range p first count
all_ends p first count k so_far end a = a ∙ ap (all_range p first) (let e : k - first ≡ count = omega arith in e)
