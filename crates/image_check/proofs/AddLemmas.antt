-- What was added to counts, step by step.
use Rattle.std.proofs.Common.{◌≡◌, ℕ, zero, suc, ◌+◌, ◌-◌, ◌*◌, ◌<◌, ◌≤◌, Bool, true, false, List, length, length-set, mul-le-mul_left, mul-one, mul-zero, one-mul, refl, sym, ap, subst, ◌∙◌, arith, inl, inr, Option, Some, None}
use Rattle.std.specs.Prelude.{slice_index, slice_set, ◌==◌}
use Rattle.std.proofs.lemmas.Bool.{cases_eq, eq-eqb, ne_eqb}
use Rattle.std.proofs.lemmas.List.{get_or-set_same, get_or-set_other}
use Rattle.page_map.specs.Pages.{counted, count_range}
use Rattle.page_map.proofs.PageLemmas.{count_range-le, count_range-zero, count_slot, count_end}
use Rattle.image_check.specs.Counts.{is_this, sum_range}
use Rattle.image_check.specs.Adds.{Adds, HaveRoom, MayGrow, AreZeros}
use Rattle.image_check.proofs.RangeLemmas.{count_begins, count_goes_on, count_done, sum_begins, sum_goes_on}

-- nothing was added
pub adds_nothing : (xs : List ℕ) (k : ℕ → ℕ) → ((f : ℕ) → k f ≡ 0) → Adds xs xs k
adds_nothing xs k none = record { same = refl; each = λ f inside. omega (arith, none f) }

-- first this, then that
pub adds_both : (xs ys zs : List ℕ) (k j m : ℕ → ℕ) → Adds xs ys k → Adds ys zs j → ((f : ℕ) → k f + j f ≡ m f) → Adds xs zs m
adds_both xs ys zs k j m a b sum = record {
  same = b.same ∙ a.same;
  each = λ f inside. let s = a.same in omega (arith, a.each f inside, b.each f (omega arith), sum f);
}

pub adds_alike : (xs ys : List ℕ) (k j : ℕ → ℕ) → ((f : ℕ) → k f ≡ j f) → Adds xs ys k → Adds xs ys j
adds_alike xs ys k j alike a = record { same = a.same; each = λ f inside. omega (arith, a.each f inside, alike f) }

-- what room is left
pub room_left : (xs ys : List ℕ) (k : ℕ → ℕ) (most more : ℕ) → HaveRoom xs most → Adds xs ys k → ((f : ℕ) → k f + more ≤ most) → HaveRoom ys more
room_left xs ys k most more room a fits f inside =
    let s = a.same in
    let i : f < length xs = omega arith in
    omega (arith, room f i, a.each f i, fits f)

-- one more of a range
pub adds_goes_on : (p : ℕ → ℕ → Bool) (xs ys zs : List ℕ) (first k : ℕ) → first ≤ k
    → Adds xs ys (λ f. count_range (p f) first (k - first)) → Adds ys zs (λ f. counted (p f k)) → Adds xs zs (λ f. count_range (p f) first (k + 1 - first))
adds_goes_on p xs ys zs first k low a b = adds_both xs ys zs (λ f. count_range (p f) first (k - first)) (λ f. counted (p f k)) (λ f. count_range (p f) first (k + 1 - first)) a b
    (λ f. count_goes_on (p f) first k (count_range (p f) first (k - first)) (counted (p f k)) low refl refl)

pub adds_begins : (p : ℕ → ℕ → Bool) (xs : List ℕ) (first : ℕ) → Adds xs xs (λ f. count_range (p f) first (first - first))
adds_begins p xs first = adds_nothing xs (λ f. count_range (p f) first (first - first)) (λ f. sym (count_begins (p f) first))

pub adds_done : (p : ℕ → ℕ → Bool) (xs ys : List ℕ) (first count k : ℕ) → k ≡ first + count → Adds xs ys (λ f. count_range (p f) first (k - first)) → Adds xs ys (λ f. count_range (p f) first count)
adds_done p xs ys first count k end a = adds_alike xs ys (λ f. count_range (p f) first (k - first)) (λ f. count_range (p f) first count)
    (λ f. count_done (p f) first count k (count_range (p f) first (k - first)) end refl) a

-- room for one more of a range
pub room_goes_on : (p : ℕ → ℕ → Bool) (xs ys : List ℕ) (first count k : ℕ) → first ≤ k → k < first + count → HaveRoom xs count
    → Adds xs ys (λ f. count_range (p f) first (k - first)) → HaveRoom ys 1
room_goes_on p xs ys first count k low high room a = room_left xs ys (λ f. count_range (p f) first (k - first)) count 1 room a
    (λ f. let n = count_range-le (p f) first (k - first) in omega arith)

-- so many more at one place
pub adds_more : (xs : List ℕ) (times place : ℕ) → place < length xs → Adds xs (slice_set xs place (slice_index xs place + times)) (λ f. times * counted (is_this f (Some place)))
adds_more xs times place inside = record {
  same = length-set xs place (slice_index xs place + times);
  each = λ f within. elim (cases_eq f place) [
    | inl e ↦
        let a : slice_index (slice_set xs place (slice_index xs place + times)) f ≡ slice_index xs place + times = ap (slice_index (slice_set xs place (slice_index xs place + times))) e ∙ get_or-set_same xs place (slice_index xs place + times) 0 inside in
        let b : times * counted (place == f) ≡ times = ap (λ c. times * counted c) (eq-eqb place f (sym e)) ∙ mul-one times in
        let d : slice_index xs f ≡ slice_index xs place = ap (slice_index xs) e in
        omega (arith, a, b, d)
    | inr n ↦
        let a : slice_index (slice_set xs place (slice_index xs place + times)) f ≡ slice_index xs f = get_or-set_other xs place f (slice_index xs place + times) 0 n in
        let b : times * counted (place == f) ≡ 0 = ap (λ c. times * counted c) (ne_eqb place f (λ e. n (sym e))) ∙ mul-zero times in
        omega (arith, a, b)
  ];
}

pub adds_past : (xs : List ℕ) (times place : ℕ) → length xs ≤ place → Adds xs xs (λ f. times * counted (is_this f (Some place)))
adds_past xs times place past = record {
  same = refl;
  each = λ f within.
      let b : times * counted (place == f) ≡ 0 = ap (λ c. times * counted c) (ne_eqb place f (λ e. let k : place < length xs = subst (λ j. j < length xs) (sym e) within in omega arith)) ∙ mul-zero times in
      omega (arith, b);
}

pub adds_none : (xs : List ℕ) (times : ℕ) → Adds xs xs (λ f. times * counted (is_this f None))
adds_none xs times = adds_nothing xs (λ f. times * counted (is_this f None)) (λ f. mul-zero times)

at-most-one : (b : Bool) → counted b ≤ 1
at-most-one true = omega arith
at-most-one false = omega arith

-- once is one more
pub once : (xs ys : List ℕ) (x : Option ℕ) → Adds xs ys (λ f. 1 * counted (is_this f x)) → Adds xs ys (λ f. counted (is_this f x))
once xs ys x a = adds_alike xs ys (λ f. 1 * counted (is_this f x)) (λ f. counted (is_this f x)) (λ f. one-mul (counted (is_this f x))) a

pub room_once : (xs : List ℕ) (x : Option ℕ) → HaveRoom xs 1 → MayGrow xs (λ f. 1 * counted (is_this f x))
room_once xs x room f inside = let n = at-most-one (is_this f x) in let e = one-mul (counted (is_this f x)) in omega (arith, room f inside, n, e)

-- room for one slot more of a process's pages
pub pages_room : (p : ℕ → ℕ → Bool) (xs ys : List ℕ) (slot : ℕ) → 256 ≤ slot → slot < 960 → HaveRoom xs 720896
    → Adds xs ys (λ f. count_range (p f) 0x40000 (1024 * (slot - 256))) → HaveRoom ys 1024
pages_room p xs ys slot low high room a = room_left xs ys (λ f. count_range (p f) 0x40000 (1024 * (slot - 256))) 720896 1024 room a
    (λ f. let n = count_range-le (p f) 0x40000 (1024 * (slot - 256)) in omega arith)

pub pages_go_on : (p : ℕ → ℕ → Bool) (xs ys zs : List ℕ) (slot : ℕ) → 256 ≤ slot
    → Adds xs ys (λ f. count_range (p f) 0x40000 (1024 * (slot - 256))) → Adds ys zs (λ f. count_range (p f) (1024 * slot) 1024) → Adds xs zs (λ f. count_range (p f) 0x40000 (1024 * (slot + 1 - 256)))
pages_go_on p xs ys zs slot low a b = adds_both xs ys zs (λ f. count_range (p f) 0x40000 (1024 * (slot - 256))) (λ f. count_range (p f) (1024 * slot) 1024) (λ f. count_range (p f) 0x40000 (1024 * (slot + 1 - 256))) a b
    (λ f. count_slot (p f) slot (count_range (p f) 0x40000 (1024 * (slot - 256))) (count_range (p f) (1024 * slot) 1024) low refl refl)

pub pages_done : (p : ℕ → ℕ → Bool) (xs ys : List ℕ) (slot : ℕ) → slot ≡ 960 → Adds xs ys (λ f. count_range (p f) 0x40000 (1024 * (slot - 256))) → Adds xs ys (λ f. count_range (p f) 0x40000 0xb0000)
pages_done p xs ys slot end a = adds_alike xs ys (λ f. count_range (p f) 0x40000 (1024 * (slot - 256))) (λ f. count_range (p f) 0x40000 0xb0000)
    (λ f. count_end (p f) slot (count_range (p f) 0x40000 (1024 * (slot - 256))) end refl) a

pub pages_begin : (p : ℕ → ℕ → Bool) (xs : List ℕ) → Adds xs xs (λ f. count_range (p f) 0x40000 (1024 * (256 - 256)))
pages_begin p xs = adds_nothing xs (λ f. count_range (p f) 0x40000 (1024 * (256 - 256))) (λ f. ap (count_range (p f) 0x40000) (let e : 1024 * (256 - 256) ≡ 0 = omega arith in e) ∙ count_range-zero (p f) 0x40000)

pub adds_of : (xs ys : List ℕ) (x y : Option ℕ) → x ≡ y → Adds xs ys (λ f. counted (is_this f x)) → Adds xs ys (λ f. counted (is_this f y))
adds_of xs ys x y e a = subst (λ z. Adds xs ys (λ f. counted (is_this f z))) e a

-- ---- All processes

pub sum_bound : (f : ℕ → ℕ) (most first count : ℕ) → ((k : ℕ) → f k ≤ most) → sum_range f first count ≤ count * most
unfolding sum_range
sum_bound f most first zero h = omega arith
sum_bound f most first (suc count) h = let a = h first in let b = sum_bound f most (first + 1) count h in let c : suc count * most ≡ most + count * most = omega arith in omega (arith, a, b, c)

pub sums_begin : (g : ℕ → ℕ → ℕ) (xs : List ℕ) → Adds xs xs (λ f. sum_range (g f) 0 0)
sums_begin g xs = adds_nothing xs (λ f. sum_range (g f) 0 0) (λ f. sym (sum_begins (g f)))

pub sums_go_on : (g : ℕ → ℕ → ℕ) (xs ys zs : List ℕ) (k : ℕ) → Adds xs ys (λ f. sum_range (g f) 0 k) → Adds ys zs (λ f. g f k) → Adds xs zs (λ f. sum_range (g f) 0 (k + 1))
sums_go_on g xs ys zs k a b = adds_both xs ys zs (λ f. sum_range (g f) 0 k) (λ f. g f k) (λ f. sum_range (g f) 0 (k + 1)) a b
    (λ f. sum_goes_on (g f) k (sum_range (g f) 0 k) (g f k) refl refl)

pub sums_done : (g : ℕ → ℕ → ℕ) (xs ys : List ℕ) (k : ℕ) → k ≡ 64 → Adds xs ys (λ f. sum_range (g f) 0 k) → Adds xs ys (λ f. sum_range (g f) 0 64)
sums_done g xs ys k end a = adds_alike xs ys (λ f. sum_range (g f) 0 k) (λ f. sum_range (g f) 0 64) (λ f. ap (sum_range (g f) 0) end) a

-- room for one process more, of those that add at most that much each
pub sums_room : (g : ℕ → ℕ → ℕ) (xs ys : List ℕ) (most k : ℕ) → ((f p : ℕ) → g f p ≤ most) → most ≤ 720896 → k < 64 → AreZeros xs → Adds xs ys (λ f. sum_range (g f) 0 k) → HaveRoom ys most
sums_room g xs ys most k each small low zeros a f inside =
    let s = a.same in
    let i : f < length xs = omega arith in
    let b = sum_bound (g f) most 0 k (each f) in
    let c : k * most ≤ k * 720896 = mul-le-mul_left k small in
    omega (arith, a.each f i, zeros f i, b, c)
