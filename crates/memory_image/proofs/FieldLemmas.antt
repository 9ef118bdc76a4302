-- The first of several lists of tests that fails.
use Rattle.std.proofs.Common.{◌≡◌, ℕ, zero, suc, ◌+◌, ◌-◌, ◌<◌, ◌≤◌, Bool, true, false, List, [], ◌∷◌, ◌++◌, refl, sym, ap, ◌∙◌, arith, inl, inr, Option, Some, None}
use Rattle.std.specs.Prelude.{if◌then◌else◌, is_some}
use Rattle.std.proofs.lemmas.Bool.{cases_eq}
use Rattle.std.specs.List.{flat_map, range_with_len}
use Rattle.memory_image.specs.Tests.{first_failing}

pub append_none : {C : Type 0} (xs ys : List (Bool × C)) → first_failing xs ≡ None → first_failing (xs ++ ys) ≡ first_failing ys
append_none [] ys h = refl
append_none (x ∷ xs) ys h = by x.0 (append_none xs ys) h
  where
    by : (b : Bool) → (first_failing xs ≡ None → first_failing (xs ++ ys) ≡ first_failing ys) → (if b then first_failing xs else Some x.1) ≡ None → (if b then first_failing (xs ++ ys) else Some x.1) ≡ first_failing ys
    by true f k = f k
    by false f k = cc

pub append_some : {C : Type 0} (xs ys : List (Bool × C)) (c : C) → first_failing xs ≡ Some c → first_failing (xs ++ ys) ≡ Some c
append_some [] ys c h = cc
append_some (x ∷ xs) ys c h = by x.0 (append_some xs ys c) h
  where
    by : (b : Bool) → (first_failing xs ≡ Some c → first_failing (xs ++ ys) ≡ Some c) → (if b then first_failing xs else Some x.1) ≡ Some c → (if b then first_failing (xs ++ ys) else Some x.1) ≡ Some c
    by true f k = f k
    by false f k = k

module _ {C : Type 0} (g : ℕ → List (Bool × C)) (n : ℕ) where
  abbrev pub from : ℕ → Option C
  from k = first_failing (flat_map g (range_with_len k (n - k)))

  next : (k : ℕ) → k < n → from k ≡ first_failing (g k ++ flat_map g (range_with_len (k + 1) (n - (k + 1))))
  next k low = ap (λ m. first_failing (flat_map g (range_with_len k m))) (let e : n - k ≡ suc (n - (k + 1)) = omega arith in e)

  pub goes_on : (total : Option C) (k : ℕ) → k < n → total ≡ from k → is_some (first_failing (g k)) ≡ false → total ≡ from (k + 1)
  goes_on total k low h none = h ∙ next k low ∙ append_none (g k) (flat_map g (range_with_len (k + 1) (n - (k + 1)))) (nothing (first_failing (g k)) none)
    where
      nothing : (x : Option C) → is_some x ≡ false → x ≡ None
      nothing None h = refl
      nothing (Some c) h = cc

  pub stops : (total : Option C) (k : ℕ) (x : Option C) → k < n → total ≡ from k → x ≡ first_failing (g k) → is_some x ≡ true → x ≡ total
  stops total k None low h is some = cc
  stops total k (Some c) low h is some = sym (h ∙ next k low ∙ append_some (g k) (flat_map g (range_with_len (k + 1) (n - (k + 1)))) c (sym is))

  pub begins_so : first_failing (flat_map g (range_with_len 0 n)) ≡ from 0
  begins_so = ap (λ m. first_failing (flat_map g (range_with_len 0 m))) (let e : n ≡ n - 0 = omega arith in e)

  pub ends_so : (total : Option C) (k : ℕ) → n ≤ k → total ≡ from k → None ≡ total
  ends_so total k high h = sym (h ∙ ap (λ m. first_failing (flat_map g (range_with_len k m))) (let e : n - k ≡ 0 = omega arith in e))

no_first : {C : Type 0} (x : Option C) → is_some x ≡ false → x ≡ None
no_first None h = refl
no_first (Some c) h = cc

pub two_some : {C : Type 0} (xs ys : List (Bool × C)) (x : Option C) → x ≡ first_failing xs → is_some x ≡ true → x ≡ first_failing (xs ++ ys)
two_some xs ys None is h = cc
two_some xs ys (Some c) is h = sym (append_some xs ys c (sym is))

pub two_none : {C : Type 0} (xs ys : List (Bool × C)) (x y : Option C) → x ≡ first_failing xs → is_some x ≡ false → y ≡ first_failing ys → y ≡ first_failing (xs ++ ys)
two_none xs ys x y is h also = also ∙ sym (append_none xs ys (sym is ∙ no_first x h))

-- where none of two lists fails, neither does
pub none_both : {C : Type 0} (xs ys : List (Bool × C)) → first_failing (xs ++ ys) ≡ None → (first_failing xs ≡ None) × (first_failing ys ≡ None)
none_both xs ys h = by (first_failing xs) refl
  where
    by : (x : Option _) → first_failing xs ≡ x → (first_failing xs ≡ None) × (first_failing ys ≡ None)
    by None e = (e, sym (append_none xs ys e) ∙ h)
    by (Some c) e = let k = sym (append_some xs ys c e) ∙ h in cc

-- nor does any of a range
pub none_each : {C : Type 0} (g : ℕ → List (Bool × C)) (first count : ℕ) → first_failing (flat_map g (range_with_len first count)) ≡ None
    → (k : ℕ) → first ≤ k → k < first + count → first_failing (g k) ≡ None
none_each g first zero h k low high = absurd (omega arith)
none_each g first (suc count) h k low high =
    let a = none_both (g first) (flat_map g (range_with_len (first + 1) count)) h in
    elim (cases_eq k first) [
      | inl e ↦ ap (λ k. first_failing (g k)) e ∙ a.0
      | inr n ↦ none_each g (first + 1) count a.1 k (omega arith) (omega arith)
    ]

pub each_none : {C : Type 0} (g : ℕ → List (Bool × C)) (first count : ℕ) → ((k : ℕ) → first ≤ k → k < first + count → first_failing (g k) ≡ None)
    → first_failing (flat_map g (range_with_len first count)) ≡ None
each_none g first zero h = refl
each_none g first (suc count) h =
    append_none (g first) (flat_map g (range_with_len (first + 1) count)) (h first (omega arith) (omega arith))
    ∙ each_none g (first + 1) count (λ k low high. h k (omega arith) (omega arith))
