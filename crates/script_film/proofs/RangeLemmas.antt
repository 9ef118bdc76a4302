-- A text over a range of numbers, one number more.
use Rattle.std.proofs.Common.{◌≡◌, ℕ, zero, suc, ◌+◌, ◌++◌, List, sym, ap, ◌∙◌, arith, append_assoc, append-nil}
use Rattle.std.specs.List.{flat_map, range_with_len}

pub range_more : (f : ℕ → List ℕ) (first n j : ℕ) → first + n ≡ j → flat_map f (range_with_len first (n + 1)) ≡ flat_map f (range_with_len first n) ++ f j
range_more f first zero j at = append-nil (f first) ∙ ap f (let e : first ≡ j = omega (arith, at) in e)
range_more f first (suc n) j at =
    ap (λ k. flat_map f (range_with_len first k)) (let e : suc n + 1 ≡ suc (n + 1) = omega arith in e)
    ∙ ap (λ l. f first ++ l) (range_more f (first + 1) n j (let e : first + 1 + n ≡ j = omega (arith, at) in e))
    ∙ sym (append_assoc (f first) (flat_map f (range_with_len (first + 1) n)) (f j))

-- a text behind which a number's text is put
pub text_more : (f : ℕ → List ℕ) (start now new : List ℕ) (n : ℕ) → now ≡ start ++ flat_map f (range_with_len 0 n) → new ≡ now ++ f n → new ≡ start ++ flat_map f (range_with_len 0 (n + 1))
text_more f start now new n before more =
    more ∙ ap (λ l. l ++ f n) before ∙ append_assoc start (flat_map f (range_with_len 0 n)) (f n) ∙ ap (λ l. start ++ l) (sym (range_more f 0 n n (let e : 0 + n ≡ n = omega arith in e)))

-- a text behind which all numbers' texts are put
pub text_whole : (f : ℕ → List ℕ) (start now : List ℕ) (n m : ℕ) → now ≡ start ++ flat_map f (range_with_len 0 n) → n ≡ m → now ≡ start ++ flat_map f (range_with_len 0 m)
text_whole f start now n m before all = before ∙ ap (λ k. start ++ flat_map f (range_with_len 0 k)) all
