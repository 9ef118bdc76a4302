-- The number that the first token of a line writes.
use Rattle.std.proofs.Common.{◌≡◌, ℕ, zero, suc, ◌+◌, ◌*◌, ◌^◌, ◌<◌, ◌≤◌, Bool, true, false, not, ◌&&◌, cond, ◌⊎◌, List, [], ◌∷◌, length, get_or, take, drop, Some, None, refl, sym, ap, subst, ◌∙◌, add-one, arith, inl, inr}
use Rattle.std.specs.Prelude.{nat_le, MatchBool, codes}
use Rattle.std.specs.Char.{digit_value, is_digit}
use Rattle.std.specs.List.{position_or_len}
use Rattle.std.specs.Str.Parse.{digits_value}
use Rattle.std.proofs.lemmas.Bool.{lt-ltb, le-leb, lt-leb, eqb-true, cases_Bool, cases_eq, false≢true}
use Rattle.std.proofs.lemmas.List.{get_or-take, length-take-le}
use Rattle.std.proofs.lemmas.Int.Digits.{digits_value_more}
use Rattle.std.proofs.lemmas.List.Folds.{list_all_at}
use Rattle.std.proofs.Math.Bool.{and-false}
use Rattle.std.proofs.Math.Nat.{pow-le-pow_right, pow-suc}
use Rattle.page_words.specs.declared.addresses.Size.{Size}
use Rattle.script_run.specs.Lines.{◌>>=◌, right_of, size_of}
use Rattle.script_run.specs.Numbers.{are_digits, decimal_number, hexadecimal_number}
use Rattle.script_run.specs.Operands.{IsWorth, caller_by, first_by, is_trimmed, worth}
use Rattle.script_run.specs.Tokens.{is_space, tokens_of}
use Rattle.script_run.proofs.NumberLemmas.{digits_bound, digits_step}
use Rattle.script_run.proofs.OperandLemmas.{first_below, with_cpu, with_pid, with_rest}
use Rattle.script_run.proofs.TokenLemmas.{front_token, length_of_first, no_front, past_space, token_ends}

-- ---- Hexadecimal digits, and what is none

at_worth : (value : ℕ) (bytes : List ℕ) (b c : Bool) → b ≡ c → MatchBool b (value ≡ digits_value 16 bytes) (2 ^ 32 ≤ value) → MatchBool c (value ≡ digits_value 16 bytes) (2 ^ 32 ≤ value)
at_worth value bytes b c e is = subst (λ x. MatchBool x (value ≡ digits_value 16 bytes) (2 ^ 32 ≤ value)) e is

pub worth_step : (xs : List ℕ) (i value : ℕ) → i < length xs → IsWorth (take i xs) value → IsWorth (take (i + 1) xs) (value * 16 + worth (get_or xs i 0))
worth_step xs i value inside is = at (are_digits 16 (take i xs)) refl (is_digit (get_or xs i 0) 16) refl where
  at : (a : Bool) → are_digits 16 (take i xs) ≡ a → (d : Bool) → is_digit (get_or xs i 0) 16 ≡ d → IsWorth (take (i + 1) xs) (value * 16 + worth (get_or xs i 0))
  at true before true here =
      let whole : are_digits 16 (take (i + 1) xs) ≡ true = digits_step 16 xs i inside ∙ ap (λ b. b && is_digit (get_or xs i 0) 16) before ∙ here in
      let so_far : value ≡ digits_value 16 (take i xs) = at_worth value (take i xs) _ true before is in
      let digit : worth (get_or xs i 0) ≡ digit_value (get_or xs i 0) = ap (λ b. cond b (digit_value (get_or xs i 0)) (2 ^ 32)) here in
      at_worth _ (take (i + 1) xs) true _ (sym whole) (ap (λ w. value * 16 + w) digit ∙ ap (λ v. v * 16 + digit_value (get_or xs i 0)) so_far ∙ sym (digits_value_more 16 xs i inside))
  at true before false here =
      let whole : are_digits 16 (take (i + 1) xs) ≡ false = digits_step 16 xs i inside ∙ ap (λ b. b && is_digit (get_or xs i 0) 16) before ∙ here in
      let other : worth (get_or xs i 0) ≡ 2 ^ 32 = ap (λ b. cond b (digit_value (get_or xs i 0)) (2 ^ 32)) here in
      at_worth _ (take (i + 1) xs) false _ (sym whole) (rw other (omega arith))
  at false before d here =
      let whole : are_digits 16 (take (i + 1) xs) ≡ false = digits_step 16 xs i inside ∙ ap (λ b. b && is_digit (get_or xs i 0) 16) before in
      let large : 2 ^ 32 ≤ value = at_worth value (take i xs) _ false before is in
      at_worth _ (take (i + 1) xs) false _ (sym whole) (omega (arith, large))

pub worth_fits : (value w i : ℕ) → i < 8 → value * 15 + 2 ^ 32 ≤ 2 ^ 32 * 16 ^ i → w ≤ 4294967296 → value * 16 + w < 2 ^ 64
worth_fits value w i few small bound =
    let below : i ≤ 7 = omega (arith, few) in
    let most : 16 ^ i ≤ 16 ^ 7 = pow-le-pow_right (omega arith) below in
    omega (arith, most, small, bound)

pub worth_grows : (value w i : ℕ) → value * 15 + 2 ^ 32 ≤ 2 ^ 32 * 16 ^ i → w ≤ 4294967296 → (value * 16 + w) * 15 + 2 ^ 32 ≤ 2 ^ 32 * 16 ^ (i + 1)
worth_grows value w i small bound =
    let more : 16 ^ (i + 1) ≡ 16 ^ i * 16 = ap (λ k. 16 ^ k) (add-one i) ∙ pow-suc 16 i in
    omega (arith, more, small, bound)

-- ---- The number of the first token

-- what is no number of at most eight digits
no_number : (token : List ℕ) → (nat_le 1 (length token) && nat_le (length token) 8 && are_digits 16 token) ≡ false → hexadecimal_number token ≡ None
unfolding hexadecimal_number
no_number token e = ap (λ t. cond t (Some (digits_value 16 token)) None) e

at_token : (xs : List ℕ) (n : ℕ) → n ≡ position_or_len is_space xs → 0 < n → first_by hexadecimal_number (tokens_of xs) ≡ first_by hexadecimal_number (take n xs ∷ tokens_of (drop n xs))
at_token xs n is some = ap (first_by hexadecimal_number) (front_token xs n is some)

pub hexadecimal_long : (xs : List ℕ) → 8 < position_or_len is_space xs → None ≡ first_by hexadecimal_number (tokens_of xs)
unfolding first_by
hexadecimal_long xs long =
    let n = position_or_len is_space xs in
    let token = take n xs in
    let over : nat_le (length token) 8 ≡ false = lt-leb (length token) 8 (subst (λ (k : ℕ). 8 < k) (sym (length_of_first xs)) long) in
    let none = no_number token (ap (λ b. (nat_le 1 (length token) && b) && are_digits 16 token) over ∙ ap (λ b. b && are_digits 16 token) (and-false (nat_le 1 (length token)))) in
    sym (at_token xs n refl (omega (arith, long)) ∙ ap (λ o. o >>= with_rest (tokens_of (drop n xs))) none)

-- no token, or one that is not of digits alone
hexadecimal_bad : (xs : List ℕ) (n v : ℕ) → n ≡ position_or_len is_space xs → 0 < n → n ≤ 8 → IsWorth (take n xs) v → 2 ^ 32 ≤ v → None ≡ first_by hexadecimal_number (tokens_of xs)
unfolding first_by
hexadecimal_bad xs n v is some few worths large = at (are_digits 16 (take n xs)) refl where
  at : (b : Bool) → are_digits 16 (take n xs) ≡ b → None ≡ first_by hexadecimal_number (tokens_of xs)
  at true digits =
      let value : v ≡ digits_value 16 (take n xs) = at_worth v (take n xs) _ true digits worths in
      let short : length (take n xs) ≤ 8 = subst (λ (k : ℕ). length (take k xs) ≤ 8) (sym is) (omega (arith, is, few, length_of_first xs)) in
      let bound : digits_value 16 (take n xs) < 16 ^ 8 = digits_bound 16 8 (take n xs) (omega arith) short digits in
      absurd (omega (arith, value, bound, large))
  at false digits =
      let none = no_number (take n xs) (ap (λ b. (nat_le 1 (length (take n xs)) && nat_le (length (take n xs)) 8) && b) digits ∙ and-false (nat_le 1 (length (take n xs)) && nat_le (length (take n xs)) 8)) in
      sym (at_token xs n is some ∙ ap (λ o. o >>= with_rest (tokens_of (drop n xs))) none)

pub hexadecimal_none : (xs : List ℕ) (n v : ℕ) → is_trimmed xs ≡ true → n ≡ position_or_len is_space xs → n ≤ 8 → IsWorth (take n xs) v → ((n ≡ 0) ⊎ (2 ^ 32 ≤ v)) → None ≡ first_by hexadecimal_number (tokens_of xs)
unfolding first_by
hexadecimal_none xs n v front is few worths (inl none) = sym (ap (first_by hexadecimal_number) (no_front xs front (sym is ∙ none)))
hexadecimal_none xs n v front is few worths (inr large) = elim (cases_eq n 0) [
  | inl none ↦ sym (ap (first_by hexadecimal_number) (no_front xs front (sym is ∙ none)))
  | inr some ↦ hexadecimal_bad xs n v is (omega (arith, some)) few worths large
]

pub hexadecimal_some : (xs : List ℕ) (n v : ℕ) → n ≡ position_or_len is_space xs → 0 < n → n ≤ 8 → IsWorth (take n xs) v → v < 2 ^ 32 → Some (v, tokens_of (drop n xs)) ≡ first_by hexadecimal_number (tokens_of xs)
unfolding first_by hexadecimal_number
hexadecimal_some xs n v is some few worths small = at (are_digits 16 (take n xs)) refl where
  len : length (take n xs) ≡ n
  len = subst (λ (k : ℕ). length (take k xs) ≡ k) (sym is) (length_of_first xs)

  at : (b : Bool) → are_digits 16 (take n xs) ≡ b → Some (v, tokens_of (drop n xs)) ≡ first_by hexadecimal_number (tokens_of xs)
  at true digits =
      let value : v ≡ digits_value 16 (take n xs) = at_worth v (take n xs) _ true digits worths in
      let one : nat_le 1 (length (take n xs)) ≡ true = le-leb 1 _ (omega (arith, len, some)) in
      let eight : nat_le (length (take n xs)) 8 ≡ true = le-leb _ 8 (omega (arith, len, few)) in
      let is_number : hexadecimal_number (take n xs) ≡ Some v =
      ap (λ b. cond ((b && nat_le (length (take n xs)) 8) && are_digits 16 (take n xs)) (Some (digits_value 16 (take n xs))) None) one
      ∙ ap (λ b. cond (b && are_digits 16 (take n xs)) (Some (digits_value 16 (take n xs))) None) eight
      ∙ ap (λ b. cond b (Some (digits_value 16 (take n xs))) None) digits ∙ ap Some (sym value) in
      sym (at_token xs n is some ∙ ap (λ o. o >>= with_rest (tokens_of (drop n xs))) is_number)
  at false digits = let large : 2 ^ 32 ≤ v = at_worth v (take n xs) _ false digits worths in absurd (omega (arith, small, large))

-- ---- One decimal digit, or two

digit_apart : (d : ℕ) → digit_value d < 10 → is_space d ≡ false
digit_apart d small = elim (cases_Bool (is_space d)) [
  | inl here ↦ absurd (omega (arith, small, ap digit_value (eqb-true d 32 here)))
  | inr other ↦ other
]

pub one_decimal : (d v : ℕ) (xs : List ℕ) → v ≡ digit_value d → v < 10 → Some (v, tokens_of xs) ≡ first_by decimal_number (tokens_of (d ∷ 32 ∷ xs))
unfolding first_by decimal_number
one_decimal d v xs is small =
    let low : digit_value d < 10 = subst (λ (k : ℕ). k < 10) is small in
    let digit : is_digit d 10 ≡ true = lt-ltb (digit_value d) 10 low in
    let place : 1 ≡ position_or_len is_space (d ∷ 32 ∷ xs) = sym (ap (λ b. cond (not b) (1 + 0) 0) (digit_apart d low)) in
    let tokens : tokens_of (d ∷ 32 ∷ xs) ≡ (d ∷ []) ∷ tokens_of xs = front_token (d ∷ 32 ∷ xs) 1 place (omega arith) ∙ ap (λ ts. (d ∷ []) ∷ ts) (past_space xs) in
    let is_number : decimal_number (d ∷ []) ≡ Some v = ap (λ b. cond ((true && true) && (b && true)) (Some (0 * 10 + digit_value d)) None) digit ∙ ap Some (omega (arith, is)) in
    sym (ap (first_by decimal_number) tokens ∙ ap (λ o. o >>= with_rest (tokens_of xs)) is_number)

pub two_digits : (d e v : ℕ) (xs : List ℕ) → digit_value d < 10 → digit_value e < 10 → v ≡ digit_value d * 10 + digit_value e → Some (v, tokens_of xs) ≡ first_by decimal_number (tokens_of (d ∷ e ∷ 32 ∷ xs))
unfolding first_by decimal_number
two_digits d e v xs first second is =
    let place : 2 ≡ position_or_len is_space (d ∷ e ∷ 32 ∷ xs) =
    sym (ap (λ b. cond (not b) (1 + position_or_len is_space (e ∷ 32 ∷ xs)) 0) (digit_apart d first) ∙ ap (λ b. 1 + cond (not b) (1 + 0) 0) (digit_apart e second)) in
    let tokens : tokens_of (d ∷ e ∷ 32 ∷ xs) ≡ (d ∷ e ∷ []) ∷ tokens_of xs = front_token (d ∷ e ∷ 32 ∷ xs) 2 place (omega arith) ∙ ap (λ ts. (d ∷ e ∷ []) ∷ ts) (past_space xs) in
    let is_number : decimal_number (d ∷ e ∷ []) ≡ Some v =
    ap (λ b. cond ((true && true) && (b && (is_digit e 10 && true))) (Some ((0 * 10 + digit_value d) * 10 + digit_value e)) None) (lt-ltb (digit_value d) 10 first)
    ∙ ap (λ b. cond (b && true) (Some ((0 * 10 + digit_value d) * 10 + digit_value e)) None) (lt-ltb (digit_value e) 10 second)
    ∙ ap Some (omega (arith, is)) in
    sym (ap (first_by decimal_number) tokens ∙ ap (λ o. o >>= with_rest (tokens_of xs)) is_number)

pub two_decimals : (d e cpu pid : ℕ) (xs : List ℕ) → cpu ≡ digit_value d → cpu < 8 → pid ≡ digit_value e → pid < 10 → Some (cpu, pid, tokens_of xs) ≡ caller_by (tokens_of (d ∷ 32 ∷ e ∷ 32 ∷ xs))
unfolding caller_by
two_decimals d e cpu pid xs is_cpu few is_pid small =
    let first = first_below decimal_number 8 (tokens_of (d ∷ 32 ∷ e ∷ 32 ∷ xs)) cpu (tokens_of (e ∷ 32 ∷ xs)) (one_decimal d cpu (e ∷ 32 ∷ xs) is_cpu (omega (arith, few))) few in
    let second = first_below decimal_number 64 (tokens_of (e ∷ 32 ∷ xs)) pid (tokens_of xs) (one_decimal e pid xs is_pid small) (omega (arith, small)) in
    ap (λ o. o >>= with_pid cpu) second ∙ ap (λ o. o >>= with_cpu) first

-- ---- Numbers of just so many digits

-- no space is among them
digits_apart : (xs : List ℕ) (n v : ℕ) → n ≤ length xs → IsWorth (take n xs) v → v < 2 ^ 32 → (k : ℕ) → k < n → get_or xs k 0 ≡ 32 → ⊥
digits_apart xs n v within worths small k before space = at (are_digits 16 (take n xs)) refl where
  at : (b : Bool) → are_digits 16 (take n xs) ≡ b → ⊥
  at true digits =
      let here : get_or (take n xs) k 0 ≡ 32 = get_or-take n xs k 0 before ∙ space in
      let other : is_digit (get_or (take n xs) k 0) 16 ≡ false = ap (λ byte. is_digit byte 16) here in
      let inside : k < length (take n xs) = subst (λ (m : ℕ). k < m) (sym (length-take-le n xs within)) before in
      false≢true (sym (list_all_at (λ byte. is_digit byte 16) (take n xs) k 0 inside other) ∙ digits)
  at false digits = let large : 2 ^ 32 ≤ v = at_worth v (take n xs) _ false digits worths in omega (arith, small, large)

pub hexadecimal_in_front : (xs : List ℕ) (n v : ℕ) → n ≤ length xs → 0 < n → n ≤ 8 → (n < length xs → get_or xs n 0 ≡ 32) → IsWorth (take n xs) v → v < 2 ^ 32 → Some (v, tokens_of (drop n xs)) ≡ first_by hexadecimal_number (tokens_of xs)
hexadecimal_in_front xs n v within some few ends worths small = hexadecimal_some xs n v (token_ends xs n within (digits_apart xs n v within worths small) ends) some few worths small

-- ---- Sizes and rights

pub size_in_front : (xs : List ℕ) (size : Size) → 2 ≤ length xs → get_or xs 0 0 ≡ 32 → (2 < length xs → get_or xs 2 0 ≡ 32) → Some size ≡ size_of (get_or xs 1 0 ∷ []) → Some (size, tokens_of (drop 2 xs)) ≡ first_by size_of (tokens_of xs)
unfolding first_by
size_in_front [] size enough space ends is = absurd (omega (arith, enough))
size_in_front (a ∷ []) size enough space ends is = absurd (omega (arith, enough))
size_in_front (a ∷ b ∷ rest) size enough space ends is = at where
  apart : (k : ℕ) → k < 1 → get_or (b ∷ rest) k 0 ≡ 32 → ⊥
  apart zero before here = let none : Some size ≡ None = is ∙ ap (λ byte. size_of (byte ∷ [])) here in cc
  apart (suc k) before here = omega (arith, before)

  place : 1 ≡ position_or_len is_space (b ∷ rest)
  place = token_ends (b ∷ rest) 1 (omega arith) apart (λ more. ends (omega (arith, more)))

  tokens : tokens_of (a ∷ b ∷ rest) ≡ (b ∷ []) ∷ tokens_of rest
  tokens = ap (λ byte. tokens_of (byte ∷ b ∷ rest)) space ∙ past_space (b ∷ rest) ∙ front_token (b ∷ rest) 1 place (omega arith)

  at : Some (size, tokens_of rest) ≡ first_by size_of (tokens_of (a ∷ b ∷ rest))
  at = ap (λ o. o >>= with_rest (tokens_of rest)) is ∙ sym (ap (first_by size_of) tokens)

pub last_to_write : Some (true, []) ≡ first_by right_of (tokens_of (codes " rw"))
unfolding first_by tokens_of
last_to_write = refl

pub last_to_read : Some (false, []) ≡ first_by right_of (tokens_of (codes " ro"))
unfolding first_by tokens_of
last_to_read = refl
