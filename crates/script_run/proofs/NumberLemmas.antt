-- The value of digits, as a loop over them builds it.
use Rattle.std.proofs.Common.{◌≡◌, ℕ, ◌+◌, ◌*◌, ◌^◌, ◌<◌, ◌≤◌, true, ◌&&◌, List, [], ◌∷◌, length, get_or, take, ap, ◌∙◌, add-one, arith}
use Rattle.std.specs.Char.{digit_value, is_digit}
use Rattle.std.specs.Str.Parse.{digits_value, AllDigits}
use Rattle.std.proofs.lemmas.Int.Digits.{digits_value-lt, digits_value_more}
use Rattle.std.proofs.lemmas.Bool.{and_parts, ltb-true}
use Rattle.std.proofs.lemmas.List.{take_more}
use Rattle.std.proofs.lemmas.List.Folds.{list_all-append}
use Rattle.std.proofs.Math.Bool.{and-true}
use Rattle.std.proofs.Math.Nat.{pow-le-pow_left, pow-le-pow_right, pow-suc, mul-le-mul_left}
use Rattle.script_run.specs.Numbers.{are_digits}

-- the test, as std's fact
all_digits : (radix : ℕ) (ds : List ℕ) → are_digits radix ds ≡ true → AllDigits radix ds
all_digits radix [] h = tt
all_digits radix (c ∷ cs) h =
    let parts = and_parts (is_digit c radix) (are_digits radix cs) h in
    (ltb-true (digit_value c) radix parts.0, all_digits radix cs parts.1)

pub digits_bound : (radix most : ℕ) (ds : List ℕ) → radix ≤ 16 → length ds ≤ most → are_digits radix ds ≡ true → digits_value radix ds < 16 ^ most
digits_bound radix most ds low short h =
    let own : digits_value radix ds < radix ^ length ds = digits_value-lt radix ds (all_digits radix ds h) in
    let wider : radix ^ length ds ≤ 16 ^ length ds = pow-le-pow_left low (length ds) in
    let longer : 16 ^ length ds ≤ 16 ^ most = pow-le-pow_right (omega arith) short in
    omega arith

-- whether one byte more leaves them digits
pub digits_step : (radix : ℕ) (bs : List ℕ) (i : ℕ) → i < length bs → are_digits radix (take (i + 1) bs) ≡ are_digits radix (take i bs) && is_digit (get_or bs i 0) radix
digits_step radix bs i inside =
    rw (take_more bs i 0 inside) (list_all-append (λ byte. is_digit byte radix) (take i bs) (get_or bs i 0 ∷ []) ∙ ap (λ t. are_digits radix (take i bs) && t) (and-true (is_digit (get_or bs i 0) radix)))

-- the value of at most nine bytes, which need not be digits, has room for one more
pub value_fits : (radix value i : ℕ) → radix ≤ 16 → i < 10 → value < 40 ^ i → value * radix + 36 < 2 ^ 64
value_fits radix value i low few small =
    let wide : value * radix ≤ value * 16 = mul-le-mul_left value low in
    let below : i ≤ 9 = omega arith in
    let most : 40 ^ i ≤ 40 ^ 9 = pow-le-pow_right (omega arith) below in
    omega arith

pub value_grows : (radix value digit i : ℕ) → radix ≤ 16 → digit ≤ 36 → value < 40 ^ i → value * radix + digit < 40 ^ (i + 1)
value_grows radix value digit i low digits small =
    let wide : value * radix ≤ value * 16 = mul-le-mul_left value low in
    let more : 40 ^ (i + 1) ≡ 40 ^ i * 40 = ap (λ k. 40 ^ k) (add-one i) ∙ pow-suc 40 i in
    omega arith

pub ruleset number_steps = (digits_step, value_fits, value_grows, digits_value_more)
