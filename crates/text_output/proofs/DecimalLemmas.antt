-- How many digits a number has.
use Rattle.std.proofs.Common.{◌≡◌, ℕ, ◌+◌, ◌^◌, ◌<◌, ◌≤◌, [], ◌∷◌, length, arith, decimal}
use Rattle.std.proofs.lemmas.Fmt.{decimal_digit, length-decimal-le}

pub one_digit : (n : ℕ) → n < 10 → decimal n ≡ (48 + n) ∷ []
one_digit n small = decimal_digit n small

pub short_decimal : (n : ℕ) → n < 2 ^ 32 → length (decimal n) ≤ 10
short_decimal n fits = length-decimal-le 10 n (omega arith) (omega arith) (omega arith)

pub long_decimal : (n : ℕ) → n < 2 ^ 64 → length (decimal n) ≤ 20
long_decimal n fits = length-decimal-le 20 n (omega arith) (omega arith) fits
