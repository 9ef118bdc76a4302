-- The table of digits says what std says of each byte.
use Rattle.std.proofs.Common.{◌≡◌, ℕ, zero, suc, ◌<◌, ◌≤◌, ◌+◌, ◌/◌, ◌%◌, ◌^◌, Bool, true, ◌&&◌, List, [], ◌∷◌, refl, ap, ◌∙◌, arith, inl, inr}
use Rattle.std.specs.Prelude.{nat_le, slice_index}
use Rattle.std.specs.Char.{digit_value, digit_char}
use Rattle.std.specs.Int.{w32, to_be_bytes}
use Rattle.hex.specs.Hex.{encode_lower, encode_with}
use Rattle.script_run.specs.Operands.{worth}
use Rattle.script_run.specs.Replies.{eight_digits}
use Rattle.std.proofs.lemmas.Bool.{and_parts, leb-true, cases_eq}

-- whether p holds of each number below one
abbrev pub all_below : (ℕ → Bool) → ℕ → Bool
all_below p zero = true
all_below p (suc n) = p n && all_below p n

all_below_at : (p : ℕ → Bool) (n k : ℕ) → all_below p n ≡ true → k < n → p k ≡ true
all_below_at p zero k h l = absurd (omega (arith, l))
all_below_at p (suc n) k h l =
    let parts = and_parts (p n) (all_below p n) h in
    elim (cases_eq k n) [
      | inl same ↦ ap p same ∙ parts.0
      | inr apart ↦ all_below_at p n k parts.1 (omega (arith, l, apart))
    ]

-- what f says from k on, of so many numbers
abbrev pub table_from : (ℕ → ℕ) → ℕ → ℕ → List ℕ
table_from f k zero = []
table_from f k (suc n) = f k ∷ table_from f (k + 1) n

table_at : (f : ℕ → ℕ) (k n i : ℕ) → i < n → slice_index (table_from f k n) i ≡ f (k + i)
table_at f k zero i l = absurd (omega (arith, l))
table_at f k (suc n) zero l = ap f (omega arith)
table_at f k (suc n) (suc i) l = table_at f (k + 1) n i (omega (arith, l)) ∙ ap f (omega arith)

-- what each byte is worth as a digit
abbrev pub digits : List ℕ
digits = table_from digit_value 0 256

pub by_table : (r b : ℕ) → r ≡ slice_index digits b → b < 256 → r ≡ digit_value b
by_table r b is inside =
    let from_zero : 0 + b ≡ b = omega arith in
    is ∙ table_at digit_value 0 256 b inside ∙ ap digit_value from_zero

pub digit_bound : (b : ℕ) → b < 256 → digit_value b ≤ 36
digit_bound b inside = leb-true (digit_value b) 36 (all_below_at (λ b. nat_le (digit_value b) 36) 256 b refl inside)

-- what each byte is worth as a hexadecimal digit
abbrev pub worths : List ℕ
worths = table_from worth 0 256

pub worth_by_table : (r b : ℕ) → r ≡ slice_index worths b → b < 256 → r ≡ worth b
worth_by_table r b is inside =
    let from_zero : 0 + b ≡ b = omega arith in
    is ∙ table_at worth 0 256 b inside ∙ ap worth from_zero

pub worth_bound : (b : ℕ) → b < 256 → worth b ≤ 4294967296
worth_bound b inside = leb-true (worth b) 4294967296 (all_below_at (λ b. nat_le (worth b) 4294967296) 256 b refl inside)

-- a digit by the table of the sixteen
digit_at : (d e : ℕ) → d < 16 → d ≡ e → slice_index (table_from digit_char 0 16) d ≡ digit_char e
digit_at d e small same = table_at digit_char 0 16 d small ∙ ap digit_char (omega (arith, same))

-- a number's digits, byte by byte
pub digits_of_bytes : (n : ℕ) → n < 2 ^ 32 → encode_lower (to_be_bytes w32 n) ≡ eight_digits n
unfolding eight_digits encode_with
digits_of_bytes n fits =
    let a = digit_at (n / 16777216 % 256 / 16) (n / 16 ^ 7 % 16) (omega arith) (omega arith) in
    let b = digit_at (n / 16777216 % 256 % 16) (n / 16 ^ 6 % 16) (omega arith) (omega arith) in
    let c = digit_at (n / 65536 % 256 / 16) (n / 16 ^ 5 % 16) (omega arith) (omega arith) in
    let d = digit_at (n / 65536 % 256 % 16) (n / 16 ^ 4 % 16) (omega arith) (omega arith) in
    let e = digit_at (n / 256 % 256 / 16) (n / 16 ^ 3 % 16) (omega arith) (omega arith) in
    let f = digit_at (n / 256 % 256 % 16) (n / 16 ^ 2 % 16) (omega arith) (omega arith) in
    let g = digit_at (n % 256 / 16) (n / 16 ^ 1 % 16) (omega arith) (omega arith) in
    let h = digit_at (n % 256 % 16) (n / 16 ^ 0 % 16) (omega arith) (omega arith) in
    λ i. a i ∷ b i ∷ c i ∷ d i ∷ e i ∷ f i ∷ g i ∷ h i ∷ []
