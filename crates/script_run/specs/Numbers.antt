-- Numbers as a script writes them: digits alone, at least one and no more than a given count, leading zeros among them.
use Rattle.std.specs.Prelude.{ℕ, Bool, ◌&&◌, nat_le, nat_lt, List, length, Option, None, Some, if◌then◌else◌}
use Rattle.std.specs.List.{list_all}
use Rattle.std.specs.Char.{is_digit}
use Rattle.std.specs.Str.Parse.{digits_value}

-- whether each byte is a digit
abbrev pub are_digits : ℕ → List ℕ → Bool
are_digits radix token = list_all (λ byte. is_digit byte radix) token

-- the number that the token writes in digits of this radix, `most` of them at most
abbrev pub number_written : ℕ → ℕ → List ℕ → Option ℕ
number_written radix most token = if nat_le 1 (length token) && nat_le (length token) most && are_digits radix token then Some (digits_value radix token) else None

-- one to ten decimal digits
unfoldable pub decimal_number : List ℕ → Option ℕ
decimal_number token = number_written 10 10 token

-- one to eight hexadecimal digits, of either case
unfoldable pub hexadecimal_number : List ℕ → Option ℕ
hexadecimal_number token = number_written 16 8 token

-- a number below the limit, and nothing else
abbrev pub below : ℕ → Option ℕ → Option ℕ
below limit None = None
below limit (Some n) = if nat_lt n limit then Some n else None
