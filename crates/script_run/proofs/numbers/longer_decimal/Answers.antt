use Rattle.std.proofs.Common.{◌≡◌, ◌<◌, ◌+◌, ◌*◌, ◌∷◌, [], Some, refl, drop, get_or, ap, sym, ◌∙◌, arith}
use Rattle.std.specs.Char.{digit_value}
use Rattle.std.proofs.lemmas.List.{take_rest}
use Rattle.script_run.specs.Numbers.{decimal_number}
use Rattle.script_run.specs.Operands.{first_by}
use Rattle.script_run.specs.Tokens.{tokens_of}
use Rattle.script_run.proofs.FirstNumbers.{two_digits}
use Rattle.script_run.proofs.TokenLemmas.{known_front}
use Rattle.script_run.proofs.numbers.longer_decimal.Goals as goal

pub returns-in-32 : goal.returns-in-32
returns-in-32 c =
    let line = c.args.line.now in
    let front = known_front (get_or line 0 0 ∷ get_or line 1 0 ∷ 32 ∷ []) line c.in-32.len_at_least (refl, (refl, (omega arith, tt))) in
    let value : c.from.result * 10 + c.from-in-32.result ≡ digit_value (get_or line 0 0) * 10 + digit_value (get_or line 1 0) =
    omega (arith, c.from.ensures, c.digit_of-in-32.ensures.value, c.from-in-32.ensures, c.digit_of-in-32-2.ensures.value) in
    let first : digit_value (get_or line 0 0) < 10 = omega (arith, c.digit_of.ensures.value, c.if-digit_of-lt10.true) in
    let second : digit_value (get_or line 1 0) < 10 = omega (arith, c.digit_of-then-digit_of-lt10.ensures.value, c.if-digit_of-lt10-2.true) in
    ap (λ xs. Some (c.from.result * 10 + c.from-in-32.result, tokens_of xs)) (take_rest line 3)
    ∙ two_digits (get_or line 0 0) (get_or line 1 0) (c.from.result * 10 + c.from-in-32.result) (drop 3 line) first second value
    ∙ ap (λ xs. first_by decimal_number (tokens_of xs)) (sym front)
