use Rattle.std.proofs.Common.{◌≡◌, ◌<◌, ◌∷◌, [], Some, refl, drop, get_or, ap, ◌∙◌, sym, arith}
use Rattle.std.proofs.lemmas.List.{take_rest}
use Rattle.std.specs.Char.{digit_value}
use Rattle.script_run.specs.Numbers.{decimal_number}
use Rattle.script_run.specs.Operands.{first_by}
use Rattle.script_run.specs.Tokens.{tokens_of}
use Rattle.script_run.proofs.FirstNumbers.{one_decimal}
use Rattle.script_run.proofs.TokenLemmas.{known_front}
use Rattle.script_run.proofs.numbers.decimal.Goals as goal

pub returns-in-32 : goal.returns-in-32
returns-in-32 c =
    let front = known_front (get_or c.trimmed-line.result.now 0 0 ∷ 32 ∷ []) c.trimmed-line.result.now c.in-32.len_at_least (refl, (omega arith, tt)) in
    let value : c.from.result ≡ digit_value (get_or c.trimmed-line.result.now 0 0) = cc (c.from.ensures, c.digit_of-in-32.ensures.value) in
    let small : c.from.result < 10 = omega (arith, value, c.digit_of.ensures.value, c.if-digit_of-lt10.true) in
    ap (λ xs. Some (c.from.result, tokens_of xs)) (take_rest c.trimmed-line.result.now 2)
    ∙ one_decimal (get_or c.trimmed-line.result.now 0 0) c.from.result (drop 2 c.trimmed-line.result.now) value small
    ∙ ap (λ xs. first_by decimal_number (tokens_of xs)) (sym front) ∙ ap (first_by decimal_number) c.trimmed-line.ensures.tokens
