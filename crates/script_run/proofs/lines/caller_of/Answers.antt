use Rattle.std.proofs.Common.{◌≡◌, ◌<◌, ◌∷◌, [], Some, refl, drop, get_or, ap, sym, ◌∙◌, arith}
use Rattle.std.specs.Char.{digit_value}
use Rattle.std.proofs.lemmas.List.{take_rest}
use Rattle.script_run.specs.Operands.{caller_by}
use Rattle.script_run.specs.Tokens.{tokens_of}
use Rattle.script_run.proofs.FirstNumbers.{two_decimals}
use Rattle.script_run.proofs.TokenLemmas.{known_front}
use Rattle.script_run.proofs.lines.caller_of.Goals as goal

pub returns-in-32-clause-read : goal.returns-in-32-clause-read
returns-in-32-clause-read c =
    let line = c.args.line.now in
    let front = known_front (get_or line 0 0 ∷ 32 ∷ get_or line 2 0 ∷ 32 ∷ []) line c.in-32.len_at_least (refl, (omega arith, (refl, (omega arith, tt)))) in
    let cpu : c.from.result ≡ digit_value (get_or line 0 0) = cc (c.from.ensures, c.digit_of-in-32.ensures.value) in
    let pid : c.from-in-32.result ≡ digit_value (get_or line 2 0) = cc (c.from-in-32.ensures, c.digit_of-in-32-2.ensures.value) in
    let few : c.from.result < 8 = omega (arith, cpu, c.digit_of.ensures.value, c.if-digit_of-lt8.true) in
    let small : c.from-in-32.result < 10 = omega (arith, pid, c.digit_of-then-digit_of-lt8.ensures.value, c.if-digit_of-lt10.true) in
    ap (λ xs. Some (c.from.result, c.from-in-32.result, tokens_of xs)) (take_rest line 4)
    ∙ two_decimals (get_or line 0 0) (get_or line 2 0) c.from.result c.from-in-32.result (drop 4 line) cpu few pid small
    ∙ ap (λ xs. caller_by (tokens_of xs)) (sym front)
