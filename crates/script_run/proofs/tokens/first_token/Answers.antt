use Rattle.std.proofs.Common.{◌≡◌, ◌<◌, length, sym, ap, ◌∙◌, arith, unwrap_or}
use Rattle.std.proofs.lemmas.Bool.{eqb-true, eqb-false}
use Rattle.std.specs.List.{position_or_len}
use Rattle.script_run.specs.Tokens.{is_space}
use Rattle.script_run.proofs.TokenLemmas.{empty_front, front_token, place_or_length, some_front}
use Rattle.script_run.proofs.tokens.first_token.Goals as goal

pub returns-then-is_empty : goal.returns-then-is_empty
returns-then-is_empty c =
    let none : length c.trimmed-line.result.now ≡ 0 = eqb-true _ 0 (sym c.is_empty.ensures ∙ c.if-is_empty.true) in
    sym c.trimmed-line.ensures.tokens ∙ empty_front c.trimmed-line.result.now none

pub returns : goal.returns
returns c =
    let some = eqb-false (length c.trimmed-line.result.now) 0 (sym c.is_empty.ensures ∙ c.if-is_empty.false) in
    let end : c.unwrap_or-end.result ≡ position_or_len is_space c.trimmed-line.result.now =
    c.unwrap_or-end.ensures ∙ ap (λ o. unwrap_or o (length c.trimmed-line.result.now)) c.first_space.ensures ∙ place_or_length is_space c.trimmed-line.result.now in
    let after : 0 < c.unwrap_or-end.result = omega (arith, end, some_front c.trimmed-line.result.now c.trimmed-line.ensures.front (omega (arith, some))) in
    let token = front_token c.trimmed-line.result.now c.unwrap_or-end.result end after in
    cc (token, c.trimmed-line.ensures.tokens, c.split_at.ensures.front, c.split_at.ensures.back)
