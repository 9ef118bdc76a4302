use Rattle.std.proofs.Common.{◌≡◌, ◌⊎◌, ◌^◌, ◌≤◌, Some, ap, ◌∙◌, arith, inl, inr}
use Rattle.std.specs.Option.{option_map}
use Rattle.std.proofs.lemmas.List.{take_rest}
use Rattle.script_run.specs.Numbers.{hexadecimal_number}
use Rattle.script_run.specs.Operands.{first_by}
use Rattle.script_run.specs.Tokens.{tokens_of}
use Rattle.script_run.proofs.FirstNumbers.{hexadecimal_long, hexadecimal_none, hexadecimal_some}
use Rattle.script_run.proofs.numbers.any_hexadecimal.Goals as goal

pub returns-in_err-value : goal.returns-in_err-value
returns-in_err-value c =
    ap (option_map _) c.from_residual.ensures ∙ hexadecimal_long c.trimmed-line.result.now c.in_err-value.ensures.long
    ∙ ap (first_by hexadecimal_number) c.trimmed-line.ensures.tokens

pub returns-then-end-eq0 : goal.returns-then-end-eq0
returns-then-end-eq0 c =
    let either : (c.in_ok-value.end ≡ 0) ⊎ (2 ^ 32 ≤ c.in_ok-value.value) = elim c.then-end-eq0.either [
      | inl none ↦ inl none
      | inr large ↦ inr large.1
    ] in
    hexadecimal_none c.trimmed-line.result.now c.in_ok-value.end c.in_ok-value.value c.trimmed-line.ensures.front c.in_ok-value.ensures.end c.in_ok-value.ensures.short c.in_ok-value.ensures.worth either
    ∙ ap (first_by hexadecimal_number) c.trimmed-line.ensures.tokens

pub returns : goal.returns
returns c =
    ap (λ xs. Some (c.in_ok-value.value, tokens_of xs)) (take_rest c.trimmed-line.result.now c.in_ok-value.end)
    ∙ hexadecimal_some c.trimmed-line.result.now c.in_ok-value.end c.in_ok-value.value c.in_ok-value.ensures.end (omega (arith, c.if-end-eq0.false)) c.in_ok-value.ensures.short c.in_ok-value.ensures.worth c.if-value-ge-NONE.false
    ∙ ap (first_by hexadecimal_number) c.trimmed-line.ensures.tokens
