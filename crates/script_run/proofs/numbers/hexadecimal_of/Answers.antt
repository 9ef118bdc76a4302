use Rattle.std.proofs.Common.{Some, ap, ◌∙◌, arith}
use Rattle.std.proofs.lemmas.List.{take_rest}
use Rattle.script_run.specs.Tokens.{tokens_of}
use Rattle.script_run.proofs.FirstNumbers.{hexadecimal_in_front}
use Rattle.script_run.proofs.numbers.hexadecimal_of.Goals as goal

pub returns : goal.returns
returns c =
    ap (λ xs. Some (c.worth_in_front-value.result, tokens_of xs)) (take_rest c.args.line.now c.args.digits)
    ∙ hexadecimal_in_front c.args.line.now c.args.digits c.worth_in_front-value.result (omega arith) (omega arith) (omega arith) (c.ends_at.ensures.ends c.if-not-ends_at.false) c.worth_in_front-value.ensures (omega arith)
