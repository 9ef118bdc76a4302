use Rattle.std.proofs.Common.{ap, ◌∙◌}
use Rattle.std.specs.Option.{option_map}
use Rattle.script_run.specs.Numbers.{decimal_number}
use Rattle.script_run.specs.Tokens.{tokens_of}
use Rattle.script_run.proofs.OperandLemmas.{first_below, first_above, first_missing}
use Rattle.script_run.proofs.numbers.number_below.Goals as goal

pub returns-in_err-number-clause-number : goal.returns-in_err-number-clause-number
returns-in_err-number-clause-number c = ap (option_map _) c.from_residual.ensures ∙ first_missing decimal_number c.args.limit (tokens_of c.args.line.now) c.in_err-number.ensures

pub returns-then-number-limit-clause-number : goal.returns-then-number-limit-clause-number
returns-then-number-limit-clause-number c = first_below decimal_number c.args.limit (tokens_of c.args.line.now) c.in_ok-number.number (tokens_of c.in_ok-number.rest.now) c.in_ok-number.ensures c.if-number-limit.true

pub returns-else-number-limit-clause-number : goal.returns-else-number-limit-clause-number
returns-else-number-limit-clause-number c = first_above decimal_number c.args.limit (tokens_of c.args.line.now) c.in_ok-number.number (tokens_of c.in_ok-number.rest.now) c.in_ok-number.ensures c.if-number-limit.false
