use Rattle.std.proofs.Common.{◌≤◌, sym, subst}
use Rattle.script_run.proofs.DigitTable.{by_table, digit_bound}
use Rattle.script_run.proofs.numbers.digit_of.Goals as goal

pub returns-clause-value : goal.returns-clause-value
returns-clause-value c = by_table c.look_up.result c.args.byte c.look_up.ensures c.ranges.byte.fits

pub returns-clause-bound : goal.returns-clause-bound
returns-clause-bound c =
    subst (λ n. n ≤ 36) (sym (by_table c.look_up.result c.args.byte c.look_up.ensures c.ranges.byte.fits)) (digit_bound c.args.byte c.ranges.byte.fits)
