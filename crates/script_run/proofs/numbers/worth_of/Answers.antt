use Rattle.std.proofs.Common.{◌≤◌, sym, subst}
use Rattle.script_run.proofs.DigitTable.{worth_by_table, worth_bound}
use Rattle.script_run.proofs.numbers.worth_of.Goals as goal

pub returns-clause-value : goal.returns-clause-value
returns-clause-value c = worth_by_table c.number_at.result c.args.byte c.number_at.ensures c.ranges.byte.fits

pub returns-clause-bound : goal.returns-clause-bound
returns-clause-bound c =
    subst (λ n. n ≤ 4294967296) (sym (worth_by_table c.number_at.result c.args.byte c.number_at.ensures c.ranges.byte.fits)) (worth_bound c.args.byte c.ranges.byte.fits)
