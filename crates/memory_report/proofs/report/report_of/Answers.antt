use Rattle.std.proofs.Common.{rules, ◌≡◌, arith}
use Rattle.memory_report.proofs.RowLemmas.{report_is, told_more}
use Rattle.memory_report.proofs.report.report_of.Goals as goal

pub loop-number-preserved : goal.loop-number-preserved
loop-number-preserved c =
    let before = c.loop-number.invariant in
    let pid : c.unwrap-pid.result ≡ c.loop-number.number = search (rules, c.new.ensures.value, c.unwrap-pid.ensures) in
    let more = told_more c.args.core.now.state c.loop-number.rows c.put.new.rows c.loop-number.number c.unwrap-pid.result _ (omega arith) pid before.long before.told c.row_in.ensures c.put.ensures in
    record { long = more.0; told = more.1 }

pub returns : goal.returns
returns c = report_is c.args.core.now.state c.loop-number.rows c.loop-number.invariant.long (λ p lt. c.loop-number.invariant.told p (omega arith))
