use Rattle.fault_handler.proofs.Prelude.{arith}
use Rattle.fault_handler.proofs.Settled.{ready}
use Rattle.fault_handler.proofs.accesses.plan_over.Goals as goal

pub unwrap-second-requires : goal.unwrap-second-requires
unwrap-second-requires c =
    let planned = c.plan_within-planned.ensures c.args.size c.requires.behind c.requires.within in
    grind (arith, planned, ready, c.requires.behind, c.in-Ready.is)

pub settle_over-requires-clause-plan : goal.settle_over-requires-clause-plan
settle_over-requires-clause-plan c =
    let planned = c.plan_within-planned.ensures c.args.size c.requires.behind c.requires.within in
    grind (arith, planned, c.in-Ready.is, c.unwrap-second.ensures)

pub returns-in-Ready-clause-result : goal.returns-in-Ready-clause-result
returns-in-Ready-clause-result c =
    let planned = c.plan_within-planned.ensures c.args.size c.requires.behind c.requires.within in
    grind (arith, planned, c.container.ensures, c.in-Some.is, c.in-Ready.is, c.settle_over.ensures.value)

pub returns-in-Fault-clause-result : goal.returns-in-Fault-clause-result
returns-in-Fault-clause-result c =
    let planned = c.plan_within-planned.ensures c.args.size c.requires.behind c.requires.within in
    grind (arith, planned, c.container.ensures, c.in-Some.is, c.in-Fault.is, c.in-Fault.fault-is)

pub returns-in-Refused-clause-result : goal.returns-in-Refused-clause-result
returns-in-Refused-clause-result c =
    let planned = c.plan_within-planned.ensures c.args.size c.requires.behind c.requires.within in
    grind (arith, planned, c.container.ensures, c.in-Some.is, c.in-Refused.is, c.in-Refused.cause-is)
