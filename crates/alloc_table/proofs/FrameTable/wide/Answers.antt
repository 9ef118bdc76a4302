use Rattle.std.proofs.Common.{arith}
use Rattle.std.proofs.lemmas.Bool.{cases_lt}
use Rattle.alloc_table.specs.Roles.{opening_roles}
use Rattle.alloc_table.proofs.TableSteps.{table-opening}
use Rattle.alloc_table.proofs.FrameTable.wide.Goals as goal

pub invariant_of-result : goal.invariant_of-result
unfolding opening_roles
invariant_of-result c =
    grind (arith, cases_lt, table-opening, c.in_ok-ledger.ensures.ledger, c.in_ok-ledger.ensures.bad_size.1)
