use Rattle.std.proofs.Common.{arith}
use Rattle.alloc_table.proofs.TableSteps.{table-taken, role-free, len-free}
use Rattle.alloc_table.proofs.FrameTable.take.Goals as goal

pub returns-in_err-free-clause-none : goal.returns-in_err-free-clause-none
returns-in_err-free-clause-none c = grind (arith, len-free, c.self.invariant, c.in_err-free.ensures.none.0)

pub invariant_of-self-2 : goal.invariant_of-self-2
invariant_of-self-2 c =
    let taken = c.in_ok-free.ensures.taken in
    rw (taken.now, c.free.view_is) (table-taken c.self.inside.ledger c.self.inside.roles.items c.self.invariant c.in_ok-free.free c.args.role taken.was_free c.requires)

pub returns-clause-found : goal.returns-clause-found
returns-clause-found c = grind (arith, role-free, c.self.invariant, c.in_ok-free.ensures.taken.was_free)

pub returns-clause-none : goal.returns-clause-none
returns-clause-none c = grind (arith, len-free, c.self.invariant, c.in_ok-free.ensures.none.1)
