use Rattle.std.proofs.Common.{arith}
use Rattle.alloc_table.proofs.RoleLemmas.{free-by-weight}
use Rattle.alloc_table.proofs.FrameTable.within.Goals as goal

pub returns-clause-weighed : goal.returns-clause-weighed
returns-clause-weighed c = grind (arith, free-by-weight, c.self.invariant.held)
