use Rattle.std.proofs.Common.{refl, arith}
use Rattle.shadow_tables.proofs.HoldingLemmas.{releases, sum_fits}
use Rattle.shadow_tables.proofs.holdings.Holdings.release.Goals as goal

pub overflow_add-count : goal.overflow_add-count
overflow_add-count c = omega (arith, sum_fits c.requires.held.0 c.args.self.now c.args.owner c.requires.process c.requires.held.1)

pub returns : goal.returns
returns c = releases c.args.self.now _ c.args.owner c.args.first (record { process = c.requires.process; next = refl; heads = refl; counts = refl })
