use Rattle.kernel_laws.proofs.EitherOrder.{accesses_beside, orders_end_the_same}
use Rattle.kernel_laws.proofs.laws.accesses_beside_an_event.Goals as goal

pub returns-clause-told : goal.returns-clause-told
returns-clause-told c = accesses_beside

pub returns-clause-ends : goal.returns-clause-ends
returns-clause-ends c = orders_end_the_same
