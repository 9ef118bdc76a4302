use Rattle.alloc_table.proofs.RoleLemmas.{weight-taken, weight-held, weight-released, free-by-weight}
use Rattle.alloc_table.proofs.weights_add_up.Goals as goal

pub returns-clause-taken : goal.returns-clause-taken
returns-clause-taken c = weight-taken

pub returns-clause-held : goal.returns-clause-held
returns-clause-held c = weight-held

pub returns-clause-released : goal.returns-clause-released
returns-clause-released c = weight-released

pub returns-clause-covered : goal.returns-clause-covered
returns-clause-covered c = free-by-weight
