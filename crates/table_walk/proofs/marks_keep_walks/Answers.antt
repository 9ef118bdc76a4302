use Rattle.table_walk.proofs.MarkLemmas.{marks_keep_walks}
use Rattle.table_walk.proofs.marks_keep_walks.Goals as goal

pub returns : goal.returns
returns c = marks_keep_walks
