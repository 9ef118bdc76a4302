use Rattle.table_walk.proofs.MarkLemmas.{marks_change_two_words}
use Rattle.table_walk.proofs.marks_change_two_words.Goals as goal

pub returns : goal.returns
returns c = marks_change_two_words
