use Rattle.page_map.proofs.PageLemmas.{get-entries_user, get-entries_other}
use Rattle.page_map.proofs.entries_are_the_words.Goals as goal

pub returns-clause-user : goal.returns-clause-user
returns-clause-user c = get-entries_user

pub returns-clause-other : goal.returns-clause-other
returns-clause-other c = get-entries_other
