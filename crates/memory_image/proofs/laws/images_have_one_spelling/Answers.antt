use Rattle.memory_image.proofs.SpellingLemmas.{spelling_is_exact, spellings_are_long}
use Rattle.memory_image.proofs.laws.images_have_one_spelling.Goals as goal

pub returns-clause-exact : goal.returns-clause-exact
returns-clause-exact c = spelling_is_exact

pub returns-clause-long : goal.returns-clause-long
returns-clause-long c = spellings_are_long
