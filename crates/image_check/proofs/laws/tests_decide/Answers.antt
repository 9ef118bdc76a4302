use Rattle.image_check.proofs.WordLemmas.{tests_decide as law}
use Rattle.image_check.proofs.laws.tests_decide.Goals as goal

pub returns : goal.returns
returns c = law
