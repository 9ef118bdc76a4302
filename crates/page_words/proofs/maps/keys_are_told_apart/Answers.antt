use Rattle.page_words.proofs.MapLemmas.{same_itself, same-true}
use Rattle.page_words.proofs.maps.keys_are_told_apart.Goals as goal

pub returns-clause-itself : goal.returns-clause-itself
returns-clause-itself g c = λ o k. same_itself o k

pub returns-clause-equal : goal.returns-clause-equal
returns-clause-equal g c = λ o j k e. same-true o j k e
