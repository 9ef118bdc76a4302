use Rattle.std.proofs.Common.{not}
use Rattle.page_words.specs.FiniteMap.{same}
use Rattle.page_words.proofs.MapLemmas.{same_map, get-insert, get-retain_keys, len-insert, get-collect}
use Rattle.page_words.proofs.maps.maps_are_their_answers.Goals as goal

pub returns-clause-determined : goal.returns-clause-determined
returns-clause-determined g c = λ o m n is. same_map m n is

pub returns-clause-inserted : goal.returns-clause-inserted
returns-clause-inserted g c = λ o m k x q. get-insert m k x q

pub returns-clause-removed : goal.returns-clause-removed
returns-clause-removed g c = λ o m k q. get-retain_keys m (λ j. not (same o k j)) q

pub returns-clause-retained : goal.returns-clause-retained
returns-clause-retained g c = λ o m p q. get-retain_keys m p q

pub returns-clause-length : goal.returns-clause-length
returns-clause-length g c = λ o m k x. len-insert m k x

pub returns-clause-collected : goal.returns-clause-collected
returns-clause-collected g c = λ o f ks q. get-collect o f ks q
