use Rattle.page_words.proofs.MapLemmas.{same_set, contains-insert, contains-retain, len-insert}
use Rattle.page_words.proofs.maps.sets_are_their_members.Goals as goal

pub returns-clause-determined : goal.returns-clause-determined
returns-clause-determined g c = λ o s t is. same_set s t is

pub returns-clause-inserted : goal.returns-clause-inserted
returns-clause-inserted g c = λ o s k q. contains-insert s k q

pub returns-clause-retained : goal.returns-clause-retained
returns-clause-retained g c = λ o s p q. contains-retain s p q

pub returns-clause-length : goal.returns-clause-length
returns-clause-length g c = λ o s k. len-insert s k tt
