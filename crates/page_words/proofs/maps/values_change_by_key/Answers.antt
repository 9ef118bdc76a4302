use Rattle.page_words.proofs.MapLemmas.{get-map_values, len-change_each}
use Rattle.page_words.proofs.maps.values_change_by_key.Goals as goal

pub returns-clause-changed : goal.returns-clause-changed
returns-clause-changed g c = λ o f m q. get-map_values o f m q

pub returns-clause-length : goal.returns-clause-length
returns-clause-length g c = λ o f m. len-change_each f m.entries
