use Rattle.memory_image.proofs.RespellLemmas.{refused_where_not_spelled as law}
use Rattle.memory_image.proofs.laws.bytes_are_refused_where_they_spell_none.Goals as goal

pub returns : goal.returns
returns c = law
