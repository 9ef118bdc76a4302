use Rattle.page_map.proofs.Prelude
use Prelude.{arith}
use Rattle.page_map.proofs.Steps.{word_read}
use Rattle.page_map.proofs.word.Goals as goal

pub returns : goal.returns
returns c = grind (arith, word_read, c.read_word.ensures, c.place_of.ensures, c.requires.index, c.requires.inside)
