use Rattle.page_map.proofs.Prelude
use Prelude.{arith}
use Rattle.page_map.proofs.Steps.{word_written}
use Rattle.page_map.proofs.set_word.Goals as goal

pub returns-clause-frames : goal.returns-clause-frames
returns-clause-frames c =
    grind (arith, word_written, c.write_word.ensures.bytes, c.place_of.ensures, c.requires.index, c.requires.inside)
