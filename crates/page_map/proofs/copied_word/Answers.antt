use Rattle.page_map.proofs.Prelude
use Prelude.{arith}
use Rattle.page_map.proofs.WordLaws.{entry_word-copy}
use Rattle.page_map.proofs.copied_word.Goals as goal

pub returns : goal.returns
returns c e is = grind (arith, is, entry_word-copy e c.args.frame c.requires)
