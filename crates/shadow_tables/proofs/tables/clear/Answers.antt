use Rattle.shadow_tables.proofs.LongWordLemmas.{zeroed}
use Rattle.shadow_tables.proofs.tables.clear.Goals as goal

pub returns : goal.returns
returns c = zeroed c.args.bytes.now c.fill.new.self c.args.place 4096 c.requires (c.fill.ensures.after (λ y same. same))
