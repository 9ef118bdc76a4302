use Rattle.shadow_tables.proofs.OpeningLemmas.{root_inside}
use Rattle.shadow_tables.proofs.tables.Tables.root.Goals as goal

pub returns-clause-inside : goal.returns-clause-inside
returns-clause-inside c = root_inside c.args.self.now c.number.result c.requires.stands c.number.ensures.bound
