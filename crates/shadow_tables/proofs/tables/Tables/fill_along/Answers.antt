use Rattle.std.proofs.Common.{None, ap, ◌∙◌, arith}
use Rattle.shadow_tables.proofs.WayLemmas.{shared_less}
use Rattle.std.specs.Prelude.{slice_index_or}
use Rattle.shadow_tables.proofs.SlotLemmas.{translations-insert}
use Rattle.shadow_tables.proofs.tables.Tables.fill_along.Goals as goal

pub returns-clause-filled : goal.returns-clause-filled
returns-clause-filled c =
    let step = c.table_along-table.ensures in
    let changed = c.change.ensures in
    translations-insert c.args.self.now c.change.new.self c.args.pid c.args.page _ step.process c.requires.user changed.is
    (λ q at process user apart. changed.others q at process user apart ∙ step.same.at q at process user)

pub returns-clause-ways : goal.returns-clause-ways
returns-clause-ways c = λ q at d frame user deep is. c.change.ensures.ways q at d user deep ∙ c.table_along-table.ensures.same.ways q at d frame user deep is

pub returns-clause-shared : goal.returns-clause-shared
returns-clause-shared c =
    shared_less c.args.self.now c.change.new.self c.args.pid c.args.page c.table_along-table.result c.requires.user
    (λ q at d frame user deep is. c.change.ensures.ways q at d user deep ∙ c.table_along-table.ensures.same.ways q at d frame user deep is)
    (c.change.ensures.ways c.args.pid c.args.page 3 c.requires.user (omega arith) ∙ c.table_along-table.ensures.way_is)

pub returns-clause-roots : goal.returns-clause-roots
returns-clause-roots c = λ p frame is. ap (λ roots. slice_index_or roots p None) c.change.ensures.same.roots ∙ c.table_along-table.ensures.same.roots p frame is
