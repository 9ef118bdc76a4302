use Rattle.std.proofs.Common.{◌∙◌, ap, sym}
use Rattle.shadow_tables.specs.Shadow.{Shadow}
use Rattle.shadow_tables.specs.Needs.{frames_needed}
use Rattle.shadow_tables.proofs.WayLemmas.{needed-missing, tables_stay}
use Rattle.shadow_tables.proofs.ShadowTables.forget_process.Goals as goal

pub returns-clause-needed : goal.returns-clause-needed
returns-clause-needed c =
    λ p at apart.
    needed-missing c.forget_process.new.self p at c.forget_process.ensures.stands.1.blocks ∙ c.forget_process.ensures.missing p at apart
    ∙ sym (needed-missing c.self.inside.tables p at c.self.invariant.1.blocks) ∙ ap (λ (s : Shadow). frames_needed s p at) c.self.view_is

pub returns-clause-tables : goal.returns-clause-tables
returns-clause-tables c =
    λ p apart. tables_stay c.self.inside.tables c.forget_process.new.self _ p c.self.invariant.1.blocks c.forget_process.ensures.stands.1.blocks c.self.view_is
    (λ page depth frame user deep is. c.forget_process.ensures.ways p page depth apart ∙ is)
