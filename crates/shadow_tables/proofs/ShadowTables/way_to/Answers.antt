use Rattle.std.proofs.Common.{◌∙◌, sym, subst}
use Rattle.shadow_tables.specs.Needs.{IsWay}
use Rattle.shadow_tables.specs.Shadow.{Shadow}
use Rattle.shadow_tables.proofs.WayLemmas.{needed-missing, table_at-way}
use Rattle.shadow_tables.proofs.ShadowTables.way_to.Goals as goal

pub returns : goal.returns
returns c =
    let t = c.self.inside.tables in
    let p = c.args.pid in
    let page = c.args.page in
    let so = c.way_to.ensures in
    subst (λ (s : Shadow). IsWay s p page c.way_to.result) c.self.view_is (record {
      missing = so.missing ∙ sym (needed-missing t p page c.self.invariant.1.blocks);
      most = so.most;
      table = λ none. table_at-way t p page 3 c.self.invariant.1.blocks ∙ so.table none;
    })
