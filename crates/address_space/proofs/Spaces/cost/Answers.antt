use Rattle.address_space.proofs.Prelude.{◌∙◌}
use Rattle.address_space.proofs.steps.Steps.{page_map_of}
use Rattle.address_space.proofs.costs.ChargeLemmas.{charged, charge_fits}
use Rattle.address_space.proofs.Spaces.cost.Goals as goal

pub tables-tables-requires : goal.tables-tables-requires
tables-tables-requires c =
    page_map_of c.self.inside.directories c.self.inside.memory c.self.inside.frames c.args.pid c.home-directory.result c.self.invariant.spaces.sound c.home-directory.ensures

pub pages-pages-requires : goal.pages-pages-requires
pages-pages-requires c =
    page_map_of c.self.inside.directories c.self.inside.memory c.self.inside.frames c.args.pid c.home-directory.result c.self.invariant.spaces.sound c.home-directory.ensures

pub sum-requires : goal.sum-requires
sum-requires c =
    charge_fits c.self.inside.directories c.self.inside.memory c.self.inside.frames c.args.pid c.home-directory.result c.self.invariant.spaces c.home-directory.ensures c.tables-tables.result c.pages-pages.result (c.tables-tables.ensures c.self.inside.directories c.self.inside.frames c.args.pid c.self.invariant.spaces c.home-directory.ensures) c.pages-pages.ensures

pub returns : goal.returns
returns c =
    rw (← c.self.view_is)
    (c.sum.ensures ∙ charged c.self.inside.directories c.self.inside.memory c.self.inside.frames c.args.pid c.home-directory.result c.self.invariant.spaces c.home-directory.ensures c.tables-tables.result c.pages-pages.result (c.tables-tables.ensures c.self.inside.directories c.self.inside.frames c.args.pid c.self.invariant.spaces c.home-directory.ensures) c.pages-pages.ensures)
