use Rattle.std.proofs.Common.{◌∙◌, ap, sym, take}
use Rattle.std.proofs.lemmas.List.{get_or-take}
use Rattle.std.specs.Prelude.{slice_index}
use Rattle.shadow_tables.specs.Shadow.{Shadow}
use Rattle.shadow_tables.proofs.ShadowTables.taken_count.Goals as goal

pub returns : goal.returns
returns c =
    let counts = c.self.inside.tables.holdings.counts in
    sym (get_or-take 64 counts c.number.result 0 c.number.ensures.bound)
    ∙ ap (slice_index (take 64 counts)) c.number.ensures.value
    ∙ ap (λ (s : Shadow). slice_index s.taken c.args.pid) c.self.view_is
