use Rattle.std.proofs.Common.{◌≡◌, ℕ, ◌+◌, ◌≤◌, ◌∙◌, ap, sym, subst, arith}
use Rattle.std.specs.Prelude.{slice_index}
use Rattle.shadow_tables.specs.Holdings.{count_of}
use Rattle.shadow_tables.specs.Needs.{frames_needed, shared_missing, IsWay}
use Rattle.shadow_tables.specs.Tables.{missing_in, shared_in, seen_as}
use Rattle.shadow_tables.specs.Shadow.{Shadow, root_frame}
use Rattle.shadow_tables.proofs.WayLemmas.{needed-missing, table_at-way, shared-missing, missing_less, tables_stay}
use Rattle.shadow_tables.proofs.ChangeLemmas.{front_same}
use Rattle.shadow_tables.proofs.ShadowTables.fill_along.Goals as goal

pub fill_along-requires-clause-goes : goal.fill_along-requires-clause-goes
fill_along-requires-clause-goes c =
    let t = c.self.inside.tables in
    let p = c.args.pid in
    let page = c.args.page in
    let are = c.self.invariant.1.blocks in
    let so : IsWay (seen_as t) p page c.args.way = subst (λ (s : Shadow). IsWay s p page c.args.way) (sym c.self.view_is) c.requires.way in
    record {
      missing = so.missing ∙ needed-missing t p page are;
      most = so.most;
      table = λ none. sym (table_at-way t p page 3 are) ∙ so.table none;
    }

pub returns-clause-taken : goal.returns-clause-taken
returns-clause-taken c =
    λ p other.
    front_same c.self.inside.tables.holdings.counts c.fill_along.new.self.holdings.counts p (c.fill_along.ensures.others.counts p other)
    ∙ ap (λ s. slice_index s.taken p) c.self.view_is

pub returns-clause-shared : goal.returns-clause-shared
returns-clause-shared c =
    let t = c.self.inside.tables in
    let v = c.fill_along.new.self in
    let p = c.args.pid in
    let needed = needed-missing t p c.args.page c.self.invariant.1.blocks in
    let before = shared-missing t p c.self.invariant.1.blocks in
    let after = shared-missing v p c.fill_along.ensures.stands.1.blocks in
    let P : Shadow → Type 0 = λ s. shared_missing (seen_as v) p + frames_needed s p c.args.page ≤ shared_missing s p + 1 in
    subst P c.self.view_is
    (subst (λ (n : ℕ). shared_missing (seen_as v) p + n ≤ shared_missing (seen_as t) p + 1) (sym needed)
    (subst (λ (n : ℕ). shared_missing (seen_as v) p + missing_in t p c.args.page ≤ n + 1) (sym before)
    (subst (λ (n : ℕ). n + missing_in t p c.args.page ≤ shared_in t p + 1) (sym after) c.fill_along.ensures.shared)))

pub returns-clause-less : goal.returns-clause-less
returns-clause-less c =
    let t = c.self.inside.tables in
    let v = c.fill_along.new.self in
    λ p at user.
    let before = sym (ap (λ (s : Shadow). frames_needed s p at) c.self.view_is) ∙ needed-missing t p at c.self.invariant.1.blocks in
    let after = needed-missing v p at c.fill_along.ensures.stands.1.blocks in
    omega (arith, before, after, missing_less t v p at user c.fill_along.ensures.ways)

pub returns-clause-roots : goal.returns-clause-roots
returns-clause-roots c = λ p frame is. c.fill_along.ensures.roots p frame (ap (λ (s : Shadow). root_frame s p) c.self.view_is ∙ is)

pub returns-clause-spent : goal.returns-clause-spent
returns-clause-spent c =
    let is = needed-missing c.self.inside.tables c.args.pid c.args.page c.self.invariant.1.blocks in
    let after = count_of c.fill_along.new.self.holdings 64 in
    let P : Shadow → Type 0 = λ s. s.free ≡ after + frames_needed s c.args.pid c.args.page in
    subst P c.self.view_is (subst (λ (n : ℕ). count_of c.self.inside.tables.holdings 64 ≡ after + n) (sym is) c.fill_along.ensures.spent)

pub returns-clause-tables : goal.returns-clause-tables
returns-clause-tables c =
    λ p. tables_stay c.self.inside.tables c.fill_along.new.self _ p c.self.invariant.1.blocks c.fill_along.ensures.stands.1.blocks c.self.view_is
    (λ page depth frame user deep. c.fill_along.ensures.ways p page depth frame user deep)
