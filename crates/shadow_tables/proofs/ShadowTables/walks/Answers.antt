use Rattle.std.proofs.Common.{◌≡◌, ◌+◌, ◌*◌, length, subst}
use Rattle.std.specs.Prelude.{sum}
use Rattle.shadow_tables.specs.Shadow.{Shadow}
use Rattle.shadow_tables.specs.Laws.{WalksAgree, LinksAreExact, PagesAreExact, KernelHalves, UpperHalvesAreClosed, UserPagesOnly}
use Rattle.shadow_tables.proofs.SlotLemmas.{users_only}
use Rattle.shadow_tables.proofs.WalkLemmas.{walks_agree, links_are_exact, pages_are_exact, kernel_halves, upper_halves, all_frames}
use Rattle.shadow_tables.proofs.ShadowTables.walks.Goals as goal

pub returns-clause-walks : goal.returns-clause-walks
returns-clause-walks c = subst WalksAgree c.self.view_is (walks_agree c.self.invariant.0 c.self.inside.tables c.self.invariant.1)

pub returns-clause-links : goal.returns-clause-links
returns-clause-links c = subst LinksAreExact c.self.view_is (links_are_exact c.self.invariant.0 c.self.inside.tables c.self.invariant.1)

pub returns-clause-pages : goal.returns-clause-pages
returns-clause-pages c = subst PagesAreExact c.self.view_is (pages_are_exact c.self.invariant.0 c.self.inside.tables c.self.invariant.1)

pub returns-clause-kernel : goal.returns-clause-kernel
returns-clause-kernel c = subst KernelHalves c.self.view_is (kernel_halves c.self.invariant.0 c.self.inside.tables c.self.invariant.1)

pub returns-clause-frames : goal.returns-clause-frames
returns-clause-frames c =
    let P : Shadow → Type 0 = λ s. 4096 * (s.free + sum s.taken) ≡ length s.bytes in
    subst P c.self.view_is (all_frames c.self.invariant.0 c.self.inside.tables c.self.invariant.1)

pub returns-clause-closed : goal.returns-clause-closed
returns-clause-closed c = subst UpperHalvesAreClosed c.self.view_is (upper_halves c.self.invariant.0 c.self.inside.tables c.self.invariant.1)

pub returns-clause-user : goal.returns-clause-user
returns-clause-user c = subst UserPagesOnly c.self.view_is (users_only c.self.inside.tables)
