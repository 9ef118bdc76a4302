use Rattle.std.proofs.Common.{◌≡◌, length, ap, ◌∙◌, arith, true}
use Rattle.page_words.specs.FiniteSet as set
use Rattle.frame_ledger.specs.FreeList.{seen_as}
use Rattle.frame_ledger.proofs.Chains.{free_within}
use Rattle.frame_ledger.proofs.Ledger.within.Goals as goal

pub returns-clause-free : goal.returns-clause-free
returns-clause-free c = λ frame free.
    let member : set.contains (seen_as c.self.inside.places.items).free frame ≡ true = ap (λ l. set.contains l.free frame) c.self.view_is ∙ free in
    let frames : length c.self.inside.places.items ≡ c.args.self.now.frames = ap (λ l. l.frames) c.self.view_is in
    let h = free_within c.self.inside.places.items c.self.inside.head c.self.inside.count c.self.invariant frame member in
    (h.0, omega (arith, h.1))
