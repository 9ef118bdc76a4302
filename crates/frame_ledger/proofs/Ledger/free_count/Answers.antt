use Rattle.std.proofs.Common.{ap, ◌∙◌}
use Rattle.page_words.specs.FiniteSet as set
use Rattle.frame_ledger.proofs.Chains.{count_is}
use Rattle.frame_ledger.proofs.Ledger.free_count.Goals as goal

pub returns : goal.returns
returns c =
    count_is c.self.inside.places.items c.self.inside.head c.self.inside.count c.self.invariant
    ∙ ap (λ l. set.len l.free) c.self.view_is
