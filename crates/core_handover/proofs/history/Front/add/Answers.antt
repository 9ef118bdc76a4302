use Rattle.std.proofs.Common.{rules, ◌≡◌, ◌++◌, ◌∷◌, []}
use Rattle.core_handover.specs.Histories.{given}
use Rattle.core_handover.proofs.history.Front.add.Goals as goal

pub returns-clause-begins : goal.returns-clause-begins
returns-clause-begins c =
    let added : c.exchange.new.seen.log ≡ c.args.self.now.log ++ given c.args.core.now ∷ [] = search rules in
    λ done. (given c.args.core.now ∷ [], added)
