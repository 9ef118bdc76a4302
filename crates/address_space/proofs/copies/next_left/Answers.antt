use Rattle.address_space.proofs.Prelude.{sym, ◌∙◌}
use Rattle.address_space.proofs.steps.RegionCopies.{none_left, left_behind}
use Rattle.address_space.proofs.copies.next_left.Goals as goal

pub returns-then-left-eq0-clause-none : goal.returns-then-left-eq0-clause-none
returns-then-left-eq0-clause-none c = none_left c.args.memory.now c.args.table c.args.first (sym c.requires.left ∙ c.if-left-eq0.true)

pub returns-clause-left : goal.returns-clause-left
returns-clause-left c =
    left_behind c.args.memory.now c.args.table c.args.first c.args.left c.next_listed.result c.requires.left c.next_listed.ensures.within c.next_listed.ensures.entry c.next_listed.ensures.least
