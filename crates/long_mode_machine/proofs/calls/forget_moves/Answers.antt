use Rattle.long_mode_machine.proofs.CallParts.{tabled, left_of, forgotten}
use Rattle.long_mode_machine.proofs.calls.forget_moves.Goals as goal

pub returns-clause-left : goal.returns-clause-left
returns-clause-left c =
    let old = c.args.shadow.now in
    let new = c.forget.new.shadow in
    let told = c.forget.ensures in
    let now = c.walks.ensures in
    left_of old new c.args.ended.now told.translations told.roots told.tables (tabled old new c.requires.aligned told.fixed now.walks now.links now.pages)

pub returns-clause-forgotten : goal.returns-clause-forgotten
returns-clause-forgotten c = forgotten c.args.shadow.now c.forget.new.shadow c.args.ended.now c.forget.ensures.translations
