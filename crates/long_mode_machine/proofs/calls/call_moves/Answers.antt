use Rattle.long_mode_machine.proofs.CallParts.{tabled, left_of, forgotten}
use Rattle.long_mode_machine.proofs.calls.call_moves.Goals as goal

pub returns-clause-left : goal.returns-clause-left
returns-clause-left c =
    let old = c.args.shadow.now in
    let new = c.carry_out-told.new.shadow in
    let told = c.carry_out-told.ensures in
    let now = c.walks.ensures in
    left_of old new c.carry_out-told.result.1 told.left told.roots told.tables (tabled old new c.requires.aligned told.fixed now.walks now.links now.pages)

pub returns-clause-forgotten : goal.returns-clause-forgotten
returns-clause-forgotten c = forgotten c.args.shadow.now c.carry_out-told.new.shadow c.carry_out-told.result.1 c.carry_out-told.ensures.left
