use Rattle.std.proofs.Common.{subst, ◌∙◌}
use Rattle.kernel_acts.specs.Touched.{touch_of}
use Rattle.shadow_core.specs.Paired.{IsStopped, lacks_frames}
use Rattle.long_mode_machine.proofs.CallParts.{tabled, fills_one, same_left, nothing_forgotten, not_true, stops_none}
use Rattle.long_mode_machine.proofs.calls.fault_moves.Goals as goal

pub returns-clause-filled : goal.returns-clause-filled
returns-clause-filled c =
    let old = c.args.shadow.now in
    let new = c.handle_fault-handled.new.shadow in
    let told = c.handle_fault-handled.ensures in
    let now = c.walks.ensures in
    λ is. fills_one c.handle_fault-handled.result.1 c.handle_fault-handled.new.core old new c.args.pid c.args.address c.args.access (told.filled is) told.roots told.tables
    (tabled old new c.requires.aligned told.fixed now.walks now.links now.pages)

pub returns-clause-left : goal.returns-clause-left
returns-clause-left c =
    let old = c.args.shadow.now in
    let new = c.handle_fault-handled.new.shadow in
    let told = c.handle_fault-handled.ensures in
    let now = c.walks.ensures in
    λ stopped. same_left old new c.handle_fault-handled.result.1 (told.stopped stopped).1 (tabled old new c.requires.aligned told.fixed now.walks now.links now.pages)

pub returns-clause-forgotten : goal.returns-clause-forgotten
returns-clause-forgotten c =
    let v = c.args.core.now in
    let told = c.handle_fault-handled.ensures in
    λ stopped.
    let room = not_true (lacks_frames c.args.shadow.now c.args.pid c.args.address) (λ full. subst IsStopped (told.full.1 full) stopped) in
    nothing_forgotten c.handle_fault-handled.new.shadow c.handle_fault-handled.result.1
    (told.ended room ∙ stops_none v (touch_of v.state c.args.pid c.args.address c.args.access) (subst IsStopped (told.handled room) stopped))
