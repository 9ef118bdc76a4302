use Rattle.tower_c.specs.Border.{pid_of}
use Rattle.tower_c.proofs.ShadowLemmas.{handles_as}
use Rattle.tower_c.proofs.shadow_faults.fault.Goals as goal

pub returns-clause-handled : goal.returns-clause-handled
returns-clause-handled c =
    let h = c.handle_fault-handled in
    let made = h.ensures in
    handles_as c.args.core.now c.args.tables.now (pid_of c.args.pid) c.in-Some.pid c.args.address c.args.write c.access_from.result h.result.0 h.result.1
    c.status_of-status.result c.told_of-told.result c.ended_from-ends.result h.new.core h.new.shadow c.in-Some.ensures c.access_from.ensures
    c.status_of-status.ensures c.told_of-told.ensures c.ended_from-ends.ensures
    made.full made.unchanged made.handled made.ended made.state made.ends made.stay made.bytes made.stopped made.filled made.spent made.roots made.tables made.fixed
