use Rattle.tower_c.specs.Border.{pid_of}
use Rattle.tower_c.proofs.TouchLemmas.{touched_none_as, touched_some_as, not_carried_as}
use Rattle.tower_c.proofs.touching.touch.Goals as goal

pub returns-in_default-clause-touched : goal.returns-in_default-clause-touched
returns-in_default-clause-touched c =
    let now = c.stands.ensures in
    touched_none_as c.args.core.now (pid_of c.args.pid) c.args.address c.args.write c.no_event.result c.ended_from.result
    now.core c.in_default.ensures c.no_event.ensures c.ended_from.ensures

pub returns-clause-touched : goal.returns-clause-touched
returns-clause-touched c =
    let t = c.touch-reply in
    let made = t.ensures in
    touched_some_as c.args.core.now t.new.core (pid_of c.args.pid) c.in-Some.pid c.args.address c.args.write c.access_from.result t.result.0 t.result.1
    c.told_from-numbers.result c.ended_from-ends.result c.in-Some.ensures c.access_from.ensures c.told_from-numbers.ensures c.ended_from-ends.ensures
    made.reply made.ended made.state made.ends made.stay made.bytes made.finds

pub returns-clause-refused : goal.returns-clause-refused
returns-clause-refused c = λ stops.
    let t = c.touch-reply in
    t.ensures.kept
    (not_carried_as c.args.core.now (pid_of c.args.pid) c.in-Some.pid c.args.address c.args.write c.access_from.result t.result.0 c.in-Some.ensures c.access_from.ensures t.ensures.reply stops)
