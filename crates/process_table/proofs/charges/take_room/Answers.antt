use Rattle.process_table.proofs.Charged.{room-taken}
use Rattle.process_table.proofs.charges.take_room.Goals as goal

pub returns-clause-room : goal.returns-clause-room
returns-clause-room c = λ v kept.
    room-taken v c.args.quotas.now c.charge.new.self c.args.pid c.args.frames kept c.requires.live c.charge.ensures c.within.ensures.numbers c.within.ensures.total
