use Rattle.kernel_acts.proofs.Touches.{marks_touch}
use Rattle.kernel_acts.proofs.touching.mark_written.Goals as goal

pub returns-clause-marked : goal.returns-clause-marked
returns-clause-marked c = λ is.
    let now = c.stands.ensures in
    let later = c.stands-2.ensures in
    let m = c.store_taken-marked.ensures in
    marks_touch c.args.core.now c.store_taken-marked.new.self c.args.pid c.args.address
    now.core later.core
    (m.live is) (m.user is) (m.takes is) (m.state is) m.stay
