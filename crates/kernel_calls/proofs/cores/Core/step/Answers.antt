use Rattle.kernel_calls.proofs.Prelude.{◌≡◌, subst, arith, FramesStay, memory_of, View, gone_by, next}
use Rattle.kernel_calls.proofs.Leaving.{event_ends}
use Rattle.kernel_calls.proofs.Writings.{events_write_their_own}
use Rattle.kernel_calls.proofs.cores.Core.step.Goals as goal

pub returns-clause-ends : goal.returns-clause-ends
returns-clause-ends c =
    let made = c.reply_once-reply.ensures.made in
    let new = c.reply_once-reply.new.processes in
    let e = c.args.event.now in
    event_ends c.args.self.now new e c.stands.ensures.core c.stands-2.ensures.core
    (subst (λ (v : View). new.state ≡ next v.state e) c.self.view_is made.state)
    (subst (λ (v : View). FramesStay (gone_by v.state e) (memory_of v) (memory_of new)) c.self.view_is made.stay)

pub returns-clause-stay : goal.returns-clause-stay
returns-clause-stay c = grind (arith, c.reply_once-reply.ensures.made.stay)

pub returns-clause-loose : goal.returns-clause-loose
returns-clause-loose c = grind (arith, c.reply_once-reply.ensures.loose)

pub returns-clause-writes : goal.returns-clause-writes
returns-clause-writes c =
    let made = c.reply_once-reply.ensures.made in
    let new = c.reply_once-reply.new.processes in
    let e = c.args.event.now in
    events_write_their_own c.args.self.now new e c.stands.ensures.core c.stands-2.ensures.core
    (subst (λ (v : View). new.state ≡ next v.state e) c.self.view_is made.state) (returns-clause-ends c)
