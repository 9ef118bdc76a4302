use Rattle.kernel_calls.proofs.Prelude.{◌≡◌, subst, FramesStay, none_goes, memory_of, View}
use Rattle.kernel_calls.proofs.Leaving.{nothing_ends}
use Rattle.kernel_calls.proofs.cores.Core.set_walked.Goals as goal

pub returns-clause-ends : goal.returns-clause-ends
returns-clause-ends c =
    let now = c.stands.ensures in
    let later = c.stands-2.ensures in
    let new = c.set_walked.new.self in
    nothing_ends c.args.self.now new
    now.core later.core
    (subst (λ (v : View). new.state ≡ v.state) c.self.view_is c.set_walked.ensures.state)
    (subst (λ (v : View). FramesStay none_goes (memory_of v) (memory_of new)) c.self.view_is c.set_walked.ensures.stay)
