use Rattle.kernel_calls.proofs.Prelude.{◌≡◌, subst, at_page, FramesStay, none_goes, memory_of, View, cleaned}
use Rattle.kernel_calls.proofs.Cleanings.{cleaning_ends}
use Rattle.kernel_calls.proofs.cores.Core.clean.Goals as goal

pub returns-clause-marks : goal.returns-clause-marks
returns-clause-marks c =
    let now = c.stands.ensures in
    let later = c.stands-2.ensures in
    let new = c.clean.new.self in
    cleaning_ends c.args.self.now new c.args.pid c.args.page
    now.core later.core c.requires.mapped
    (subst (λ (v : View). new.state ≡ cleaned v.state (at_page c.args.pid c.args.page)) c.self.view_is c.clean.ensures.state)
    (subst (λ (v : View). FramesStay none_goes (memory_of v) (memory_of new)) c.self.view_is c.clean.ensures.stay)
