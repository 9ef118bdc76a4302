use Rattle.kernel_acts.proofs.Prelude.{stays_most}
use Rattle.kernel_acts.proofs.TransferSteps.{taken_stores}
use Rattle.kernel_acts.proofs.transfers.store_in_page.Goals as goal

pub returns-then-store_taken-clause-stored : goal.returns-then-store_taken-clause-stored
returns-then-store_taken-clause-stored c = λ _.
    let is = c.if-store_taken.true in
    let m = c.store_taken.ensures in
    taken_stores c.args.core.now c.store_taken.new.self.state c.args.pid c.args.address c.args.part.now
    (m.live is) (m.user is) (m.takes is) c.requires.some c.requires.within (λ i. (c.type_inv.part i).fits) (m.state is)

pub returns-then-store_taken-clause-stay : goal.returns-then-store_taken-clause-stay
returns-then-store_taken-clause-stay c = stays_most c.store_taken.ensures.stay
