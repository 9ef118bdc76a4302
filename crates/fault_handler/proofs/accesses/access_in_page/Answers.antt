use Rattle.fault_handler.proofs.Prelude.{stays_most}
use Rattle.fault_handler.proofs.accesses.access_in_page.Goals as goal

pub returns-then-eq-clause-stay : goal.returns-then-eq-clause-stay
returns-then-eq-clause-stay c = stays_most c.load_at.ensures.stay

pub returns-clause-stay : goal.returns-clause-stay
returns-clause-stay c = stays_most c.store_at.ensures.stay
