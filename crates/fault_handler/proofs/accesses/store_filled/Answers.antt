use Rattle.fault_handler.proofs.Prelude.{memory_of, stays_then, stays_most}
use Rattle.fault_handler.proofs.Filled.{fills_one}
use Rattle.fault_handler.proofs.accesses.store_filled.Goals as goal

pub returns-clause-stay : goal.returns-clause-stay
returns-clause-stay c = stays_then
    (fills_one c.args.pid c.args.address c.args.size c.page_of.result (memory_of c.args.processes.now) (memory_of c.fill_at-filled.new.self) c.page_of.ensures.value c.fill_at-filled.ensures.stay)
    (stays_most c.store_at.ensures.stay)
