use Rattle.process_table.proofs.Prelude.{arith}
use Rattle.process_table.proofs.StoreCharge.{load_charge, store_charge}
use Rattle.process_table.proofs.processes.Processes.access_charge.Goals as goal

pub returns-clause-load : goal.returns-clause-load
returns-clause-load c = grind (arith, load_charge, c.charge_of.ensures.charge, c.access_need.ensures)

pub returns-clause-store : goal.returns-clause-store
returns-clause-store c = grind (arith, store_charge, c.charge_of.ensures.charge, c.access_need.ensures)
