use Rattle.fault_handler.proofs.Prelude.{arith}
use Rattle.process_table.proofs.StoreCharge.{load_charge, store_charge}
use Rattle.fault_handler.proofs.Looked.{charge_goes}
use Rattle.fault_handler.proofs.planning.plan_by.Goals as goal

pub returns-in-Ok-clause-plan : goal.returns-in-Ok-clause-plan
returns-in-Ok-clause-plan c = grind (arith, c.plan_within.ensures, c.reach.ensures, c.in-Ok.is)

pub returns-in-Ok-clause-load : goal.returns-in-Ok-clause-load
returns-in-Ok-clause-load c = grind (arith, charge_goes, load_charge, c.plan_within.ensures, c.reach.ensures, c.in-Ok.is)

pub returns-in-Ok-clause-store : goal.returns-in-Ok-clause-store
returns-in-Ok-clause-store c = grind (arith, charge_goes, store_charge, c.plan_within.ensures, c.reach.ensures, c.in-Ok.is)

pub returns-in-Ok-clause-stays : goal.returns-in-Ok-clause-stays
returns-in-Ok-clause-stays c = grind (arith, c.plan_within.ensures, c.reach.ensures, c.in-Ok.is)
