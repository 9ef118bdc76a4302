use Rattle.process_table.proofs.Prelude.{arith, rules}
use Rattle.process_table.proofs.Refusals.{test_map}
use Rattle.process_table.proofs.processes.Processes.place_to_map.Goals as goal

pub returns-clause-charge : goal.returns-clause-charge
returns-clause-charge c =
    let is = test_map c.args.self.now.state c.args.pid c.args.page (search rules) (search rules) in
    grind (arith, is, c.charge_with.ensures, c.in_ok-charge.was)
