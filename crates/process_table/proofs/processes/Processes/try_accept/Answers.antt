use Rattle.process_table.proofs.Prelude.{arith, rules, ◌≡◌, true, offer_key}
use Rattle.process_table.proofs.Refusals.{test_accept}
use Rattle.page_words.specs.FiniteMap as map
use Rattle.process_table.proofs.processes.Processes.try_accept.Goals as goal

pub returns-in_ok-accept_offered-in-Ok-clause-result : goal.returns-in_ok-accept_offered-in-Ok-clause-result
returns-in_ok-accept_offered-in-Ok-clause-result c =
    let there : map.contains_key c.args.self.now.state.offers (offer_key c.args.giver c.args.giver_page c.args.pid) ≡ true = grind (arith, c.accept_offered.ensures.there, c.in_ok-accept_offered-in-Ok.was) in
    let is = test_accept c.args.self.now.state c.args.pid c.args.giver c.args.giver_page c.args.page (search rules) (search rules) there in
    grind (arith, is, c.charge_with.ensures, c.in-Ok.is)
