use Rattle.fault_handler.proofs.Prelude.{◌≡◌, true, arith, ap, sym, ◌∙◌, goes_on, is_live}
use Rattle.fault_handler.proofs.Settled.{goes_live}
use Rattle.fault_handler.proofs.accesses.settle.Goals as goal

pub unwrap-requires : goal.unwrap-requires
unwrap-requires c =
    let goes = sym (ap goes_on c.requires.plan) ∙ c.requires.ready in
    let live : is_live c.args.processes.now.state c.args.pid ≡ true =
    goes_live c.args.processes.now c.args.pid c.args.address c.args.size c.args.access c.stands.ensures.well_formed goes in
    grind (arith, live, goes, c.access.ensures.result)
