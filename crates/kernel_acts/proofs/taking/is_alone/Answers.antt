use Rattle.kernel_acts.proofs.Prelude.{sym, eqb-true}
use Rattle.kernel_acts.proofs.Unmaps.{alone_one}
use Rattle.kernel_acts.proofs.taking.is_alone.Goals as goal

pub returns-in-Some : goal.returns-in-Some
returns-in-Some c = λ h.
    alone_one c.args.core.now c.args.pid c.args.page c.in-Some.state c.stands.ensures.well_formed (sym c.in-Some.ensures) (eqb-true c.in-Some.state.cell.holders 1 h)
