use Rattle.kernel_acts.proofs.Prelude.{refl, arith, cases_lt, at_page}
use Rattle.kernel_acts.proofs.Lists.{rest_later}
use Rattle.kernel_acts.proofs.Unmaps.{takes_none, alone_by}
use Rattle.kernel_acts.proofs.taking.take_from_all.Goals as goal

pub loop-number-init : goal.loop-number-init
loop-number-init c = record {
  room = omega arith;
  rest = refl;
  taking = record { taken = takes_none c.args.core.now.state (at_page c.args.pid c.args.page); along = refl };
  clear = λ few p page down. absurd (omega (arith, down));
}

pub loop-number-preserved : goal.loop-number-preserved
loop-number-preserved c = grind (arith, rest_later, cases_lt, c.loop-number.invariant, c.take_from-count.ensures)

pub returns-clause-alone : goal.returns-clause-alone
returns-clause-alone c =
    grind (arith, alone_by, c.loop-number-test.false, c.stands.ensures.well_formed, c.loop-number.invariant.clear)
