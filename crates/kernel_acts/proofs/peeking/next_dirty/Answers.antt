use Rattle.kernel_acts.proofs.Prelude.{arith, cases_lt}
use Rattle.kernel_acts.proofs.Peeked.{bare_clean, clean_up, clean_more}
use Rattle.kernel_acts.proofs.peeking.next_dirty.Goals as goal

pub returns-then-is_dirty-clause-least : goal.returns-then-is_dirty-clause-least
returns-then-is_dirty-clause-least c = grind (arith, clean_up, c.loop-page.invariant.none, c.in-Some.ensures.least)

pub loop-page-preserved : goal.loop-page-preserved
loop-page-preserved c =
    grind (
      arith,
      clean_more,
      c.loop-page.invariant.up,
      c.in-Some.ensures.from,
      c.loop-page.invariant.none,
      c.in-Some.ensures.least,
      c.is_dirty.ensures,
      c.if-is_dirty.false,
    )

pub returns-clause-none : goal.returns-clause-none
returns-clause-none c = grind (arith, cases_lt, bare_clean, c.loop-page.invariant.none, c.in_default.ensures.none)
