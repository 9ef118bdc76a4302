use Rattle.kernel_acts.proofs.Prelude.{◌∙◌, sym, ap, subst, arith, IsUserPage, may_at}
use Rattle.kernel_acts.proofs.LoadedPages.{user_first, user_rest, fails_first, passes_first}
use Rattle.kernel_acts.proofs.loading.may_all.Goals as goal

pub may_at-requires : goal.may_at-requires
may_at-requires c =
    record { user = subst IsUserPage (sym c.page_of.ensures.value) (user_first c.loop-done.at c.args.count c.loop-done.done c.loop-done-test.true c.loop-done.invariant.user) }

pub returns-then-not-may_at : goal.returns-then-not-may_at
returns-then-not-may_at c =
    let s = c.args.core.now.state in
    let at = c.loop-done.at in
    let test = ap (may_at s c.args.pid) (sym c.page_of.ensures.value) ∙ sym c.may_at.ensures in
    sym (c.loop-done.invariant.rest ∙ fails_first (may_at s c.args.pid) at c.args.count c.loop-done.done c.loop-done-test.true (test ∙ c.if-not-may_at.true))

pub overflow_add-at : goal.overflow_add-at
overflow_add-at c =
    grind (arith, user_first, c.loop-done-test.true, c.loop-done.invariant.user, c.count_in_page-part.ensures.within)

pub loop-done-preserved : goal.loop-done-preserved
loop-done-preserved c =
    grind (
      arith,
      user_rest,
      passes_first,
      c.loop-done.invariant,
      c.count_in_page-part.ensures,
      c.loop-done-test.true,
      c.page_of.ensures.value,
      c.may_at.ensures,
      c.if-not-may_at.false,
    )
