use Rattle.kernel_acts.proofs.Prelude.{◌≡◌, ◌∙◌, sym, ap, arith, page_number, is_user_page}
use Rattle.kernel_acts.proofs.LoadedPages.{user_test, fails_first, passes_first}
use Rattle.kernel_acts.proofs.loading.are_user.Goals as goal

pub returns-then-not-in_user_range : goal.returns-then-not-in_user_range
returns-then-not-in_user_range c =
    let at = c.loop-done.at in
    let test : is_user_page (page_number at) ≡ c.in_user_range.result =
    ap is_user_page (sym c.page_of.ensures.value) ∙ sym (user_test c.page_of.result c.in_user_range.result c.in_user_range.ensures)
    in
    sym (c.loop-done.invariant.rest ∙ fails_first is_user_page at c.args.count c.loop-done.done c.loop-done-test.true (test ∙ c.if-not-in_user_range.true))

pub loop-done-preserved : goal.loop-done-preserved
loop-done-preserved c =
    grind (
      arith,
      user_test,
      passes_first,
      c.loop-done.invariant,
      c.count_in_page-part.ensures,
      c.loop-done-test.true,
      c.page_of.ensures.value,
      c.in_user_range.ensures,
      c.if-not-in_user_range.false,
    )
