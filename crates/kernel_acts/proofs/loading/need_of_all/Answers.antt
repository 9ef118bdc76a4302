use Rattle.kernel_acts.proofs.Prelude.{◌≡◌, ◌+◌, ℕ, sym, subst, arith, eq-eqb, IsUserPage}
use Rattle.kernel_acts.proofs.LoadNeeds.{counting_on, counting_all, later}
use Rattle.kernel_acts.proofs.LoadedPages.{user_first, user_rest}
use Rattle.kernel_acts.proofs.loading.need_of_all.Goals as goal

pub need_behind-need-requires : goal.need_behind-need-requires
need_behind-need-requires c =
    record { user = subst IsUserPage (sym c.page_of.ensures.value) (user_first c.loop-done.at c.args.count c.loop-done.done c.loop-done-test.true c.loop-done.invariant.user) }

pub overflow_add-at : goal.overflow_add-at
overflow_add-at c =
    grind (arith, user_first, c.loop-done-test.true, c.loop-done.invariant.user, c.count_in_page-part.ensures.within)

pub loop-done-preserved : goal.loop-done-preserved
loop-done-preserved c =
    let s = c.args.core.now.state in
    let p = c.args.pid in
    let at = c.loop-done.at in
    let i = c.loop-done.invariant in
    let done : ℕ = c.loop-done.done in
    let part : ℕ = c.count_in_page-part.result in
    let e = c.count_in_page-part.ensures in
    let most = e.most in
    let some = e.some in
    let within = i.within in
    let place = i.place in
    let view = c.at.view_is in
    let below = c.loop-done-test.true in
    let few = i.few in
    let two = c.need_behind-need.ensures.most in
    let next : c.at.inside.0 + part ≡ at + part = omega (arith, view) in
    record {
      place = omega (arith, next, place);
      within = omega (arith, most, within, below);
      user = user_rest at (c.at.inside.0 + part) c.args.count done part next some most e.within e.whole i.user;
      counted = grind (arith, counting_on, eq-eqb, later);
      few = omega (arith, few, two, some);
    }

pub returns : goal.returns
returns c =
    let ended = c.loop-done-test.false in
    counting_all c.args.core.now.state c.args.pid c.args.address c.args.count c.loop-done.at c.loop-done.done c.loop-done.need c.loop-done.invariant.counted (omega (arith, ended))
