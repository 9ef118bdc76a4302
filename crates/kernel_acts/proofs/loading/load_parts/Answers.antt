use Rattle.kernel_acts.proofs.Prelude
use Prelude.{◌≡◌, ◌+◌, ◌-◌, ◌≤◌, ◌∙◌, ℕ, refl, sym, ap, length, arith, pages_under, load_refusal}
use Rattle.kernel_acts.proofs.LoadedPages.{part_unrefused, rest_of_load}
use Rattle.kernel_acts.proofs.LoadSteps.{loading_none, loading_on}
use Rattle.kernel_acts.proofs.loading.load_parts.Goals as goal

pub loop-done-init : goal.loop-done-init
loop-done-init c =
    let n = length c.args.bytes.now in
    let all : n ≡ n - 0 = omega arith in
    record {
      place = omega arith;
      within = omega arith;
      loading = loading_none c.args.core.now c.args.pid c.args.address c.args.write c.args.bytes.now;
      none = ap (λ m. load_refusal c.args.core.now.state c.args.pid (pages_under c.args.address m)) (sym all) ∙ c.requires.none;
    }

pub install_part-requires-clause-none : goal.install_part-requires-clause-none
install_part-requires-clause-none c =
    let e = c.count_in_page-count.ensures in
    part_unrefused c.loop-done.core.state c.args.pid c.loop-done.at (length c.args.bytes.now - c.loop-done.done) c.count_in_page-count.result e.some e.most e.within e.whole c.loop-done.invariant.none

pub loop-done-preserved : goal.loop-done-preserved
loop-done-preserved c =
    let u = c.loop-done.core in
    let w = c.install_part.new.core in
    let p = c.args.pid in
    let bytes = c.args.bytes.now in
    let i = c.loop-done.invariant in
    let at = c.loop-done.at in
    let done : ℕ = c.loop-done.done in
    let count : ℕ = c.count_in_page-count.result in
    let e = c.count_in_page-count.ensures in
    let most = e.most in
    let within = i.within in
    let place = i.place in
    let view = c.at.view_is in
    let below = c.loop-done-test.true in
    let next : c.at.inside.0 + count ≡ at + count = omega (arith, view) in
    let fits : done + count ≤ length bytes = omega (arith, most, within, below) in
    record {
      place = omega (arith, next, place);
      within = fits;
      loading = loading_on c.args.core.now u w p c.args.address at done count (done + count - done) c.args.write bytes _ i.loading place e.some fits e.within (omega arith) refl
          c.stands.ensures.well_formed (record { run = c.install_part.ensures.installed; state = c.install_part.ensures.state; marks = c.install_part.ensures.marks; core = c.install_part.ensures.core });
      none = rest_of_load u.state w.state p at (c.at.inside.0 + count) (length bytes) done count _ c.args.write next e.some most e.within e.whole
          c.install_part.ensures.state i.none;
    }
