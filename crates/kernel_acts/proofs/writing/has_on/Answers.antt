use Rattle.kernel_acts.proofs.Prelude.{◌+◌, ◌≡◌, ◌∙◌, ℕ, true, false, sym, subst, arith, IsCore}
use Rattle.kernel_acts.proofs.FrameWriters.{SearchedTo, searched_on, searched_all}
use Rattle.kernel_acts.proofs.writing.has_on.Goals as goal

pub loop-page-preserved : goal.loop-page-preserved
loop-page-preserved c =
    let v = c.args.core.now in
    let s = c.stands.ensures in
    let core : IsCore v = s.core in
    let found : ℕ = c.in-Some.page in
    let view = c.page.view_is in
    let next : found + 1 ≡ c.page.inside.0 + 1 = omega (arith, view) in
    record {
      none = subst (λ n. SearchedTo v c.args.pid c.args.frame n) next
          (searched_on v core c.args.pid c.args.frame c.loop-page.at found c.loop-page.invariant.none c.in-Some.ensures.least
          (λ is. let t : true ≡ false = sym (c.is_on.ensures.1 is) ∙ c.if-is_on.false in cc));
    }

pub returns : goal.returns
returns c = grind (arith, searched_all, c.stands.ensures, c.loop-page.invariant.none, c.in_default.ensures.none)
