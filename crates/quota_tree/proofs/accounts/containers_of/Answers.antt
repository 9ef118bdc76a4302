use Rattle.quota_tree.proofs.Prelude
use Prelude.{◌≡◌, ℕ, ◌+◌, ◌<◌, length-set, ap, sym, subst, ◌∙◌, arith, Option, Some, slice_get, slice_set, Container, container_in}
use Rattle.quota_tree.proofs.AccountLemmas.{fill_goes_on}
use Rattle.quota_tree.proofs.accounts.containers_of.Goals as goal

pub loop-number-preserved : goal.loop-number-preserved
loop-number-preserved c =
    let is : c.unwrap.result ≡ c.loop-number.number = grind arith in
    let e : c.container_of.result ≡ container_in c.args.accounts.now c.loop-number.number = c.container_of.ensures ∙ ap (container_in c.args.accounts.now) is in (
      length-set c.loop-number.containers c.loop-number.number c.container_of.result ∙ c.loop-number.invariant.0,
      subst (λ (x : Option Container). (p : ℕ) → p < c.loop-number.number + 1 → slice_get (slice_set c.loop-number.containers c.loop-number.number x) p ≡ Some (container_in c.args.accounts.now p)) (sym e)
          (fill_goes_on (container_in c.args.accounts.now) c.loop-number.containers c.loop-number.number (omega (arith, c.loop-number.invariant.0)) c.loop-number.invariant.1),
    )
