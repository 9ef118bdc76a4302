use Rattle.quota_tree.proofs.Prelude
use Prelude.{◌≡◌, refl, arith}
use Rattle.quota_tree.proofs.Views.{quotas-opening, seen_as-opening}
use Rattle.quota_tree.proofs.Quotas.new.Goals as goal

pub invariant_of-result : goal.invariant_of-result
invariant_of-result c =
    let zero : c.unwrap.result ≡ 0 = grind arith in
    rw (c.opened.ensures, zero) (quotas-opening 63 c.args.root c.requires refl)

pub returns : goal.returns
returns c =
    let zero : c.unwrap.result ≡ 0 = grind arith in
    rw (c.opened.ensures, zero) (seen_as-opening 63 c.args.root c.requires)
