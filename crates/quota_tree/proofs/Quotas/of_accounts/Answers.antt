use Rattle.quota_tree.proofs.AccountLemmas.{are_quotas, seen}
use Rattle.quota_tree.proofs.Quotas.of_accounts.Goals as goal

pub invariant_of-result : goal.invariant_of-result
invariant_of-result c = are_quotas c.args.accounts.now c.containers_of.result c.type_inv.accounts c.containers_of.ensures.length c.containers_of.ensures.each c.requires

pub returns : goal.returns
returns c = seen c.args.accounts.now c.containers_of.result c.type_inv.accounts c.containers_of.ensures.length c.containers_of.ensures.each
