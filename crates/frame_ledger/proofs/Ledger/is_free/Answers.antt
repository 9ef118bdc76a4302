use Rattle.std.proofs.Common.{arith}
use Rattle.std.proofs.lemmas.List.{get_or_default}
use Rattle.frame_ledger.proofs.Chains.{contains-seen_as}
use Rattle.frame_ledger.proofs.Ledger.is_free.Goals as goal

pub returns : goal.returns
returns c = grind (arith, get_or_default, contains-seen_as, c.index.ensures, c.requires)
