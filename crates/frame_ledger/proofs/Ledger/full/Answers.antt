use Rattle.std.proofs.Common.{rules, ◌≡◌, replicate, sym, subst, List, ℕ, arith}
use Rattle.frame_ledger.specs.declared.TheConstants.{IN_USE, END}
use Rattle.frame_ledger.specs.FreeList.{IsLedger}
use Rattle.frame_ledger.proofs.Chains.{seen_as-all_in_use, IsLedger-all_in_use}
use Rattle.frame_ledger.proofs.Ledger.full.Goals as goal

pub invariant_of-result : goal.invariant_of-result
invariant_of-result c =
    let items : c.in-Ok.places.items ≡ replicate c.args.frames IN_USE = search rules in
    let P : List ℕ → Type 0 = λ places. IsLedger places END 0 in
    subst P (sym items) (IsLedger-all_in_use c.args.frames c.requires.fewest c.requires.most)

pub returns-in-Ok-clause-ledger : goal.returns-in-Ok-clause-ledger
returns-in-Ok-clause-ledger c = grind (arith, seen_as-all_in_use)
