use Rattle.std.proofs.Common.{rules, Bool, true, false, All, length, arith, true≢false, sym}
use Rattle.std.specs.Prelude.{IsTrue, MatchBool}
use Rattle.std.proofs.lemmas.Iterator.{cases_from_all, YieldsList-from_slice}
use Rattle.core.specs.List.{AllWithin}
use borrow.Author.Tests.{tests}
use Rattle.locked_core.specs.Makers.{Maker}
use Rattle.locked_core.specs.Moments.{Begins}
use Rattle.locked_core.proofs.closing.agree.Goals as goal

-- each CPU agrees, and its moments then begin those of the front
pub returns-clause-moments : goal.returns-clause-moments
returns-clause-moments g c =
    from c.all.result _ (cases_from_all _ _ _ P (λ m. Unit {0}) c.all.ensures.ran (YieldsList-from_slice c.args.cpus.now cc) (λ x q k. search (rules, tests)) (λ x q k. tt))
  where
    P : Maker → Type 0
    P m = Begins c.args.front.now m.moments

    from : (r : Bool) (X : Type 0) → MatchBool r (AllWithin P c.args.cpus.now 0 (length c.args.cpus.now)) X → IsTrue r → All P c.args.cpus.now
    from true X all is = λ k d inside. all k d (omega arith) inside
    from false X none is = absurd (true≢false (sym is))
