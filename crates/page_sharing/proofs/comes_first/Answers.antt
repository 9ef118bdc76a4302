use Rattle.std.proofs.Common.{◌≡◌, Bool, true, false, List, ◌++◌, ◌∷◌, [], Some, subst, sym, refl, arith}
use Rattle.std.specs.Prelude.{if◌then◌else◌, nat_lt}
use Rattle.std.proofs.lemmas.Bool.{ltb-true, ltb-false}
use Rattle.page_sharing.specs.declared.Offer.{Offer}
use Rattle.page_sharing.specs.Listed.{IsFirstFrom}
use Rattle.page_sharing.proofs.FirstOffers.{passes, first_of_all, comes_earlier, comes_later}
use Rattle.page_sharing.proofs.comes_first.Goals as goal

pub returns-then-number-from : goal.returns-then-number-from
returns-then-number-from c = λ offers. passes c.args.from offers c.args.offer.now c.args.first.now (omega arith)

pub returns-in-None : goal.returns-in-None
returns-in-None c = λ offers h.
    first_of_all c.args.from offers c.args.offer.now (omega arith) (subst (IsFirstFrom c.args.from offers) c.in-None.is h)

pub returns-in-Some : goal.returns-in-Some
returns-in-Some c = λ offers h.
    let here = subst (IsFirstFrom c.args.from offers) c.in-Some.is h in
    by offers here (nat_lt c.number-in-Some.result c.number-in-Some-2.result) refl
  where
    by : (offers : List Offer) → IsFirstFrom c.args.from offers (Some c.in-Some.found) → (b : Bool) → nat_lt c.number-in-Some.result c.number-in-Some-2.result ≡ b
        → IsFirstFrom c.args.from (offers ++ c.args.offer.now ∷ []) (if b then Some c.args.offer.now else c.args.first.now)
    by offers here true e = let less = ltb-true _ _ e in comes_earlier c.args.from offers c.args.offer.now c.in-Some.found (omega arith) (omega arith) here
    by offers here false e =
        let more = ltb-false _ _ e in
        subst (IsFirstFrom c.args.from (offers ++ c.args.offer.now ∷ [])) (sym c.in-Some.is) (comes_later c.args.from offers c.args.offer.now c.in-Some.found (omega arith) here)
