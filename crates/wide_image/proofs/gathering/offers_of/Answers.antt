use Rattle.std.proofs.Common.{◌≡◌, ◌+◌, List, arith, subst, sym}
use Rattle.wide_image.specs.declared.offers.PendingOffer.{PendingOffer}
use Rattle.wide_image.specs.Gathered.{ListedBelow, place_of}
use Rattle.wide_image.proofs.GatherLemmas.{none_gathered, all_listed, all_fields}
use Rattle.wide_image.proofs.gathering.offers_of.Goals as goal

pub loop-number-init : goal.loop-number-init
loop-number-init c = subst (λ (xs : List PendingOffer). ListedBelow c.args.core.now.state.offers (place_of 0 0) xs) (sym c.new-offers.ensures.items) (none_gathered c.args.core.now.state.offers)

pub loop-number-preserved : goal.loop-number-preserved
loop-number-preserved c = subst (λ p. ListedBelow c.args.core.now.state.offers (place_of (p + 1) 0) c.gather-gathered.new.offers.items) c.pid_of.ensures (c.gather-gathered.ensures c.if-not-gathered.false)

pub returns-clause-listed : goal.returns-clause-listed
returns-clause-listed c =
    let all : c.loop-number.number ≡ 64 = omega (arith, c.loop-number.auto.number-end, c.loop-number-test.false) in
    all_listed c.args.core.now.state.offers c.loop-number.offers.items c.are_valid.ensures (subst (λ k. ListedBelow c.args.core.now.state.offers (place_of k 0) c.loop-number.offers.items) all c.loop-number.invariant)

pub returns-clause-fields : goal.returns-clause-fields
returns-clause-fields c = all_fields c.args.core.now.state.offers _ _ c.loop-number.invariant
