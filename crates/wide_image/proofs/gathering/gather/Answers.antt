use Rattle.std.proofs.Common.{◌≡◌, ◌+◌, ◌*◌, ◌∷◌, [], ◌++◌, Some, arith, subst, sym, ap}
use Rattle.page_words.specs.FiniteMap as map
use Rattle.wide_image.specs.declared.offers.PendingOffer.{PendingOffer}
use Rattle.wide_image.specs.Gathered.{ListedBelow, place_of}
use Rattle.wide_image.proofs.GatherLemmas.{key_at, gathered, all_gathered}
use Rattle.wide_image.proofs.gathering.gather.Goals as goal

pub next-preserved : goal.next-preserved
next-preserved c =
    let o = c.pending_by-offer.result in
    let got = subst (λ (x : PendingOffer). map.get c.args.core.now.state.offers (key_at x) ≡ Some x.write) (sym c.pending_by-offer.ensures) c.in-Some.ensures.pending in
    let page = ap (λ (x : PendingOffer). x.page) c.pending_by-offer.ensures in
    let target = ap (λ (x : PendingOffer). x.target) c.pending_by-offer.ensures in
    let after = c.target_after-target.ensures.is in
    let on = c.page_in-page.ensures in
    let from = c.in-Some.ensures.from in
    record {
      listed =
          subst (ListedBelow c.args.core.now.state.offers (place_of c.args.pid (64 * c.page_in-page.result + c.target_after-target.result))) (sym c.in-Ok.ensures.items)
          (subst (λ p. ListedBelow c.args.core.now.state.offers p (c.next.offers.items ++ c.pending_by-offer.result ∷ [])) (omega (arith, after, on))
          (gathered c.args.core.now.state.offers c.are_valid.ensures c.args.pid (64 * c.next.page + c.next.target) c.next.offers.items c.next.invariant.listed c.pending_by-offer.result
          (ap (λ (x : PendingOffer). x.offerer) c.pending_by-offer.ensures) got (omega (arith, from, page, target))
          (λ p t low high. c.in-Some.ensures.least p t low (omega (arith, page, target, high)))));
      few = c.target_after-target.ensures.most;
      most = (let k = (c.are_valid.ensures (key_at c.pending_by-offer.result) c.pending_by-offer.result.write got).page in let t = c.target_after-target.ensures.most in omega (arith, k, t, on));
    }

pub returns-in-None : goal.returns-in-None
returns-in-None c = λ _. all_gathered c.args.core.now.state.offers c.are_valid.ensures c.args.pid (64 * c.next.page + c.next.target) c.next.offers.items c.next.invariant.listed c.in-None.ensures.none c.next.invariant.most
