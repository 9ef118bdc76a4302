use Rattle.std.proofs.Common.{◌≡◌, take, subst, ap, sym, ◌∙◌, arith, Some}
use Rattle.std.proofs.lemmas.List.{take_all}
use Rattle.std.proofs.lemmas.Option.{slice_get-get_or}
use Rattle.address_space.proofs.standing.FramesStand.{stays_same, stays_then}
use Rattle.kernel_calls.specs.Machine.{answer}
use Rattle.process_table.specs.State.{State}
use Rattle.wide_image.specs.Offers.{AreListed}
use Rattle.image_restore.specs.Resumed.{offer_event}
use Rattle.image_restore.proofs.OfferLemmas.{AreMade, none_made, one_made, all_made, not_done}
use Rattle.image_restore.proofs.wide.make_offers.Goals as goal

pub loop-place-init : goal.loop-place-init
loop-place-init c = (none_made c.args.core.now.state c.requires.none, stays_same)

pub loop-place-preserved : goal.loop-place-preserved
loop-place-preserved c = (
  one_made c.args.core.now.state c.loop-place.core.state c.make_offer-reply.new.core.state c.args.offers.now c.loop-place.place c.index-offers-place.result c.make_offer-reply.result
      c.loop-place.invariant.0 (omega arith) c.index-offers-place.is c.make_offer-reply.ensures.reply c.make_offer-reply.ensures.state (sym c.is_done-done.ensures ∙ c.if-not-done.false),
  stays_then c.loop-place.invariant.1 c.make_offer-reply.ensures.stay,
)

pub returns-then-not-done-clause-refused : goal.returns-then-not-done-clause-refused
returns-then-not-done-clause-refused c = record {
  offer = c.index-offers-place.result;
  here = slice_get-get_or c.args.offers.now c.loop-place.place c.index-offers-place.result (omega arith) ∙ ap Some (sym c.index-offers-place.is);
  same = subst (λ (t : State). t ≡ record c.args.core.now.state { offers = t.offers }) c.loop-place.invariant.0.reached c.loop-place.invariant.0.same;
  before = subst (λ (t : State). AreListed t.offers (take c.loop-place.place c.args.offers.now)) c.loop-place.invariant.0.reached c.loop-place.invariant.0.listed;
  answered = ap (λ (s : State). answer s (offer_event c.index-offers-place.result)) (sym c.loop-place.invariant.0.reached) ∙ sym c.make_offer-reply.ensures.reply;
  refused = not_done c.make_offer-reply.result (sym c.is_done-done.ensures ∙ c.if-not-done.true);
}

pub returns-clause-stands : goal.returns-clause-stands
returns-clause-stands c = all_made c.args.core.now.state c.loop-place.core.state (take c.loop-place.place c.args.offers.now) c.loop-place.invariant.0

pub returns-clause-offers : goal.returns-clause-offers
returns-clause-offers c =
    let M = subst (AreMade c.args.core.now.state c.loop-place.core.state) (take_all c.loop-place.place c.args.offers.now (omega arith)) c.loop-place.invariant.0 in
    M.listed

pub returns-clause-state : goal.returns-clause-state
returns-clause-state c = c.loop-place.invariant.0.same

pub returns-clause-stay : goal.returns-clause-stay
returns-clause-stay c = c.loop-place.invariant.1
