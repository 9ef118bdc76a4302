use Rattle.std.proofs.Common.{List, subst, ◌∙◌}
use Rattle.wide_image.specs.declared.offers.PendingOffer.{PendingOffer}
use Rattle.wide_image.specs.Offers.{AreListed}
use Rattle.image_restore.specs.Resumed.{IsRefused}
use Rattle.image_restore.proofs.Places.{shows_places}
use Rattle.image_restore.proofs.Resuming.{none_refused}
use Rattle.image_restore.proofs.wide.restore_wide.Goals as goal

pub returns-in-None-clause-resumed : goal.returns-in-None-clause-resumed
returns-in-None-clause-resumed c = record {
  stands = c.in-None.ensures.stands c.args.image.image c.in-Ok.ensures.stands;
  offers = subst (AreListed c.make_offers.new.core.state.offers) (c.as_slice.ensures.value ∙ c.in-Ok.ensures.offers) c.in-None.ensures.offers;
  shows = shows_places c.in-Ok.made.0 c.make_offers.new.core c.args.image.image c.in-Ok.ensures.shows c.stands.ensures.image c.stands-in-None.ensures.image c.in-None.ensures.state c.in-None.ensures.stay;
}

pub returns-in-Some-clause-fault : goal.returns-in-Some-clause-fault
returns-in-Some-clause-fault c = (
  c.in-Ok.made.0.state,
  c.in-Ok.ensures.stands,
  c.in-Ok.ensures.none,
  subst (λ (xs : List PendingOffer). IsRefused c.in-Ok.made.0.state xs c.in-Some.refused.0 c.in-Some.refused.1) (c.as_slice.ensures.value ∙ c.in-Ok.ensures.offers) c.in-Some.ensures.refused,
)

pub returns-in-Err-clause-passes : goal.returns-in-Err-clause-passes
returns-in-Err-clause-passes c sound = c.in-Err.ensures.passes sound.stands.sound

pub returns-in-Some-clause-passes : goal.returns-in-Some-clause-passes
returns-in-Some-clause-passes c sound = absurd (
    none_refused c.args.image c.in-Some.refused.0 c.in-Some.refused.1 c.in-Ok.made.0.state c.in-Ok.ensures.stands
    (subst (λ (xs : List PendingOffer). IsRefused c.in-Ok.made.0.state xs c.in-Some.refused.0 c.in-Some.refused.1) (c.as_slice.ensures.value ∙ c.in-Ok.ensures.offers) c.in-Some.ensures.refused)
    sound c.has_offers.ensures.rise)
