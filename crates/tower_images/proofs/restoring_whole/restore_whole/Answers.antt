use Rattle.std.proofs.Common.{ℕ, sym, subst, ◌∙◌}
use Rattle.image_restore.specs.Failing.{FailsFirst}
use Rattle.image_restore.specs.Resumed.{NamesFault, RefusesOffer}
use Rattle.tower_images.proofs.WholeLemmas.{one_sound, not_memory, not_memory_either}
use Rattle.tower_images.proofs.restoring_whole.restore_whole.Goals as goal

pub returns-in-Ok-new-clause-sound : goal.returns-in-Ok-new-clause-sound
returns-in-Ok-new-clause-sound c = (
  c.in-Ok.image,
  (
    c.in-Ok.ensures.encoded,
    record {
      state = c.in-Ok-restore_wide.core.state;
      stands = c.in-Ok-restore_wide.ensures.resumed.stands;
      well_formed = c.stands.ensures.well_formed;
      offers = c.in-Ok-restore_wide.ensures.resumed.offers;
    },
  ),
)

pub returns-in-Err-NotSound-clause-passes : goal.returns-in-Err-NotSound-clause-passes
returns-in-Err-NotSound-clause-passes c one =
    absurd (not_memory c.in-Err-NotSound.failed (sym c.in-Err-NotSound.field-0-is ∙ c.in-Err-NotSound.ensures.passes (one_sound c.args.bytes.now c.in-Ok.image c.in-Ok.ensures.encoded one)))

pub returns-in-Err-NotSound-clause-process : goal.returns-in-Err-NotSound-clause-process
returns-in-Err-NotSound-clause-process c is = (
  c.in-Ok.image,
  (
    c.in-Ok.ensures.encoded,
    c.tell_failed.ensures.process is c.in-Ok.image.image (subst (FailsFirst c.in-Ok.image.image) (sym c.in-Err-NotSound.failed-is) (subst (NamesFault c.in-Ok.image) c.in-Err-NotSound.field-0-is c.in-Err-NotSound.ensures.fault)),
  ),
)

pub returns-in-Err-BadOffer-clause-passes : goal.returns-in-Err-BadOffer-clause-passes
returns-in-Err-BadOffer-clause-passes c one =
    absurd (not_memory_either c.in-Err-BadOffer.number c.in-Err-BadOffer.field-0-1 (sym c.in-Err-BadOffer.field-0-is ∙ c.in-Err-BadOffer.ensures.passes (one_sound c.args.bytes.now c.in-Ok.image c.in-Ok.ensures.encoded one)))

pub returns-in-Err-BadOffer-clause-offer : goal.returns-in-Err-BadOffer-clause-offer
returns-in-Err-BadOffer-clause-offer c is = (
  c.in-Ok.image,
  (
    c.in-Ok.ensures.encoded,
    (
      c.in-Err-BadOffer.field-0-1,
      subst (λ (n : ℕ). RefusesOffer c.in-Ok.image n c.in-Err-BadOffer.field-0-1) (sym c.in-Err-BadOffer.number-is) (subst (NamesFault c.in-Ok.image) c.in-Err-BadOffer.field-0-is c.in-Err-BadOffer.ensures.fault),
    ),
  ),
)
