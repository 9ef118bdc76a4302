-- The bytes of a snapshot encode one machine: what a free frame holds is no part of it.
use Rattle.std.proofs.Common.{◌≡◌, ℕ, List, sym, subst, ◌∙◌}
use Rattle.kernel_calls.specs.declared.calls.Reply.{Reply}
use Rattle.image_restore.specs.Resumed.{IsSoundWide}
use Rattle.image_restore.specs.declared.faults.Failed.{Failed}
use Rattle.image_restore.specs.declared.wide_faults.WideRestoreFault.{WideRestoreFault}
use Rattle.image_restore.specs.declared.wide_faults.WideRestoreFault.TheVariants as fault
use Rattle.wide_image.specs.Offers.{AreListed}
use Rattle.wide_image.specs.Wide.{WideImage, Encodes}
use Rattle.wide_image.proofs.InUse.{free_frames}
use Rattle.wide_image.proofs.Told.{texts_tell}
use Rattle.tower_images.specs.Whole.{EncodesOne}

-- if bytes encode a sound image, any image that they encode is sound
pub one_sound : (bytes : List ℕ) (image : WideImage) → Encodes bytes image → EncodesOne bytes IsSoundWide → IsSoundWide image
one_sound bytes image E one =
    let other = one.0 in
    let F = one.1.0 in
    let S = one.1.1 in
    let t = texts_tell other image F.whole.fields E.whole.fields (sym F.is ∙ E.is) in
    record {
      state = S.state;
      stands = free_frames other.image image.image S.state F.whole.fields.image F.whole.fields.today t.0 S.stands;
      well_formed = S.well_formed;
      offers = subst (AreListed S.state.offers) t.1 S.offers;
    }

pub not_memory : (failed : Failed) → ◌≡◌ {A = WideRestoreFault} (fault.NotSound failed) fault.NoMemory → ⊥
not_memory failed h = cc

pub not_memory_either : (number : ℕ) (reply : Reply) → ◌≡◌ {A = WideRestoreFault} (fault.BadOffer number reply) fault.NoMemory → ⊥
not_memory_either number reply h = cc
