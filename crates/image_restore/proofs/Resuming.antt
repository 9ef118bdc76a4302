-- A stored machine is resumed as the same machine.
use Rattle.std.proofs.Common.{◌≡◌, ℕ, Bool, List, take, refl, sym, ap, ◌∙◌, Option, Some, None}
use Rattle.page_words.specs.FiniteMap as map
use Rattle.page_words.proofs.MapLemmas.{same_map}
use Rattle.page_sharing.specs.Offers.{Offers, OfferKey}
use Rattle.process_table.specs.State.{State}
use Rattle.process_table.proofs.ImageStanding.{stands_for_one_state}
use Rattle.kernel_calls.specs.Machine.{answer}
use Rattle.kernel_calls.specs.declared.calls.Reply.{Reply}
use Rattle.kernel_calls.specs.declared.calls.Reply.TheVariants as reply
use Rattle.memory_image.specs.Sound.{shown_by, StandsFor}
use Rattle.wide_image.specs.declared.offers.PendingOffer.{PendingOffer}
use Rattle.wide_image.specs.Offers.{AreListed, Rise}
use Rattle.wide_image.specs.Wide.{WideImage}
use Rattle.wide_image.proofs.Told.{machines_are_read}
use Rattle.image_restore.specs.Resumed.{offer_event, after_offers, IsRefused, IsSoundWide, StoredMachinesResume}
use Rattle.image_restore.proofs.OffersTaken.{offer_taken}

-- one list is of one map of offers
same_offers : (m n : Offers) (xs : List PendingOffer) → AreListed m xs → AreListed n xs → m ≡ n
same_offers m n xs a b = same_map m n (λ key. by key (map.get m key) (map.get n key) refl refl)
  where
    by : (key : OfferKey) (x y : Option Bool) → map.get m key ≡ x → map.get n key ≡ y → map.get m key ≡ map.get n key
    by key (Some w) y h k = h ∙ sym ((b key w).1 ((a key w).0 h))
    by key None (Some w) h k = (a key w).1 ((b key w).0 k) ∙ sym k
    by key None None h k = h ∙ sym k

pub resumes : StoredMachinesResume
resumes v w read M W E =
    let r = machines_are_read v w read M.fields M.shows M.stands E in (
      record { state = v.state; stands = r.0; well_formed = W; offers = r.1 },
      λ core stands listed.
          let one = stands_for_one_state (shown_by read.image) core.state v.state stands r.0 in
          let offers = same_offers core.state.offers v.state.offers read.offers listed r.1 in
          λ i. record { spaces = one.0 i; book = one.1 i; offers = offers i },
    )

-- of a sound image the machine refuses no offer
pub none_refused : (w : WideImage) (number : ℕ) (r : Reply) (s : State) → StandsFor w.image s → IsRefused s w.offers number r → IsSoundWide w → Rise 0 w.offers → ⊥
none_refused w number r s stands R W rise =
    let one = stands_for_one_state (shown_by w.image) s W.state stands W.stands in
    let path : after_offers s (take number w.offers) ≡ record W.state { offers = (after_offers s (take number w.offers)).offers } =
    R.same ∙ (λ i. record { spaces = one.0 i; book = one.1 i; offers = (after_offers s (take number w.offers)).offers }) in
    let done : r ≡ reply.Done = sym R.answered ∙ ap (λ (u : State). answer u (offer_event R.offer)) path ∙ offer_taken W.state W.well_formed w.offers W.offers rise (after_offers s (take number w.offers)).offers number R.before R.offer R.here in
    R.refused done
