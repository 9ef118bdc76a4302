-- The pending offers of a machine, as they are gathered: those whose places are below one.
use Rattle.std.specs.Prelude.{◌≡◌, ℕ, ◌+◌, ◌*◌, ◌<◌, Bool, List, Some, slice_get}
use Rattle.std.specs.List.{Contains}
use Rattle.page_words.specs.FiniteMap as map
use Rattle.page_sharing.specs.Offers.{Offers, OfferKey, offer_key}
use Rattle.wide_image.specs.declared.offers.PendingOffer.{PendingOffer}
use Rattle.wide_image.specs.Offers.{rank, rank_of, IsPending, Rise, pending_as}

-- the place of an offerer's offers from a number on
abbrev pub place_of : ℕ → ℕ → ℕ
place_of offerer number = 67108864 * offerer + number

-- each pending offer's numbers are within their limits
abbrev pub AreValid : Offers → Type 0
AreValid offers = (key : OfferKey) (write : Bool) → map.get offers key ≡ Some write → IsPending (pending_as key write)

-- the list has the pending offers whose places are below this one, in order
pub record ListedBelow (offers : Offers) (place : ℕ) (list : List PendingOffer) : Type 0 where
  pub rise : Rise 0 list
  pub below : (i : ℕ) (o : PendingOffer) → slice_get list i ≡ Some o → rank_of o < place
  pub pending : (i : ℕ) (o : PendingOffer) → slice_get list i ≡ Some o → IsPending o
  pub there : (i : ℕ) (o : PendingOffer) → slice_get list i ≡ Some o → map.get offers (offer_key o.offerer o.page o.target) ≡ Some o.write
  pub all : (key : OfferKey) (write : Bool) → map.get offers key ≡ Some write → rank key.offerer key.page key.target < place → Contains list (pending_as key write)
