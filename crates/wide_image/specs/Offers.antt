-- The offers in a snapshot: by offerer, then by page, then by target.
use Rattle.std.specs.Prelude.{◌≡◌, ℕ, ◌+◌, ◌*◌, ◌<◌, ◌≤◌, ◌↔◌, Bool, if◌then◌else◌, List, [], ◌∷◌, ◌++◌, Some}
use Rattle.std.specs.List.{Contains}
use Rattle.page_words.specs.FiniteMap as map
use Rattle.page_sharing.specs.Offers.{Offers, OfferKey, offer_number}
use Rattle.memory_image.specs.Spelling.{number}
use Rattle.wide_image.specs.declared.offers.PendingOffer.{PendingOffer}

-- the place of an offer among all that there can be
abbrev pub rank : ℕ → ℕ → ℕ → ℕ
rank offerer page target = 67108864 * offerer + offer_number page target

-- the place of this one
abbrev pub rank_of : PendingOffer → ℕ
rank_of o = rank o.offerer o.page o.target

-- an offer's numbers are within their limits
pub record IsPending (o : PendingOffer) : Type 0 where
  pub offerer : o.offerer < 64
  pub page : o.page < 983040
  pub target : o.target < 64

-- offers whose places rise, from this one on
abbrev pub Rise : ℕ → List PendingOffer → Type 0
Rise from [] = Unit {0}
Rise from (o ∷ os) = (from ≤ rank_of o) × Rise (rank_of o + 1) os

-- the right to write as a number
abbrev pub right_number : Bool → ℕ
right_number write = if write then 1 else 0

-- offerer, page, target, right
abbrev pub offer_bytes : PendingOffer → List ℕ
offer_bytes o = number o.offerer ++ number o.page ++ number o.target ++ number (right_number o.write)

-- the offer of a key with this right
abbrev pub pending_as : OfferKey → Bool → PendingOffer
pending_as key write = record { offerer = key.offerer; page = key.page; target = key.target; write = write }

-- the list has the pending offers, and no others
abbrev pub AreListed : Offers → List PendingOffer → Type 0
AreListed offers list = (key : OfferKey) (write : Bool) → (map.get offers key ≡ Some write) ↔ Contains list (pending_as key write)
