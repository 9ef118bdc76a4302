-- A process's pending offers, in numbers.
use Rattle.std.specs.Prelude.{◌≡◌, ◌≤◌, ◌<◌, ℕ, false, Option, Some, None}
use Rattle.page_words.specs.FiniteMap as map
use Rattle.page_sharing.specs.Offers.{offer_key, offer_number}
use Rattle.page_sharing.specs.declared.Offer.{Offer}
use Rattle.process_table.specs.State.{State}
use Rattle.tower_c.specs.declared.pending.TowerOffer.{TowerOffer}

-- an offer, as numbers
abbrev pub offer_numbers : Offer → TowerOffer
offer_numbers offer = record { page = offer.page; target = offer.target; write = offer.write }

-- the first pending offer of a process from a page and a target on
pub record IsNextOffer (s : State) (p page target : ℕ) (offer : TowerOffer) : Type 0 where
  pub pending : map.get s.offers (offer_key p offer.page offer.target) ≡ Some offer.write
  pub from : offer_number page target ≤ offer_number offer.page offer.target
  pub least : (n t : ℕ) → offer_number page target ≤ offer_number n t → offer_number n t < offer_number offer.page offer.target
      → map.contains_key s.offers (offer_key p n t) ≡ false

-- of the process with that number
abbrev pub IsNextOfferIn : State → Option ℕ → ℕ → ℕ → TowerOffer → Type 0
IsNextOfferIn s (Some p) page target offer = IsNextOffer s p page target offer
IsNextOfferIn s None page target offer = ⊥

-- none is pending from there on
abbrev pub HasNoOffer : State → Option ℕ → ℕ → ℕ → Type 0
HasNoOffer s (Some p) page target = (n t : ℕ) → offer_number page target ≤ offer_number n t → map.contains_key s.offers (offer_key p n t) ≡ false
HasNoOffer s None page target = Unit {0}
