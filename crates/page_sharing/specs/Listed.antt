-- The lists of offers, one for each process, as a finite map, and what they keep.
use Rattle.std.specs.Prelude.{◌≡◌, ℕ, ◌+◌, ◌<◌, ◌≤◌, ◌==◌, ◌&&◌, Bool, List, [], ◌∷◌, Option, None, Some, find, length, sum_by, slice_index_or, slice_set}
use Rattle.std.specs.List.{All, Contains}
use Rattle.arrayvec.specs.ArrayVec.{ArrayVec}
use Rattle.page_words.specs.FiniteMap as map
use Rattle.page_sharing.specs.declared.Offer.{Offer}
use Rattle.page_sharing.specs.Offers.{Offers, offer_key, offer_number}

-- whether an offer is of that page to that target
abbrev pub is_of : ℕ → ℕ → Offer → Bool
is_of page target offer = (offer.page == page) && (offer.target == target)

-- the offers by a process
abbrev pub offers_by : List (ArrayVec Offer) → ℕ → List Offer
offers_by lists p = (slice_index_or lists p (record { items = [] })).items

-- the lists, where those by a process are these
abbrev pub with_list : List (ArrayVec Offer) → ℕ → List Offer → List (ArrayVec Offer)
with_list lists p offers = slice_set lists p (record { items = offers })

-- how many offers all lists have
abbrev pub all_pending : List (ArrayVec Offer) → ℕ
all_pending lists = sum_by (λ list. length list.items) lists

-- the offers of a process, added to others
abbrev pub with_offers : ℕ → List Offer → Offers → Offers
with_offers p [] others = others
with_offers p (offer ∷ offers) others = map.insert (with_offers p offers others) (offer_key p offer.page offer.target) offer.write

-- those of lists of which the first is that of process p
abbrev pub offers_from : ℕ → List (ArrayVec Offer) → Offers
offers_from p [] = map.empty
offers_from p (list ∷ lists) = with_offers p list.items (offers_from (p + 1) lists)

-- the offers in the lists of all processes
unfoldable pub offers_in : List (ArrayVec Offer) → Offers
offers_in lists = offers_from 0 lists

-- no two are of one page to one target
abbrev pub IsDistinct : List Offer → Type 0
IsDistinct [] = Unit {0}
IsDistinct (offer ∷ offers) = (find (is_of offer.page offer.target) offers ≡ None) × IsDistinct offers

-- lists that hold each offer once
pub record IsOffers (lists : List (ArrayVec Offer)) : Type 0 where
  pub places : length lists ≡ 64
  pub distinct : (p : ℕ) → IsDistinct (offers_by lists p)
  -- no process offers more
  pub few : (p : ℕ) → length (offers_by lists p) ≤ 32

-- the lists keep their bounds, and the count is that of their offers
pub record IsCounted (lists : List (ArrayVec Offer)) (count : ℕ) : Type 0 where
  pub bounds : IsOffers lists
  pub counted : count ≡ all_pending lists

-- the place of an offer in a list
abbrev pub number_in : Offer → ℕ
number_in offer = offer_number offer.page offer.target

-- the first offer of a list whose place is this one or a later one
abbrev pub IsFirstFrom : ℕ → List Offer → Option Offer → Type 0
IsFirstFrom from offers None = All (λ (o : Offer). number_in o < from) offers
IsFirstFrom from offers (Some first) = Contains offers first × (from ≤ number_in first)
    × All (λ (o : Offer). from ≤ number_in o → number_in first ≤ number_in o) offers
