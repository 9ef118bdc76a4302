-- The pending offers: a finite map from who offers which page to whom, to the right that goes with it.
use Rattle.std.proofs.Common.{◌≡◌, ℕ, ◌+◌, ◌*◌, Bool, ◌&&◌, ◌||◌, not, ◌==◌, nat_le, if◌then◌else◌, refl}
use Rattle.std.specs.Prelude.{Result, Ok, Err}
use Rattle.std.specs.declared.cmp.Ordering.{Ordering}
use Rattle.std.specs.declared.cmp.Ordering.TheVariants.{Less, Equal, Greater}
use Rattle.std.specs.Ordering.{nat_cmp, then_cmp, on, ordering_then}
use Rattle.std.specs.Cmp.{IsTotalOrder, nat_cmp_total, on_total, then_total}
use Rattle.std.specs.FinMap.{IsAntisymmetric, nat_cmp-IsAntisymmetric}
use Rattle.std.specs.Coded.{Coded, code_by, coded×, coded_ℕ, coded_bool}
use Rattle.page_words.specs.FiniteMap as map
use Rattle.page_words.specs.FiniteMap.{Order, Map}
use Rattle.page_words.specs.Codes.{map_code}
use Rattle.page_sharing.specs.declared.OfferFault.{OfferFault}
use Rattle.page_sharing.specs.declared.OfferFault.TheVariants.{OfferPending, TooManyOffers}

-- what names an offer
pub record OfferKey : Type 0 where
  pub offerer : ℕ
  pub page : ℕ
  pub target : ℕ

-- the offer of a page by a process to another
abbrev pub offer_key : ℕ → ℕ → ℕ → OfferKey
offer_key offerer page target = record { offerer = offerer; page = page; target = target }

-- the place of an offer among those of its offerer, which come by page and then by target
abbrev pub offer_number : ℕ → ℕ → ℕ
offer_number page target = 64 * page + target

-- by offerer, then by page, then by target
abbrev pub offer_cmp : OfferKey → OfferKey → Ordering
offer_cmp = then_cmp (on (λ k. k.offerer) nat_cmp) (then_cmp (on (λ k. k.page) nat_cmp) (on (λ k. k.target) nat_cmp))

both_equal : (a b : Ordering) → ordering_then a b ≡ Equal → (a ≡ Equal) × (b ≡ Equal)
both_equal Less b e = cc
both_equal Equal b e = (refl, e)
both_equal Greater b e = cc

pub offer_same : IsAntisymmetric offer_cmp
offer_same x y e =
    let ps = both_equal (nat_cmp x.offerer y.offerer) _ e in
    let qs = both_equal (nat_cmp x.page y.page) _ ps.1 in
    let p = nat_cmp-IsAntisymmetric _ _ ps.0 in
    let q = nat_cmp-IsAntisymmetric _ _ qs.0 in
    let r = nat_cmp-IsAntisymmetric _ _ qs.1 in
    λ i. record { offerer = p i; page = q i; target = r i }

pub offer_total : IsTotalOrder offer_cmp
offer_total = then_total (on_total (λ k. k.offerer) nat_cmp_total) (then_total (on_total (λ k. k.page) nat_cmp_total) (on_total (λ k. k.target) nat_cmp_total))

-- the order of offers: by offerer, page and target
abbrev pub offer_order : Order OfferKey
offer_order = record { cmp = offer_cmp; total = offer_total; same = offer_same }

-- for each pending offer, whether it gives the right to write
abbrev pub Offers : Type 0
Offers = Map offer_order Bool

-- the code of an offer's key
abbrev pub offer_code : Coded OfferKey
offer_code = code_by (ℕ × (ℕ × ℕ)) (coded× coded_ℕ (coded× coded_ℕ coded_ℕ)) (λ k. (k.offerer, (k.page, k.target))) (λ p. record { offerer = p.0; page = p.1.0; target = p.1.1 }) (λ _. refl)

-- the code of offers
abbrev pub offers_code : Coded Offers
offers_code = map_code offer_code coded_bool

-- the offers that an offerer has pending
abbrev pub pending : Offers → ℕ → Offers
pending offers p = map.retain_keys offers (λ key. key.offerer == p)

-- an answer where the offerer has its most offers pending or not
abbrev pub limited : Bool → Result (Unit {0}) OfferFault
limited is_full = if is_full then Err TooManyOffers else Ok tt

-- an answer where the offer is pending or not
abbrev pub unless_pending : Bool → Bool → Result (Unit {0}) OfferFault
unless_pending is_pending is_full = if is_pending then Err OfferPending else limited is_full

-- whether an offer may be made, and else the first reason against it
abbrev pub offer_answer : Offers → OfferKey → Result (Unit {0}) OfferFault
offer_answer offers key = unless_pending (map.contains_key offers key) (nat_le 32 (map.len (pending offers key.offerer)))

-- without the offers of a page
abbrev pub without_page : Offers → ℕ → ℕ → Offers
without_page offers p page = map.retain_keys offers (λ key. not ((key.offerer == p) && (key.page == page)))

-- without the offers by a process and those to it
abbrev pub without_process : Offers → ℕ → Offers
without_process offers p = map.retain_keys offers (λ key. not ((key.offerer == p) || (key.target == p)))
