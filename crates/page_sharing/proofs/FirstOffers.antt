-- The first offer of a list from a place on: what one offer more leaves of it, and what it is in the map of offers.
use Rattle.std.proofs.Common.{◌≡◌, ◌≢◌, ℕ, ◌<◌, ◌≤◌, Bool, true, false, ◌&&◌, cond, List, [], ◌∷◌, ◌++◌, length, zero}
use Rattle.std.proofs.Common.{suc, refl, ap, ◌∙◌, is_some, Option, Some, None, IfSome, IfNone, arith}
use Rattle.std.specs.Prelude.{find, slice_index_or}
use Rattle.std.proofs.lemmas.Bool.{eq-eqb}
use Rattle.std.specs.List.{All, Contains}
use Rattle.std.specs.Option.{option_map}
use Rattle.std.proofs.lemmas.List.Elements.{All-push, All-weaker, All-head, All-tail, Contains-push, Contains-append_left}
use Rattle.page_sharing.specs.declared.Offer.{Offer}
use Rattle.page_words.specs.FiniteMap as map
use Rattle.page_sharing.specs.Offers.{Offers, offer_key, offer_number}
use Rattle.page_sharing.specs.Listed.{is_of, number_in, IsFirstFrom, IsDistinct}
use Rattle.page_sharing.proofs.ListSteps.{right_in, of_one}

module _ (from : ℕ) (offers : List Offer) (offer : Offer) where
  -- one that is before the place
  pub passes : (first : Option Offer) → number_in offer < from → IsFirstFrom from offers first → IsFirstFrom from (offers ++ offer ∷ []) first
  passes None before none = All-push (λ o. number_in o < from) offers offer none before
  passes (Some f) before (at, later, least) =
      (Contains-append_left offers (offer ∷ []) f at, later, All-push (λ o. from ≤ number_in o → number_in f ≤ number_in o) offers offer least (λ h. absurd (omega arith)))

  pub first_of_all : from ≤ number_in offer → IsFirstFrom from offers None → IsFirstFrom from (offers ++ offer ∷ []) (Some offer)
  first_of_all later none = (
    Contains-push offers offer,
    later,
    All-push (λ o. from ≤ number_in o → number_in offer ≤ number_in o) offers offer
        (All-weaker (λ o. number_in o < from) (λ o. from ≤ number_in o → number_in offer ≤ number_in o) (λ o h k. absurd (omega arith)) offers none) (λ _. omega arith),
  )

  pub comes_earlier : (f : Offer) → from ≤ number_in offer → number_in offer < number_in f → IsFirstFrom from offers (Some f) → IsFirstFrom from (offers ++ offer ∷ []) (Some offer)
  comes_earlier f later before (at, _, least) = (
    Contains-push offers offer,
    later,
    All-push (λ o. from ≤ number_in o → number_in offer ≤ number_in o) offers offer
        (All-weaker (λ o. from ≤ number_in o → number_in f ≤ number_in o) (λ o. from ≤ number_in o → number_in offer ≤ number_in o) (λ o h k. (let n = h k in omega arith)) offers least) (λ _. omega arith),
  )

  pub comes_later : (f : Offer) → number_in f ≤ number_in offer → IsFirstFrom from offers (Some f) → IsFirstFrom from (offers ++ offer ∷ []) (Some f)
  comes_later f behind (at, later, least) =
      (Contains-append_left offers (offer ∷ []) f at, later, All-push (λ o. from ≤ number_in o → number_in f ≤ number_in o) offers offer least (λ _. behind))

-- ---- As the map has it

-- what is found is one of the list, of that page to that target
found_one : (offers : List Offer) (page target : ℕ) (P : Offer → Type 0) → All P offers → is_some (find (is_of page target) offers) ≡ true
    → (o : Offer) × P o × (o.page ≡ page) × (o.target ≡ target)
found_one [] page target P all some = cc
found_one (o ∷ offers) page target P all some = by (is_of page target o) refl (found_one offers page target P (All-tail P o offers all)) some
  where
    by : (b : Bool) → is_of page target o ≡ b → (is_some (find (is_of page target) offers) ≡ true → (o : Offer) × P o × (o.page ≡ page) × (o.target ≡ target))
        → is_some (cond b (Some o) (find (is_of page target) offers)) ≡ true → (o : Offer) × P o × (o.page ≡ page) × (o.target ≡ target)
    by true is _ _ = let e = of_one page target o is in (o, All-head P o offers all, e.0, e.1)
    by false _ rest some = rest some

-- where none of a list has a place, the map has no offer there
pub none_there : (offers : List Offer) (page target : ℕ) → All (λ o. number_in o ≢ offer_number page target) offers → is_some (right_in offers page target) ≡ false
none_there offers page target all = by (find (is_of page target) offers) refl
  where
    by : (x : Option Offer) → find (is_of page target) offers ≡ x → is_some (option_map (λ (o : Offer). o.write) x) ≡ false
    by None _ = refl
    by (Some x) e =
        let found = found_one offers page target (λ o. number_in o ≢ offer_number page target) all (ap is_some e) in
        absurd (found.1 (λ i. offer_number (found.2 i) (found.3 i)))

of_itself : (o x : Offer) → x ≡ o → is_of o.page o.target x ≡ true
of_itself o x e = ap (is_of o.page o.target) e ∙ (λ i. eq-eqb o.page o.page refl i && eq-eqb o.target o.target refl i)

-- an offer of a list without doubles is the one that is found
found_itself : (offers : List Offer) (o : Offer) (k : ℕ) → IsDistinct offers → k < length offers → slice_index_or offers k o ≡ o → find (is_of o.page o.target) offers ≡ Some o
found_itself [] o k distinct below is = absurd (omega arith)
found_itself (x ∷ offers) o zero (none, distinct) below is = ap (λ b. cond b (Some x) (find (is_of o.page o.target) offers)) (of_itself o x is) ∙ ap Some is
found_itself (x ∷ offers) o (suc k) (none, distinct) below is = by (is_of o.page o.target x) refl (found_itself offers o k distinct (omega arith) is)
  where
    by : (b : Bool) → is_of o.page o.target x ≡ b → find (is_of o.page o.target) offers ≡ Some o → cond b (Some x) (find (is_of o.page o.target) offers) ≡ Some o
    by h one rest = grind (arith, of_one)

pub right_itself : (offers : List Offer) (o : Offer) → IsDistinct offers → Contains offers o → right_in offers o.page o.target ≡ Some o.write
right_itself offers o distinct has = ap (option_map (λ (x : Offer). x.write)) (found_itself offers o has.0 distinct has.1 has.2)

module _ (m : Offers) (giver : ℕ) (offers : List Offer) (is : (p t : ℕ) → map.get m (offer_key giver p t) ≡ right_in offers p t) (from : ℕ) where
  pub first_pending : (x : Option Offer) → IsDistinct offers → IsFirstFrom from offers x → IfSome x (λ (o : Offer). map.get m (offer_key giver o.page o.target) ≡ Some o.write)
  first_pending None distinct h = tt
  first_pending (Some o) distinct (has, _, _) = is o.page o.target ∙ right_itself offers o distinct has

  pub first_later : (x : Option Offer) → IsFirstFrom from offers x → IfSome x (λ (o : Offer). from ≤ number_in o)
  first_later x h = grind arith

  pub first_least : (x : Option Offer) → IsFirstFrom from offers x
      → IfSome x (λ (o : Offer). (p t : ℕ) → from ≤ offer_number p t → offer_number p t < number_in o → map.contains_key m (offer_key giver p t) ≡ false)
  first_least None h = tt
  first_least (Some o) (_, _, least) = grind (arith, none_there)

  pub first_none : (x : Option Offer) → IsFirstFrom from offers x → IfNone x ((p t : ℕ) → from ≤ offer_number p t → map.contains_key m (offer_key giver p t) ≡ false)
  first_none (Some o) h = tt
  first_none None none = grind (arith, none_there)
