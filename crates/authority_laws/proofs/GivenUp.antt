-- Pending offers stay, or end by somebody's event.
use Rattle.authority_laws.proofs.Prelude.{◌∙◌, ap, cond, None, false, ◌≡◌, Bool, true, refl, Some, arith, inl, inr, ◌⊎◌, get-insert, get-retain_keys, same_cases, same-true, at_page, OfferKey, offer_order, offer_key, State, may_offer, Settles, IsLeave, OffersStay, answer_of, after, completes, Call, Event, eqb-true, by_next, not-refused}
use Rattle.page_words.specs.FiniteMap as map
use Rattle.kernel_calls.specs.declared.calls.Call.TheVariants as call

abbrev Stays : State → State → Event → OfferKey → Bool → Type 0
Stays s t e key right = (map.get t.offers key ≡ Some right)
    ⊎ (Settles e key ⊎ (IsLeave e (at_page key.offerer key.page) ⊎ ((key.target ≡ e.pid) × (e.call ≡ call.Exit))))

module _ (s : State) (e : Event) (key : OfferKey) (right : Bool) (at : map.get s.offers key ≡ Some right) where
  -- where offers are kept by their keys, it is kept, or its key goes
  kept_or : (stay : OfferKey → Bool) → (map.get (map.retain_keys s.offers stay) key ≡ Some right) ⊎ (stay key ≡ false)
  kept_or stay = by (stay key) refl
    where
      by : (b : Bool) → stay key ≡ b → (map.get (map.retain_keys s.offers stay) key ≡ Some right) ⊎ (b ≡ false)
      by false h = inr refl
      by true h = inl (get-retain_keys s.offers stay key ∙ ap (λ b. cond b (map.get s.offers key) None) h ∙ at)

  after_stays : (c : Call) → e.call ≡ c → completes (answer_of s e.pid c) ≡ true → Stays s (after s e.pid c) e key right
  after_stays (call.Offer page target write) is h = elim (same_cases offer_order key (offer_key e.pid page target)) [
    | inl new ↦ grind (arith, may_offer, not-refused)
    | inr other ↦ grind (arith, get-insert)
  ]
  after_stays _ is h = grind (arith, kept_or, same-true, eqb-true)

pub offers_stay : OffersStay
offers_stay s e key right at = by_next (λ t. Stays s t e key right) s e (inl at)
    (λ live h. after_stays s e key right at e.call refl h)
