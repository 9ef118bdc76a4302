-- Offers that are made one after the other.
use Rattle.std.proofs.Common.{◌≡◌, ◌≢◌, ℕ, ◌+◌, ◌<◌, Bool, true, false, cond, List, [], ◌∷◌, ◌++◌, map, length, take, get_or, refl, sym, ap, subst, ◌∙◌, arith, inl, inr, Option, Some, None, is_some}
use Rattle.std.specs.Prelude.{if◌then◌else◌}
use Rattle.std.specs.List.{Contains}
use Rattle.std.specs.Option.{unwrap_or}
use Rattle.std.proofs.lemmas.List.{take_more, map-append}
use Rattle.std.proofs.lemmas.List.Elements.{Contains-push, Contains-push_cases, Contains-append_left}
use Rattle.page_words.specs.FiniteMap as finite_map
use Rattle.page_words.specs.FiniteMap.{same}
use Rattle.page_words.proofs.MapLemmas.{get-insert}
use Rattle.page_words.proofs.SetLemmas.{same_cases}
use Rattle.page_sharing.specs.Offers.{Offers, OfferKey, offer_key, offer_order}
use Rattle.process_table.specs.State.{State, is_live}
use Rattle.process_table.specs.Calls.{offer_refusal}
use Rattle.process_table.specs.declared.causes.Cause.{Cause}
use Rattle.process_table.specs.declared.causes.Cause.TheVariants as cause
use Rattle.process_table.proofs.Refusals.{may_offer}
use Rattle.kernel_calls.specs.Machine.{answer, next, end_of, after, completes, refused_or}
use Rattle.kernel_calls.specs.declared.calls.Call.TheVariants as call
use Rattle.kernel_calls.specs.declared.calls.Event.{Event}
use Rattle.kernel_calls.specs.declared.calls.Reply.{Reply}
use Rattle.kernel_calls.specs.declared.calls.Reply.TheVariants as reply
use Rattle.memory_image.specs.Sound.{StandsFor}
use Rattle.wide_image.specs.declared.offers.PendingOffer.{PendingOffer}
use Rattle.wide_image.specs.Offers.{AreListed, pending_as}
use Rattle.image_restore.specs.Resumed.{offer_event, is_done, after_offers, KeepsWhatStands}

pub done_is : (r : Reply) → is_done r ≡ true → r ≡ reply.Done
done_is reply.Done h = refl
done_is (reply.Value v) h = cc
done_is (reply.Child p) h = cc
done_is (reply.Info w m a d n) h = cc
done_is (reply.Quota q u g) h = cc
done_is (reply.Fault a c) h = cc
done_is (reply.Refused c) h = cc

pub not_done : (r : Reply) → is_done r ≡ false → r ≢ reply.Done
not_done r h e = let k : false ≡ true = sym h ∙ ap is_done e in cc

abbrev pub key_of : PendingOffer → OfferKey
key_of o = offer_key o.offerer o.page o.target

record IsMade (s : State) (o : PendingOffer) : Type 0 where
  state : next s (offer_event o) ≡ record s { offers = finite_map.insert s.offers (key_of o) o.write }
  new : finite_map.contains_key s.offers (key_of o) ≡ false

offer_done : (s : State) (o : PendingOffer) → answer s (offer_event o) ≡ reply.Done → IsMade s o
offer_done s o h = record {
  state = ap (λ r. if completes r then after s o.offerer (call.Offer o.page o.target o.write) else s) h;
  new = (may_offer s o.offerer o.page o.target o.write (by (is_live s o.offerer) (offer_refusal s o.offerer o.page o.target o.write) h)).new;
}
  where
    by : (b : Bool) (x : Option Cause) → (if b then refused_or x reply.Done else reply.Refused cause.NoProcess) ≡ reply.Done → x ≡ None
    by true None h = refl
    by true (Some c) h = cc
    by false x h = cc

-- a list with one offer more
listed_more : (offers : Offers) (xs : List PendingOffer) (o : PendingOffer) → AreListed offers xs → finite_map.contains_key offers (key_of o) ≡ false
    → AreListed (finite_map.insert offers (key_of o) o.write) (xs ++ o ∷ [])
listed_more offers xs o listed new key write = (there, back)
  where
    there : finite_map.get (finite_map.insert offers (key_of o) o.write) key ≡ Some write → Contains (xs ++ o ∷ []) (pending_as key write)
    there h = elim (same_cases offer_order key (key_of o)) [
      | inl is ↦
          let e : ◌≡◌ {A = Option Bool} (Some o.write) (Some write) = sym (get-insert offers (key_of o) o.write key ∙ ap (λ b. cond b (Some o.write) (finite_map.get offers key)) is.1) ∙ h in
          let w : o.write ≡ write = ap (λ x. unwrap_or x o.write) e in
          subst (Contains (xs ++ o ∷ [])) (λ i. pending_as (sym is.0 i) (w i)) (Contains-push xs o)
      | inr other ↦ Contains-append_left xs (o ∷ []) (pending_as key write) ((listed key write).0 (sym (get-insert offers (key_of o) o.write key ∙ ap (λ b. cond b (Some o.write) (finite_map.get offers key)) other.1) ∙ h))
    ]

    back : Contains (xs ++ o ∷ []) (pending_as key write) → finite_map.get (finite_map.insert offers (key_of o) o.write) key ≡ Some write
    back h = elim (Contains-push_cases xs o (pending_as key write) h) [
      | inl old ↦
          let g = (listed key write).1 old in
          elim (same_cases offer_order key (key_of o)) [
            | inl is ↦ absurd (let a : finite_map.contains_key offers (key_of o) ≡ true = ap (λ k. finite_map.contains_key offers k) (sym is.0) ∙ ap is_some g in let b : true ≡ false = sym a ∙ new in cc)
            | inr other ↦ get-insert offers (key_of o) o.write key ∙ ap (λ b. cond b (Some o.write) (finite_map.get offers key)) other.1 ∙ g
          ]
      | inr e ↦
          let k : key ≡ key_of o = ap (λ (p : PendingOffer). offer_key p.offerer p.page p.target) (sym e) in
          elim (same_cases offer_order key (key_of o)) [
            | inl is ↦ get-insert offers (key_of o) o.write key ∙ ap (λ b. cond b (Some o.write) (finite_map.get offers key)) is.1 ∙ ap (λ (p : PendingOffer). Some p.write) e
            | inr other ↦ absurd (other.0 k)
          ]
    ]

-- what is known once the first offers are made
pub record AreMade (s t : State) (offers : List PendingOffer) : Type 0 where
  pub reached : t ≡ after_offers s offers
  pub same : t ≡ record s { offers = t.offers }
  pub listed : AreListed t.offers offers

pub none_made : (s : State) → s.offers ≡ finite_map.empty → AreMade s s []
none_made s none = record {
  reached = refl;
  same = refl;
  listed = λ key write. (λ h. let k : ◌≡◌ {A = Option Bool} None (Some write) = ap (λ (m : Offers). finite_map.get m key) (sym none) ∙ h in cc, λ h. let l = h.1 in absurd (omega arith));
}

end_push : (s : State) (events : List Event) (e : Event) → end_of s (events ++ e ∷ []) ≡ next (end_of s events) e
end_push s [] e = refl
end_push s (x ∷ events) e = end_push (next s x) events e

pub one_made : (s t u : State) (offers : List PendingOffer) (place : ℕ) (o : PendingOffer) (r : Reply) → AreMade s t (take place offers) → place < length offers → o ≡ get_or offers place o
    → r ≡ answer t (offer_event o) → u ≡ next t (offer_event o) → is_done r ≡ true → AreMade s u (take (place + 1) offers)
one_made s t u offers place o r M low is answered state done =
    let d = offer_done t o (sym answered ∙ done_is r done) in
    let next-is : u ≡ record t { offers = finite_map.insert t.offers (key_of o) o.write } = state ∙ d.state in
    let more : take place offers ++ o ∷ [] ≡ take (place + 1) offers = ap (λ x. take place offers ++ x ∷ []) is ∙ sym (take_more offers place o low) in
    subst (AreMade s u) more (record {
      reached = state ∙ ap (λ (t : State). next t (offer_event o)) M.reached ∙ sym (end_push s (map offer_event (take place offers)) (offer_event o)) ∙ ap (end_of s) (sym (map-append offer_event (take place offers) (o ∷ [])));
      same = next-is ∙ (λ i. record { spaces = (M.same i).spaces; book = (M.same i).book; offers = (sym next-is i).offers });
      listed = subst (λ (m : Offers). AreListed m (take place offers ++ o ∷ [])) (ap (λ (s : State). s.offers) (sym next-is)) (listed_more t.offers (take place offers) o M.listed d.new);
    })

-- all of them
pub all_made : (s t : State) (offers : List PendingOffer) → AreMade s t offers → KeepsWhatStands s t
all_made s t offers M image F = subst (StandsFor image) (sym M.same) (record { sound = F.sound; memory = F.memory; accounts = F.accounts })
