-- Offers that are gathered one after the other.
use Rattle.std.proofs.Common.{◌≡◌, ℕ, zero, suc, ◌+◌, ◌<◌, ◌≤◌, Bool, true, false, List, [], ◌∷◌, ◌++◌, refl, sym, ap, subst, ◌∙◌, arith, inl, inr, Option, Some, None, is_some}
use Rattle.std.specs.Prelude.{slice_get, IsTrue}
use Rattle.std.specs.List.{Contains}
use Rattle.std.specs.Option.{unwrap_or}
use Rattle.std.proofs.lemmas.Bool.{cases_lt}
use Rattle.std.proofs.lemmas.List.Elements.{Contains-push, Contains-append_left}
use Rattle.std.proofs.lemmas.Option.{slice_get-get_or}
use Rattle.page_words.specs.FiniteMap as map
use Rattle.page_sharing.specs.Offers.{Offers, OfferKey, offer_key, offer_number}
use Rattle.quota_tree.specs.Book.{Member}
use Rattle.process_table.specs.State.{State, is_live}
use Rattle.process_table.specs.WellFormed.{IsWellFormed}
use Rattle.address_space.specs.Spaces.{at_page}
use Rattle.wide_image.specs.declared.offers.PendingOffer.{PendingOffer}
use Rattle.wide_image.specs.Offers.{rank, rank_of, IsPending, Rise, AreListed, pending_as}
use Rattle.wide_image.specs.Wide.{AreOffers}
use Rattle.wide_image.specs.Gathered.{place_of, AreValid, ListedBelow}
use Rattle.wide_image.proofs.Records.{each_both}

rise_push : (from : ℕ) (xs : List PendingOffer) (o : PendingOffer) → Rise from xs → from ≤ rank_of o → ((i : ℕ) (x : PendingOffer) → slice_get xs i ≡ Some x → rank_of x < rank_of o) → Rise from (xs ++ o ∷ [])
rise_push from [] o rise low below = (low, tt)
rise_push from (x ∷ xs) o rise low below = let b = below 0 x refl in (rise.0, rise_push (rank_of x + 1) xs o rise.1 (omega arith) (λ i y h. below (suc i) y h))

each_one : {X : Type 0} (P : X → Type 0) (o : X) → P o → (i : ℕ) (x : X) → slice_get (o ∷ []) i ≡ Some x → P x
each_one P o p zero x h = let e : o ≡ x = ap (λ (y : Option _). unwrap_or y o) h in subst P e p
each_one P o p (suc i) x h = cc

abbrev pub key_at : PendingOffer → OfferKey
key_at o = offer_key o.offerer o.page o.target

-- offers with one place are one
same_rank : (key other : OfferKey) (a b : Bool) → IsPending (pending_as key a) → IsPending (pending_as other b) → rank key.offerer key.page key.target ≡ rank other.offerer other.page other.target → key ≡ other
same_rank key other a b K L h =
    let k0 = K.offerer in let k1 = K.page in let k2 = K.target in
    let l0 = L.offerer in let l1 = L.page in let l2 = L.target in
    let o : key.offerer ≡ other.offerer = omega arith in
    let t : key.target ≡ other.target = omega arith in
    let p : key.page ≡ other.page = omega arith in
    λ i. record { offerer = o i; page = p i; target = t i }

-- a place between two of one offerer is that offerer's
own_offer : (key : OfferKey) (a : Bool) (pid n : ℕ) → IsPending (pending_as key a) → place_of pid n ≤ rank key.offerer key.page key.target → rank key.offerer key.page key.target < place_of (pid + 1) 0
    → (key.offerer ≡ pid) × (n ≤ offer_number key.page key.target)
own_offer key a pid n K low high =
    let k1 = K.page in let k2 = K.target in
    let o : key.offerer ≡ pid = omega arith in
    (o, omega arith)

module _ (offers : Offers) (valid : AreValid offers) (pid number : ℕ) (xs : List PendingOffer) (L : ListedBelow offers (place_of pid number) xs) where
  -- the next one
  pub gathered : (o : PendingOffer) → o.offerer ≡ pid → map.get offers (key_at o) ≡ Some o.write → number ≤ offer_number o.page o.target
      → ((p t : ℕ) → number ≤ offer_number p t → offer_number p t < offer_number o.page o.target → map.contains_key offers (offer_key pid p t) ≡ false)
      → ListedBelow offers (place_of pid (offer_number o.page o.target + 1)) (xs ++ o ∷ [])
  gathered o is got low least =
      let K : IsPending o = valid (key_at o) o.write got in
      record {
        rise = rise_push 0 xs o L.rise (omega arith) (λ i x h. let b = L.below i x h in omega arith);
        below = each_both (λ x. rank_of x < place_of pid (offer_number o.page o.target + 1)) xs (o ∷ []) (λ i x h. let b = L.below i x h in omega arith) (each_one (λ x. rank_of x < place_of pid (offer_number o.page o.target + 1)) o (omega arith));
        pending = each_both IsPending xs (o ∷ []) L.pending (each_one IsPending o K);
        there = each_both (λ x. map.get offers (key_at x) ≡ Some x.write) xs (o ∷ []) L.there (each_one (λ x. map.get offers (key_at x) ≡ Some x.write) o got);
        all = every;
      }
    where
      every : (key : OfferKey) (write : Bool) → map.get offers key ≡ Some write → rank key.offerer key.page key.target < place_of pid (offer_number o.page o.target + 1) → Contains (xs ++ o ∷ []) (pending_as key write)
      every key write h below =
          let J : IsPending (pending_as key write) = valid key write h in
          let K : IsPending o = valid (key_at o) o.write got in
          let k1 = K.page in let k2 = K.target in
          elim (cases_lt (rank key.offerer key.page key.target) (place_of pid number)) [
            | inl old ↦ Contains-append_left xs (o ∷ []) (pending_as key write) (L.all key write h old)
            | inr late ↦
                let own = own_offer key write pid number J late (omega arith) in
                elim (cases_lt (offer_number key.page key.target) (offer_number o.page o.target)) [
                  | inl less ↦ absurd (let n = least key.page key.target own.1 less in let y : map.contains_key offers key ≡ true = ap is_some h in let z : map.contains_key offers key ≡ false = ap (λ q. map.contains_key offers (offer_key q key.page key.target)) own.0 ∙ n in let e : true ≡ false = sym y ∙ z in cc)
                  | inr more ↦
                      let own-is = own.0 in
                      let e : key ≡ key_at o = same_rank key (key_at o) write o.write J K (omega arith) in
                      let w : write ≡ o.write = ap (λ x. unwrap_or x write) (sym h ∙ ap (map.get offers) e ∙ got) in
                      subst (Contains (xs ++ o ∷ [])) (λ i. pending_as (sym e i) (sym w i)) (Contains-push xs o)
                ]
          ]

  -- no other of this offerer
  pub all_gathered : ((p t : ℕ) → number ≤ offer_number p t → map.contains_key offers (offer_key pid p t) ≡ false) → number ≤ 67108864 → ListedBelow offers (place_of (pid + 1) 0) xs
  all_gathered none most = record {
    rise = L.rise;
    below = λ i x h. let b = L.below i x h in omega arith;
    pending = L.pending;
    there = L.there;
    all = λ key write h below. elim (cases_lt (rank key.offerer key.page key.target) (place_of pid number)) [
      | inl old ↦ L.all key write h old
      | inr late ↦
          let own = own_offer key write pid number (valid key write h) late below in
          absurd (let n = none key.page key.target own.1 in let y : map.contains_key offers key ≡ true = ap is_some h in let z : map.contains_key offers key ≡ false = ap (λ q. map.contains_key offers (offer_key q key.page key.target)) own.0 ∙ n in let e : true ≡ false = sym y ∙ z in cc)
    ];
  }

pub none_gathered : (offers : Offers) → ListedBelow offers (place_of 0 0) []
none_gathered offers = record {
  rise = tt;
  below = λ i o h. cc;
  pending = λ i o h. cc;
  there = λ i o h. cc;
  all = λ key write h low. absurd (omega arith);
}

-- those of all offerers
pub all_listed : (offers : Offers) (xs : List PendingOffer) → AreValid offers → ListedBelow offers (place_of 64 0) xs → AreListed offers xs
all_listed offers xs valid L key write = (
  λ h. let K = valid key write h in let k0 = K.offerer in let k1 = K.page in let k2 = K.target in L.all key write h (omega arith),
  λ h. L.there h.0 (pending_as key write) (slice_get-get_or xs h.0 (pending_as key write) h.1 ∙ ap Some h.2),
)

pub all_fields : (offers : Offers) (xs : List PendingOffer) (place : ℕ) → ListedBelow offers place xs → AreOffers xs
all_fields offers xs place L = record { pending = L.pending; rise = L.rise }

-- ---- The offers of a well-formed state

live_small : (s : State) → IsWellFormed s → (p : ℕ) → IsTrue (is_live s p) → p < 64
live_small s W p live = by (map.get s.book p) refl live
  where
    by : (x : Option Member) → map.get s.book p ≡ x → IsTrue (is_some x) → p < 64
    by None e l = cc
    by (Some m) e l = (W.processes p m e).0

pub valid_offers : (s : State) → IsWellFormed s → AreValid s.offers
valid_offers s W key write h =
    let o = W.offers key write h in
    let c = o.offered in
    let user = (W.cells (at_page key.offerer key.page) c.0 c.1).user in
    record {
      offerer = live_small s W key.offerer (W.owners (at_page key.offerer key.page) c.0 c.1);
      page = omega (arith, user);
      target = live_small s W key.target o.target;
    }
