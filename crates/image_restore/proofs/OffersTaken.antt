-- The machine takes back the offers of a well-formed state, one after the other.
use Rattle.std.proofs.Common.{◌≡◌, ℕ, zero, suc, ◌+◌, ◌<◌, ◌≤◌, Bool, true, false, cond, not, ◌&&◌, List, [], ◌∷◌, length, take, length-take, get_or-take, refl, sym, ap, subst, ◌∙◌, arith, inl, inr, Option, Some, None, is_some}
use Rattle.std.specs.Prelude.{if◌then◌else◌, slice_get, ◌==◌, nat_le}
use Rattle.std.specs.Option.{unwrap_or}
use Rattle.std.proofs.lemmas.Bool.{and_from, eq-eqb, ne_eqb, le-leb}
use Rattle.std.proofs.lemmas.Option.{slice_get-get_or, slice_get_within, get_or_from_slice_get}
use Rattle.page_words.specs.Addresses.{is_user_page}
use Rattle.page_words.specs.FiniteMap as map
use Rattle.page_words.specs.FiniteMap.{Map}
use Rattle.page_words.specs.FiniteSet as set
use Rattle.page_words.specs.FiniteSet.{Set}
use Rattle.page_words.proofs.MapLemmas.{get-insert, get-retain_keys, get-map_values, len-insert, len-change_each}
use Rattle.page_words.proofs.OptionLemmas.{is_some-map}
use Rattle.page_words.proofs.SetLemmas.{same_cases}
use Rattle.address_space.specs.Spaces.{Cell, at_page, cell_or_fresh, fresh}
use Rattle.address_space.proofs.costs.Sizes.{len-subset}
use Rattle.page_sharing.specs.Offers.{Offers, OfferKey, offer_order, pending}
use Rattle.process_table.specs.State.{State, is_live, is_mapped}
use Rattle.process_table.specs.Calls.{offer_refusal}
use Rattle.process_table.specs.WellFormed.{IsWellFormed, IsOfferIn}
use Rattle.process_table.specs.declared.causes.Cause.TheVariants as cause
use Rattle.kernel_calls.specs.Machine.{answer, refused_or}
use Rattle.kernel_calls.specs.declared.calls.Reply.TheVariants as reply
use Rattle.memory_image.proofs.RespellLemmas.{passes_other}
use Rattle.wide_image.specs.declared.offers.PendingOffer.{PendingOffer}
use Rattle.wide_image.specs.Offers.{rank_of, Rise, AreListed, pending_as}
use Rattle.image_restore.specs.Resumed.{offer_event}
use Rattle.image_restore.proofs.OfferLemmas.{key_of}

-- ---- Places rise

rise_first : (from : ℕ) (xs : List PendingOffer) (j : ℕ) (b : PendingOffer) → Rise from xs → slice_get xs j ≡ Some b → from ≤ rank_of b
rise_first from [] j b rise h = cc
rise_first from (x ∷ xs) zero b rise h = let e : x ≡ b = ap (λ o. unwrap_or o x) h in subst (λ o. from ≤ rank_of o) e rise.0
rise_first from (x ∷ xs) (suc j) b rise h = let k = rise_first (rank_of x + 1) xs j b rise.1 h in let low = rise.0 in omega (arith, k, low)

rise_less : (from : ℕ) (xs : List PendingOffer) (i j : ℕ) (a b : PendingOffer) → Rise from xs → i < j → slice_get xs i ≡ Some a → slice_get xs j ≡ Some b → rank_of a < rank_of b
rise_less from [] i j a b rise low h k = cc
rise_less from (x ∷ xs) zero zero a b rise low h k = absurd (omega arith)
rise_less from (x ∷ xs) zero (suc j) a b rise low h k =
    let e : x ≡ a = ap (λ o. unwrap_or o x) h in
    let f = rise_first (rank_of x + 1) xs j b rise.1 k in
    subst (λ o. rank_of o < rank_of b) e (omega (arith, f))
rise_less from (x ∷ xs) (suc i) zero a b rise low h k = absurd (omega arith)
rise_less from (x ∷ xs) (suc i) (suc j) a b rise low h k = rise_less (rank_of x + 1) xs i j a b rise.1 (omega arith) h k

-- ---- Sizes of maps

abbrev nothing : {K X : Type 0} → K → X → Unit {0}
nothing k x = tt

module _ {K X : Type 0} {o : map.Order K} where
  abbrev keys_of : Map o X → Set o
  keys_of m = map.map_values nothing m

  contains-keys : (m : Map o X) (k : K) → set.contains (keys_of m) k ≡ map.contains_key m k
  contains-keys m k = ap is_some (get-map_values o nothing m k) ∙ is_some-map (nothing k) (map.get m k)

  len-keys : (m : Map o X) → set.len (keys_of m) ≡ map.len m
  len-keys m = len-change_each nothing m.entries

  len_within : (m n : Map o X) → ((k : K) → map.contains_key m k ≡ true → map.contains_key n k ≡ true) → map.len m ≤ map.len n
  len_within m n inside =
      let a = len-keys m in
      let b = len-keys n in
      let s = len-subset (keys_of m) (keys_of n) (λ k h. contains-keys n k ∙ inside k (sym (contains-keys m k) ∙ h)) in
      omega (arith, a, b, s)

-- ---- One offer

module _ (s : State) (W : IsWellFormed s) (offers : List PendingOffer) (listed : AreListed s.offers offers) (rise : Rise 0 offers)
    (m : Offers) (number : ℕ) (before : AreListed m (take number offers)) (o : PendingOffer) (here : slice_get offers number ≡ Some o) where
  low : number < length offers
  low = slice_get_within offers number o here

  got : map.get s.offers (key_of o) ≡ Some o.write
  got = (listed (key_of o) o.write).1 (number, low, get_or_from_slice_get offers number o o here)

  abbrev F : IsOfferIn s (key_of o) o.write
  F = W.offers (key_of o) o.write got

  -- an offer that is made already comes before it
  made_there : (key : OfferKey) (write : Bool) → map.get m key ≡ Some write → (i : ℕ) × (i < number) × (slice_get offers i ≡ Some (pending_as key write))
  made_there key write h =
      let c = (before key write).0 h in
      let t = length-take number offers in
      let inside = c.1 in
      let i : c.0 < number = omega (arith, t, inside) in
      (c.0, i, slice_get-get_or offers c.0 (pending_as key write) (let l = low in omega (arith, i, l)) ∙ ap Some (sym (get_or-take number offers c.0 (pending_as key write) i) ∙ c.2))

  new_by : (x : Option Bool) → map.get m (key_of o) ≡ x → is_some x ≡ false
  new_by None h = refl
  new_by (Some w) h =
      let t = made_there (key_of o) w h in
      let less = rise_less 0 offers t.0 number (pending_as (key_of o) w) o rise t.1 t.2 here in
      absurd (omega (arith, less))

  new : map.contains_key m (key_of o) ≡ false
  new = new_by (map.get m (key_of o)) refl

  made_is_pending : (key : OfferKey) (x : Option Bool) → map.get m key ≡ x → is_some x ≡ true → map.contains_key s.offers key ≡ true
  made_is_pending key None h k = cc
  made_is_pending key (Some w) h k =
      let t = made_there key w h in
      ap is_some ((listed key w).1 (t.0, slice_get_within offers t.0 (pending_as key w) t.2, get_or_from_slice_get offers t.0 (pending_as key w) (pending_as key w) t.2))

  abbrev by-offerer : OfferKey → Bool
  by-offerer key = key.offerer == o.offerer

  abbrev one_more : Offers
  one_more = map.insert (pending m o.offerer) (key_of o) o.write

  not_there : map.contains_key (pending m o.offerer) (key_of o) ≡ false
  not_there = ap is_some (get-retain_keys m by-offerer (key_of o)) ∙ either (by-offerer (key_of o)) (map.get m (key_of o)) new
    where
      either : (b : Bool) (x : Option Bool) → is_some x ≡ false → is_some (cond b x None) ≡ false
      either true x h = h
      either false x h = refl

  inside : (key : OfferKey) → map.contains_key one_more key ≡ true → map.contains_key (pending s.offers o.offerer) key ≡ true
  inside key h = elim (same_cases offer_order key (key_of o)) [
    | inl is ↦
        ap is_some (get-retain_keys s.offers by-offerer key)
        ∙ (λ i. is_some (cond (by-offerer (is.0 i)) (map.get s.offers (is.0 i)) None))
        ∙ (λ i. is_some (cond (eq-eqb o.offerer o.offerer refl i) (map.get s.offers (key_of o)) None))
        ∙ ap is_some got
    | inr other ↦
        let a : map.contains_key (pending m o.offerer) key ≡ true = sym (ap is_some (get-insert (pending m o.offerer) (key_of o) o.write key ∙ ap (λ b. cond b (Some o.write) (map.get (pending m o.offerer) key)) other.1)) ∙ h in
        let b = both (by-offerer key) (map.get m key) (sym (ap is_some (get-retain_keys m by-offerer key)) ∙ a) in
        ap is_some (get-retain_keys s.offers by-offerer key) ∙ ap (λ b. is_some (cond b (map.get s.offers key) None)) b.0 ∙ made_is_pending key (map.get m key) refl b.1
  ]
    where
      both : (b : Bool) (x : Option Bool) → is_some (cond b x None) ≡ true → (b ≡ true) × (is_some x ≡ true)
      both true x h = (refl, h)
      both false x h = cc

  few : map.len (pending m o.offerer) < 32
  few =
      let a = len-insert (pending m o.offerer) (key_of o) o.write ∙ ap (λ b. cond b (map.len (pending m o.offerer)) (map.len (pending m o.offerer) + 1)) not_there in
      let b = len_within one_more (pending s.offers o.offerer) inside in
      let c = W.few o.offerer in
      omega (arith, a, b, c)

  abbrev cell : Cell
  cell = F.offered.0

  found : map.get s.spaces (at_page o.offerer o.page) ≡ Some cell
  found = F.offered.1

  live : is_live s o.offerer ≡ true
  live = W.owners (at_page o.offerer o.page) cell found

  user : is_user_page o.page ≡ true
  user =
      let u = (W.cells (at_page o.offerer o.page) cell found).user in
      let u0 = u.0 in
      let u1 = u.1 in
      and_from (nat_le 0x40000 o.page) (nat_le o.page 0xeffff) (le-leb 0x40000 o.page (omega arith)) (le-leb o.page 0xeffff (omega arith))

  right_by : (b : Bool) → o.write ≡ b → (b && not (cell_or_fresh s.spaces (at_page o.offerer o.page)).may) ≡ false
  right_by false e = refl
  right_by true e =
      let may : (cell_or_fresh s.spaces (at_page o.offerer o.page)).may ≡ true = ap (λ (x : Option Cell). (unwrap_or x (fresh (at_page o.offerer o.page) true)).may) found ∙ F.offered.2 e in
      let no : not (cell_or_fresh s.spaces (at_page o.offerer o.page)).may ≡ false = ap not may in
      no

  past : nat_le 32 (map.len (pending m o.offerer)) ≡ false
  past = let f = few in more (map.len (pending m o.offerer)) f
    where
      more : (n : ℕ) → n < 32 → nat_le 32 n ≡ false
      more n h = grind arith

  none_against : offer_refusal (record s { offers = m }) o.offerer o.page o.target o.write ≡ None
  none_against =
      passes_other (not (is_user_page o.page)) cause.BadPage _ (ap not user)
      (passes_other (not (is_mapped s (at_page o.offerer o.page))) cause.NotMapped _ (ap (λ x. not (is_some x)) found)
      (passes_other (o.target == o.offerer) cause.SelfOffer _ (ne_eqb o.target o.offerer F.another)
      (passes_other (not (is_live s o.target)) cause.NoTarget _ (ap not F.target)
      (passes_other (o.write && not (cell_or_fresh s.spaces (at_page o.offerer o.page)).may) cause.Rights _ (right_by o.write refl)
      (passes_other (map.contains_key m (key_of o)) cause.OfferPending _ new
      (passes_other (nat_le 32 (map.len (pending m o.offerer))) cause.TooManyOffers None past refl))))))

  -- the machine makes it
  pub offer_taken : answer (record s { offers = m }) (offer_event o) ≡ reply.Done
  offer_taken =
      (λ i. if live i then refused_or (none_against i) reply.Done else reply.Refused cause.NoProcess)
