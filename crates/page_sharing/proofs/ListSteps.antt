-- What lists of offers answer as a map, and what they keep after an offer more and after some less.
use Rattle.std.proofs.Common.{◌≡◌, ◌≢◌, ℕ, zero, suc, ◌+◌, ◌<◌, ◌≤◌, ◌-◌, inl, inr, Bool, true, false, cond, not, ◌&&◌, ◌||◌, ◌==◌, nat_le, List, [], ◌∷◌, ◌++◌, length, filter, is_some, refl, sym, ap, ◌∙◌, Option, Some, None, arith, subst, drop, length-append, length-set}
use Rattle.std.specs.Prelude.{find, position, remove, slice_get, IsOk}
use Rattle.std.specs.List.{position_or_len}
use Rattle.std.specs.Option.{option_map, option_or}
use Rattle.std.proofs.lemmas.List.{get_or-set_same, get_or-set_other, get_or_past, get_or-drop}
use Rattle.std.proofs.lemmas.List.Elements.{All-from_get_or}
use Rattle.std.proofs.lemmas.List.Sums.{sum_by-le, get_or-le-sum_by}
use Rattle.std.proofs.lemmas.List.Filters.{length-filter_both}
use Rattle.std.proofs.lemmas.List.Folds.{find-append, find_at}
use Rattle.std.proofs.lemmas.Grind.{common_steps}
use Rattle.std.proofs.lemmas.Bool.{eqb-true, eq-eqb, ne_eqb, cases_lt}
use Rattle.arrayvec.specs.ArrayVec.{ArrayVec}
use Rattle.page_words.specs.FiniteMap as map
use Rattle.page_words.specs.FiniteMap.{nat_order, same}
use Rattle.page_words.proofs.MapLemmas.{get-insert, get-retain_keys, same_map, len-insert}
use Rattle.page_words.proofs.SetLemmas.{same_sym, same_cases}
use Rattle.page_sharing.specs.declared.Offer.{Offer}
use Rattle.page_sharing.specs.Offers.{OfferKey, Offers, offer_key, offer_order, offer_answer, limited, pending}
use Rattle.page_sharing.specs.Offers.{without_page, without_process}
use Rattle.page_sharing.specs.Listed.{is_of, offers_by, with_list, with_offers, offers_from, offers_in, IsDistinct, IsOffers, all_pending}

-- ---- Keys

-- whether an offer by p has a key, as the order of keys sees it
same-key : (key : OfferKey) (p : ℕ) (offer : Offer) → same offer_order key (offer_key p offer.page offer.target) ≡ ((p == key.offerer) && is_of key.page key.target offer)
same-key key p offer = grind (arith, same_sym)

-- ---- The map of lists

-- the right of the offer of a page to a target, where a list has it
abbrev pub right_in : List Offer → ℕ → ℕ → Option Bool
right_in offers page target = option_map (λ offer. offer.write) (find (is_of page target) offers)

module _ (p : ℕ) (others : Offers) where
  get-own : (offers : List Offer) (page target : ℕ) → map.get others (offer_key p page target) ≡ None → map.get (with_offers p offers others) (offer_key p page target) ≡ right_in offers page target
  get-own [] page target none = none
  get-own (offer ∷ offers) page target none =
      get-insert (with_offers p offers others) (offer_key p offer.page offer.target) offer.write (offer_key p page target)
      ∙ (λ i. cond ((same-key (offer_key p page target) p offer ∙ ap (λ b. b && is_of page target offer) (eq-eqb p p refl)) i) (Some offer.write) (get-own offers page target none i))
      ∙ turned (is_of page target offer)
    where
      turned : (b : Bool) → cond b (Some offer.write) (right_in offers page target) ≡ option_map (λ (o : Offer). o.write) (cond b (Some offer) (find (is_of page target) offers))
      turned h = grind arith

  get-other : (q : ℕ) → q ≢ p → (offers : List Offer) (page target : ℕ) → map.get (with_offers p offers others) (offer_key q page target) ≡ map.get others (offer_key q page target)
  get-other q apart [] page target = refl
  get-other q apart (offer ∷ offers) page target =
      get-insert (with_offers p offers others) (offer_key p offer.page offer.target) offer.write (offer_key q page target)
      ∙ ap (λ b. cond b (Some offer.write) (map.get (with_offers p offers others) (offer_key q page target))) (same-key (offer_key q page target) p offer ∙ ap (λ b. b && is_of page target offer) (ne_eqb p q (λ e. apart (sym e))))
      ∙ get-other q apart offers page target

get-before : (start : ℕ) (lists : List (ArrayVec Offer)) (q page target : ℕ) → q < start → map.get (offers_from start lists) (offer_key q page target) ≡ None
get-before start [] q page target h = refl
get-before start (list ∷ lists) q page target h =
    let other : q ≢ start = omega arith in
    get-other start (offers_from (start + 1) lists) q other list.items page target
    ∙ get-before (start + 1) lists q page target (omega arith)

get-at : (start : ℕ) (lists : List (ArrayVec Offer)) (i q page target : ℕ) → q ≡ start + i → map.get (offers_from start lists) (offer_key q page target) ≡ right_in (offers_by lists i) page target
get-at start [] i q page target e = refl
get-at start (list ∷ lists) zero q page target e =
    let here : start ≡ q = omega arith in
    subst (λ (n : ℕ). map.get (with_offers start list.items (offers_from (start + 1) lists)) (offer_key n page target) ≡ right_in list.items page target) here
    (get-own start (offers_from (start + 1) lists) list.items page target (get-before (start + 1) lists start page target (omega arith)))
get-at start (list ∷ lists) (suc i) q page target e =
    let other : q ≢ start = omega arith in
    get-other start (offers_from (start + 1) lists) q other list.items page target
    ∙ get-at (start + 1) lists i q page target (omega arith)

-- the map answers as the list of the offerer does
pub get-offers_in : (lists : List (ArrayVec Offer)) (key : OfferKey) → map.get (offers_in lists) key ≡ right_in (offers_by lists key.offerer) key.page key.target
unfolding offers_in
get-offers_in lists key = get-at 0 lists key.offerer key.offerer key.page key.target (omega arith)

same_offers : (lists : List (ArrayVec Offer)) (m : Offers) → ((key : OfferKey) → right_in (offers_by lists key.offerer) key.page key.target ≡ map.get m key) → offers_in lists ≡ m
same_offers lists m is = same_map (offers_in lists) m (λ key. get-offers_in lists key ∙ is key)

pub offers_in-none : (lists : List (ArrayVec Offer)) → ((p : ℕ) → offers_by lists p ≡ []) → offers_in lists ≡ map.empty
offers_in-none lists none = same_offers lists map.empty (λ key. ap (λ offers. right_in offers key.page key.target) (none key.offerer))

-- ---- How many an offerer has pending

len-with_offers : (p : ℕ) (offers : List Offer) → IsDistinct offers → map.len (with_offers p offers map.empty) ≡ length offers
len-with_offers p [] h = refl
len-with_offers p (offer ∷ offers) h =
    let absent : map.contains_key (with_offers p offers map.empty) (offer_key p offer.page offer.target) ≡ false =
    ap is_some (get-own p map.empty offers offer.page offer.target refl) ∙ ap (λ o. is_some (option_map (λ (x : Offer). x.write) o)) h.0
    in
    let rest = len-with_offers p offers h.1 in
    len-insert (with_offers p offers map.empty) (offer_key p offer.page offer.target) offer.write
    ∙ ap (λ b. cond b (map.len (with_offers p offers map.empty)) (map.len (with_offers p offers map.empty) + 1)) absent
    ∙ omega (arith, rest)

pending_alone : (lists : List (ArrayVec Offer)) (p : ℕ) → pending (offers_in lists) p ≡ with_offers p (offers_by lists p) map.empty
pending_alone lists p = same_map (pending (offers_in lists) p) (with_offers p (offers_by lists p) map.empty) (λ key.
    get-retain_keys (offers_in lists) (λ k. k.offerer == p) key
    ∙ elim (same_cases nat_order key.offerer p) [
      | inl is ↦
          ap (λ b. cond b (map.get (offers_in lists) key) None) (eq-eqb key.offerer p is.0)
          ∙ get-offers_in lists key
          ∙ ap (λ q. right_in (offers_by lists q) key.page key.target) is.0
          ∙ sym (get-own p map.empty (offers_by lists p) key.page key.target refl)
          ∙ ap (λ q. map.get (with_offers p (offers_by lists p) map.empty) (offer_key q key.page key.target)) (sym is.0)
      | inr other ↦
          ap (λ b. cond b (map.get (offers_in lists) key) None) (ne_eqb key.offerer p other.0)
          ∙ sym (get-other p map.empty key.offerer other.0 (offers_by lists p) key.page key.target)
    ])

pub len-pending : (lists : List (ArrayVec Offer)) → IsOffers lists → (p : ℕ) → map.len (pending (offers_in lists) p) ≡ length (offers_by lists p)
len-pending lists kept p = ap map.len (pending_alone lists p) ∙ len-with_offers p (offers_by lists p) (kept.distinct p)

pub few_pending : (lists : List (ArrayVec Offer)) → IsOffers lists → (p : ℕ) → map.len (pending (offers_in lists) p) ≤ 32
few_pending lists kept p = let a = len-pending lists kept p in let b = kept.few p in omega (arith, a, b)

-- ---- How many all have pending

abbrev no_list : ArrayVec Offer
no_list = record { items = [] }

abbrev size : ArrayVec Offer → ℕ
size list = length list.items

pub few_in_all : (lists : List (ArrayVec Offer)) → IsOffers lists → all_pending lists ≤ 2048
few_in_all lists kept =
    let places = kept.places in
    let bound = sum_by-le size 32 lists (All-from_get_or (λ list. length list.items ≤ 32) lists no_list (λ p below. kept.few p)) in
    omega (arith, places, bound)

pub all_pending-none : (lists : List (ArrayVec Offer)) → ((p : ℕ) → offers_by lists p ≡ []) → all_pending lists ≡ 0
all_pending-none lists none =
    let bound = sum_by-le size 0 lists (All-from_get_or (λ list. length list.items ≤ 0) lists no_list (λ p below. (let e = ap length (none p) in omega (arith, e)))) in
    omega (arith, bound)

no_longer : (offers : List Offer) → length offers ≤ 0 → offers ≡ []
no_longer [] h = refl
no_longer (offer ∷ offers) h = absurd (omega arith)

none_in_all : (lists : List (ArrayVec Offer)) → all_pending lists ≡ 0 → (p : ℕ) → offers_by lists p ≡ []
none_in_all lists none p = grind (arith, cases_lt, get_or-le-sum_by, no_longer, get_or_past)

pub none_behind : (lists : List (ArrayVec Offer)) (place : ℕ) → all_pending (drop place lists) ≡ 0 → (p : ℕ) → place ≤ p → offers_by lists p ≡ []
none_behind lists place none p h =
    let at : place + (p - place) ≡ p = omega arith in
    ap (offers_by lists) (sym at)
    ∙ ap (λ list. list.items) (sym (get_or-drop place lists (p - place) no_list))
    ∙ none_in_all (drop place lists) none (p - place)

pub offers_in-no_process : (lists : List (ArrayVec Offer)) (p : ℕ) → all_pending lists ≡ 0 → offers_in lists ≡ without_process (offers_in lists) p
offers_in-no_process lists p none =
    let is = offers_in-none lists (none_in_all lists none) in
    is ∙ ap (λ offers. without_process offers p) (sym is)

pub offers_in-no_page : (lists : List (ArrayVec Offer)) (p page : ℕ) → all_pending lists ≡ 0 → offers_in lists ≡ without_page (offers_in lists) p page
offers_in-no_page lists p page none =
    let is = offers_in-none lists (none_in_all lists none) in
    is ∙ ap (λ offers. without_page offers p page) (sym is)

-- ---- One list is another

module _ (lists : List (ArrayVec Offer)) (p : ℕ) (p_in : p < length lists) (offers : List Offer) where
  by_it : offers_by (with_list lists p offers) p ≡ offers
  by_it = ap (λ v. v.items) (get_or-set_same lists p (record { items = offers }) (record { items = [] }) p_in)

  by_other : (q : ℕ) → q ≢ p → offers_by (with_list lists p offers) q ≡ offers_by lists q
  by_other q apart = ap (λ v. v.items) (get_or-set_other lists p q (record { items = offers }) (record { items = [] }) apart)

  for_each : (P : List Offer → Type 0) → P offers → ((q : ℕ) → P (offers_by lists q)) → (q : ℕ) → P (offers_by (with_list lists p offers) q)
  for_each P own others q = grind (arith, same_cases, by_it, by_other)

  pub kept-with_list : IsOffers lists → IsDistinct offers → length offers ≤ 32 → IsOffers (with_list lists p offers)
  kept-with_list kept distinct few = record {
    places = length-set lists p (record { items = offers }) ∙ kept.places;
    distinct = for_each IsDistinct distinct kept.distinct;
    few = for_each (λ xs. length xs ≤ 32) few kept.few;
  }

  offers_in-with_list : (m : Offers) → ((page target : ℕ) → right_in offers page target ≡ map.get m (offer_key p page target)) → ((key : OfferKey) → key.offerer ≢ p → map.get (offers_in lists) key ≡ map.get m key) → offers_in (with_list lists p offers) ≡ m
  offers_in-with_list m own others = same_offers (with_list lists p offers) m (λ key. elim (same_cases nat_order key.offerer p) [
    | inl is ↦ grind (arith, by_it)
    | inr other ↦ ap (λ xs. right_in xs key.page key.target) (by_other key.offerer other.0) ∙ sym (get-offers_in lists key) ∙ others key other.0
  ])

-- ---- Fewer

none_either : (b : Bool) → ◌≡◌ {A = Option Offer} None (cond b None None)
none_either b = grind arith

find-filter : (q t : Offer → Bool) (b : Bool) → ((o : Offer) → q o ≡ true → t o ≡ b) → (offers : List Offer) → find q (filter t offers) ≡ cond b (find q offers) None
find-filter q t b says [] = none_either b
find-filter q t b says (o ∷ offers) = one (find-filter q t b says offers) (q o) (t o) refl refl
  where
    one : find q (filter t offers) ≡ cond b (find q offers) None → (u v : Bool) → q o ≡ u → t o ≡ v → find q (cond v (o ∷ filter t offers) (filter t offers)) ≡ cond b (cond u (Some o) (find q offers)) None
    one rest h k is stays = grind arith

pub of_one : (page target : ℕ) (o : Offer) → is_of page target o ≡ true → (o.page ≡ page) × (o.target ≡ target)
of_one page target o is = grind (arith, eqb-true)

module _ (t : ℕ → ℕ → Bool) where
  abbrev passes : Offer → Bool
  passes offer = t offer.page offer.target

  find-passes : (offers : List Offer) (page target : ℕ) → find (is_of page target) (filter passes offers) ≡ cond (t page target) (find (is_of page target) offers) None
  find-passes offers page target = find-filter (is_of page target) passes (t page target) (λ o is. (let e = of_one page target o is in λ i. t (e.0 i) (e.1 i))) offers

  right_in-filter : (offers : List Offer) (page target : ℕ) → right_in (filter passes offers) page target ≡ cond (t page target) (right_in offers page target) None
  right_in-filter offers page target = ap (option_map (λ (o : Offer). o.write)) (find-passes offers page target) ∙ either (t page target)
    where
      either : (b : Bool) → option_map (λ (o : Offer). o.write) (cond b (find (is_of page target) offers) None) ≡ cond b (right_in offers page target) None
      either k = grind arith

  distinct-filter : (offers : List Offer) → IsDistinct offers → IsDistinct (filter passes offers)
  distinct-filter [] h = tt
  distinct-filter (offer ∷ offers) h = one (passes offer) (absent (t offer.page offer.target) (find-passes offers offer.page offer.target)) (distinct-filter offers h.1)
    where
      absent : (b : Bool) → find (is_of offer.page offer.target) (filter passes offers) ≡ cond b (find (is_of offer.page offer.target) offers) None → find (is_of offer.page offer.target) (filter passes offers) ≡ None
      absent known e = grind arith

      one : (b : Bool) → find (is_of offer.page offer.target) (filter passes offers) ≡ None → IsDistinct (filter passes offers) → IsDistinct (cond b (offer ∷ filter passes offers) (filter passes offers))
      one given none rest = grind arith

  length_filter : (offers : List Offer) → length (filter passes offers) ≤ length offers
  length_filter offers = let both = length-filter_both passes (λ o. not (passes o)) (λ _. refl) offers in omega (arith, both)

  module _ (lists : List (ArrayVec Offer)) (p : ℕ) (p_in : p < length lists) where
    abbrev left : List (ArrayVec Offer)
    left = with_list lists p (filter passes (offers_by lists p))

    pub kept-filter : IsOffers lists → IsOffers left
    kept-filter kept =
        let a = length_filter (offers_by lists p) in
        let b = kept.few p in
        kept-with_list lists p p_in (filter passes (offers_by lists p)) kept (distinct-filter (offers_by lists p) (kept.distinct p)) (omega (arith, a, b))

    pub offers_in-filter : (u : OfferKey → Bool) → ((page target : ℕ) → u (offer_key p page target) ≡ t page target) → ((key : OfferKey) → key.offerer ≢ p → u key ≡ true) → offers_in left ≡ map.retain_keys (offers_in lists) u
    offers_in-filter u own others = offers_in-with_list lists p p_in (filter passes (offers_by lists p)) (map.retain_keys (offers_in lists) u)
        (λ page target.
        right_in-filter (offers_by lists p) page target
        ∙ (λ i. cond (sym (own page target) i) (sym (get-offers_in lists (offer_key p page target)) i) None)
        ∙ sym (get-retain_keys (offers_in lists) u (offer_key p page target)))
        (λ key apart. sym (get-retain_keys (offers_in lists) u key ∙ ap (λ b. cond b (map.get (offers_in lists) key) None) (others key apart)))

-- ---- The place of an offer

none_past : (offers : List Offer) (n : ℕ) → length offers ≤ n → slice_get offers n ≡ None
none_past [] n h = refl
none_past (o ∷ offers) zero h = absurd (omega arith)
none_past (o ∷ offers) (suc n) h = none_past offers n (omega arith)

module _ (page target : ℕ) where
  none_less : (offers : List Offer) → find (is_of page target) offers ≡ None → filter (λ offer. not (is_of page target offer)) offers ≡ offers
  none_less [] e = refl
  none_less (o ∷ offers) e = by (is_of page target o) e (none_less offers)
    where
      by : (b : Bool) → cond b (Some o) (find (is_of page target) offers) ≡ None → (find (is_of page target) offers ≡ None → filter (λ offer. not (is_of page target offer)) offers ≡ offers)
          → cond (not b) (o ∷ filter (λ offer. not (is_of page target offer)) offers) (filter (λ offer. not (is_of page target offer)) offers) ≡ o ∷ offers
      by k e rest = grind arith

  -- as no two are alike, the first that is taken out is the only one that goes
  first_goes : (offers : List Offer) → IsDistinct offers → remove offers (position_or_len (is_of page target) offers) ≡ filter (λ offer. not (is_of page target offer)) offers
  first_goes [] h = refl
  first_goes (o ∷ offers) h = by (is_of page target o) refl (first_goes offers h.1)
    where
      by : (b : Bool) → is_of page target o ≡ b → remove offers (position_or_len (is_of page target) offers) ≡ filter (λ offer. not (is_of page target offer)) offers
          → remove (o ∷ offers) (cond (not b) (1 + position_or_len (is_of page target) offers) 0) ≡ cond (not b) (o ∷ filter (λ offer. not (is_of page target offer)) offers) (filter (λ offer. not (is_of page target offer)) offers)
      by known is rest = grind (arith, of_one, none_less)

  module _ (offers : List Offer) where
    pub none_at : position (is_of page target) offers ≡ None → find (is_of page target) offers ≡ None
    none_at e =
        let past : length offers ≤ position_or_len (is_of page target) offers = grind (arith, common_steps, e) in
        find_at (is_of page target) offers ∙ none_past offers (position_or_len (is_of page target) offers) past

    module _ (i : ℕ) (at : position (is_of page target) offers ≡ Some i) where
      first : position_or_len (is_of page target) offers ≡ i
      first = grind (arith, common_steps, at)

      pub found_at : find (is_of page target) offers ≡ slice_get offers i
      found_at = find_at (is_of page target) offers ∙ ap (slice_get offers) first

      pub removed_at : IsDistinct offers → remove offers i ≡ filter (λ offer. not (is_of page target offer)) offers
      removed_at h = ap (remove offers) (sym first) ∙ first_goes offers h

-- ---- What goes: one offer, the offers of a page, all of a process, those to a process

module _ (lists : List (ArrayVec Offer)) (p : ℕ) (p_in : p < length lists) where
  module _ (page target : ℕ) where
    unlike : (q g t : ℕ) → not (same offer_order (offer_key p page target) (offer_key q g t)) ≡ not ((q == p) && ((g == page) && (t == target)))
    unlike q g t = ap not (same-key (offer_key p page target) q (record { page = g; target = t; write = true }))

    pub kept-remove : IsOffers lists → IsOffers (with_list lists p (filter (λ offer. not (is_of page target offer)) (offers_by lists p)))
    kept-remove kept = kept-filter (λ g t. not ((g == page) && (t == target))) lists p p_in kept

    pub offers_in-remove : offers_in (with_list lists p (filter (λ offer. not (is_of page target offer)) (offers_by lists p))) ≡ map.remove (offers_in lists) (offer_key p page target)
    offers_in-remove = offers_in-filter (λ g t. not ((g == page) && (t == target))) lists p p_in (λ key. not (same offer_order (offer_key p page target) key))
        (λ g t. unlike p g t ∙ ap (λ b. not (b && ((g == page) && (t == target)))) (eq-eqb p p refl))
        (λ key apart. unlike key.offerer key.page key.target ∙ ap (λ b. not (b && ((key.page == page) && (key.target == target)))) (ne_eqb key.offerer p apart))

  module _ (page : ℕ) where
    pub kept-remove_page : IsOffers lists → IsOffers (with_list lists p (filter (λ offer. not (offer.page == page)) (offers_by lists p)))
    kept-remove_page kept = kept-filter (λ g t. not (g == page)) lists p p_in kept

    pub offers_in-remove_page : offers_in (with_list lists p (filter (λ offer. not (offer.page == page)) (offers_by lists p))) ≡ without_page (offers_in lists) p page
    offers_in-remove_page = offers_in-filter (λ g t. not (g == page)) lists p p_in (λ key. not ((key.offerer == p) && (key.page == page)))
        (λ g t. ap (λ b. not (b && (g == page))) (eq-eqb p p refl))
        (λ key apart. ap (λ b. not (b && (key.page == page))) (ne_eqb key.offerer p apart))

  pub kept-clear : IsOffers lists → IsOffers (with_list lists p [])
  kept-clear kept = kept-with_list lists p p_in [] kept tt (omega arith)

  offers_in-clear : offers_in (with_list lists p []) ≡ map.retain_keys (offers_in lists) (λ key. not (key.offerer == p))
  offers_in-clear = offers_in-with_list lists p p_in [] (map.retain_keys (offers_in lists) (λ key. not (key.offerer == p)))
      (λ page target. sym (get-retain_keys (offers_in lists) (λ key. not (key.offerer == p)) (offer_key p page target) ∙ ap (λ b. cond (not b) (map.get (offers_in lists) (offer_key p page target)) None) (eq-eqb p p refl)))
      (λ key apart. sym (get-retain_keys (offers_in lists) (λ k. not (k.offerer == p)) key ∙ ap (λ b. cond (not b) (map.get (offers_in lists) key) None) (ne_eqb key.offerer p apart)))

-- each list loses the offers to p
module _ (lists left : List (ArrayVec Offer)) (p : ℕ) (is : (q : ℕ) → offers_by left q ≡ filter (λ offer. not (offer.target == p)) (offers_by lists q)) where
  pub kept-remove_target : length left ≡ length lists → IsOffers lists → IsOffers left
  kept-remove_target places kept = record {
    places = places ∙ kept.places;
    distinct = λ q. subst IsDistinct (sym (is q)) (distinct-filter (λ g t. not (t == p)) (offers_by lists q) (kept.distinct q));
    few = λ q. (let a = length_filter (λ g t. not (t == p)) (offers_by lists q) in let b = kept.few q in let e = ap length (is q) in omega (arith, a, b, e));
  }

  offers_in-remove_target : offers_in left ≡ map.retain_keys (offers_in lists) (λ key. not (key.target == p))
  offers_in-remove_target = same_offers left (map.retain_keys (offers_in lists) (λ key. not (key.target == p))) (λ key.
      ap (λ xs. right_in xs key.page key.target) (is key.offerer)
      ∙ right_in-filter (λ g t. not (t == p)) (offers_by lists key.offerer) key.page key.target
      ∙ ap (λ o. cond (not (key.target == p)) o None) (sym (get-offers_in lists key))
      ∙ sym (get-retain_keys (offers_in lists) (λ k. not (k.target == p)) key))

both_tests : (m : Offers) (p : ℕ) → map.retain_keys (map.retain_keys m (λ key. not (key.offerer == p))) (λ key. not (key.target == p)) ≡ without_process m p
both_tests m p = same_map (map.retain_keys (map.retain_keys m (λ key. not (key.offerer == p))) (λ key. not (key.target == p))) (without_process m p) (λ key.
    get-retain_keys (map.retain_keys m (λ k. not (k.offerer == p))) (λ k. not (k.target == p)) key
    ∙ ap (λ o. cond (not (key.target == p)) o None) (get-retain_keys m (λ k. not (k.offerer == p)) key)
    ∙ either (key.offerer == p) (key.target == p) (map.get m key)
    ∙ sym (get-retain_keys m (λ k. not ((k.offerer == p) || (k.target == p))) key))
  where
    either : (a b : Bool) (o : Option Bool) → cond (not b) (cond (not a) o None) None ≡ cond (not (a || b)) o None
    either h k o = grind arith

pub offers_in-remove_process : (lists left : List (ArrayVec Offer)) (p : ℕ) → p < length lists
    → ((q : ℕ) → offers_by left q ≡ filter (λ offer. not (offer.target == p)) (offers_by (with_list lists p []) q)) → offers_in left ≡ without_process (offers_in lists) p
offers_in-remove_process lists left p p_in is =
    offers_in-remove_target (with_list lists p []) left p is
    ∙ ap (λ m. map.retain_keys m (λ key. not (key.target == p))) (offers_in-clear lists p p_in)
    ∙ both_tests (offers_in lists) p

-- ---- One more

room : (offers : Offers) (p : ℕ) (b : Bool) → nat_le 32 (map.len (pending offers p)) ≡ b → IsOk (limited b) → map.len (pending offers p) < 32
room offers p b is e = grind arith

may_offer : (offers : Offers) (key : OfferKey) → IsOk (offer_answer offers key) → (map.get offers key ≡ None) × (map.len (pending offers key.offerer) < 32)
may_offer offers key h = grind (arith, nat_le, room)

turned : (a b : ℕ) → (a == b) ≡ (b == a)
turned a b = grind (arith, same_cases, eq-eqb, ne_eqb)

-- a list without the offer o, and then with it
module _ (o : Offer) where
  right_in-push : (offers : List Offer) → find (is_of o.page o.target) offers ≡ None → (page target : ℕ) → right_in (offers ++ o ∷ []) page target ≡ cond (is_of page target o) (Some o.write) (right_in offers page target)
  right_in-push offers absent page target =
      ap (option_map (λ (x : Offer). x.write)) (find-append (is_of page target) offers (o ∷ []))
      ∙ either (is_of page target o) refl (find (is_of page target) offers) refl
    where
      none_of : is_of page target o ≡ true → find (is_of page target) offers ≡ None
      none_of is = (let e = of_one page target o is in (λ i. find (is_of (sym e.0 i) (sym e.1 i)) offers) ∙ absent)

      either : (b : Bool) → is_of page target o ≡ b → (x : Option Offer) → find (is_of page target) offers ≡ x
          → option_map (λ (y : Offer). y.write) (option_or x (cond b (Some o) None)) ≡ cond b (Some o.write) (option_map (λ (y : Offer). y.write) x)
      either k is known e = grind (arith, none_of)

  distinct-push : (offers : List Offer) → find (is_of o.page o.target) offers ≡ None → IsDistinct offers → IsDistinct (offers ++ o ∷ [])
  distinct-push [] absent h = (refl, tt)
  distinct-push (x ∷ offers) absent h = by (is_of o.page o.target x) refl absent (λ later. distinct-push offers later h.1)
    where
      swapped : is_of o.page o.target x ≡ false → is_of x.page x.target o ≡ false
      swapped apart = (λ i. turned o.page x.page i && turned o.target x.target i) ∙ apart

      by : (b : Bool) → is_of o.page o.target x ≡ b → cond b (Some x) (find (is_of o.page o.target) offers) ≡ None → (find (is_of o.page o.target) offers ≡ None → IsDistinct (offers ++ o ∷ []))
          → (find (is_of x.page x.target) (offers ++ o ∷ []) ≡ None) × IsDistinct (offers ++ o ∷ [])
      by given is e rest = grind (arith, find-append, swapped)

-- an offer that may be made
module _ (lists : List (ArrayVec Offer)) (kept : IsOffers lists) (p : ℕ) (o : Offer) (may : IsOk (offer_answer (offers_in lists) (offer_key p o.page o.target))) where
  pub may_push : length (offers_by lists p) < 32
  may_push = let a = len-pending lists kept p in let b = (may_offer (offers_in lists) (offer_key p o.page o.target) may).1 in omega (arith, a, b)

  absent_there : find (is_of o.page o.target) (offers_by lists p) ≡ None
  absent_there = by (find (is_of o.page o.target) (offers_by lists p)) (sym (get-offers_in lists (offer_key p o.page o.target)) ∙ (may_offer (offers_in lists) (offer_key p o.page o.target) may).0)
    where
      by : (x : Option Offer) → option_map (λ (y : Offer). y.write) x ≡ None → x ≡ None
      by h e = grind arith

  pub kept-push : p < length lists → IsOffers (with_list lists p (offers_by lists p ++ o ∷ []))
  kept-push p_in =
      let a = may_push in
      let b = length-append (offers_by lists p) (o ∷ []) in
      kept-with_list lists p p_in (offers_by lists p ++ o ∷ []) kept (distinct-push o (offers_by lists p) absent_there (kept.distinct p)) (omega (arith, a, b))

  pub offers_in-push : p < length lists → offers_in (with_list lists p (offers_by lists p ++ o ∷ [])) ≡ map.insert (offers_in lists) (offer_key p o.page o.target) o.write
  offers_in-push p_in = offers_in-with_list lists p p_in (offers_by lists p ++ o ∷ []) (map.insert (offers_in lists) (offer_key p o.page o.target) o.write)
      (λ page target.
      right_in-push o (offers_by lists p) absent_there page target
      ∙ (λ i. cond (sym (same-key (offer_key p page target) p o ∙ ap (λ b. b && is_of page target o) (eq-eqb p p refl)) i) (Some o.write) (sym (get-offers_in lists (offer_key p page target)) i))
      ∙ sym (get-insert (offers_in lists) (offer_key p o.page o.target) o.write (offer_key p page target)))
      (λ key apart. sym (get-insert (offers_in lists) (offer_key p o.page o.target) o.write key ∙ ap (λ b. cond b (Some o.write) (map.get (offers_in lists) key)) (same-key key p o ∙ ap (λ b. b && is_of key.page key.target o) (ne_eqb p key.offerer (λ e. apart (sym e))))))
