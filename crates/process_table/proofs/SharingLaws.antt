-- States stay well formed by a change of a right, and by an offer, its withdrawal and its acceptance.
use Rattle.process_table.proofs.Prelude.{◌≡◌, ◌≢◌, ℕ, ◌+◌, ◌<◌, ◌≤◌, ◌||◌, ◌==◌, not, Bool, true, false, cond, refl, sym, ap, subst, ◌∙◌, Option, Some, None, is_some, unwrap_or, arith, inl, inr, if◌then◌else◌, nat_lt, option_map, cases_eq, or_cases, or_right, IsUserPage, EachTouched, Size, IsThere, same, Set, same_itself, same-true, get-insert, get-map_values, contains-insert, retain-insert, len-insert, retain-insert_other, same_cases, Slot, slot_order, Cell, Spaces, cost, need, fresh, cell_or_fresh, with_holders, set_holders, joined, at_page, join_in, cost-joined, cost-joined_other, given, quota_of, OfferKey, Offers, offer_order, offer_key, pending, State, is_live, room, protect_refusal, offer_refusal, accept_refusal, offered, after_protect, after_offer, after_withdraw, after_accept, IsCellAt, IsOfferIn, IsWellFormed, eqb-true, same_Some, some_value, from_map, false_from_ne_true}
use Rattle.process_table.proofs.Overdrawn.{extra_new}
use Rattle.process_table.proofs.CellLaws.{cell-kept, AreCells, get-inserted, get-inserted_other}
use Rattle.process_table.proofs.BookLaws.{retained}
use Rattle.process_table.proofs.Refusals.{MayProtect, MayOffer, may_protect, may_offer, may_accept}
use Rattle.process_table.proofs.Sizes.{len-retain}
use Rattle.process_table.proofs.SpaceLaws.{not_less, user_page, with-spaces, well_formed-flags}
use Rattle.page_words.specs.FiniteMap as map
use Rattle.page_words.specs.FiniteSet as set

-- ---- A change of the right to write

-- a change of the right of a mapped page, to write only where it may be written to
pub well_formed-protect : (s : State) (p page : ℕ) (write : Bool) → IsWellFormed s → is_live s p ≡ true → protect_refusal s p page write ≡ None → IsWellFormed (after_protect s p page write)
well_formed-protect s p page write w live allowed = by (map.get s.spaces (at_page p page)) refl
  where
    may : MayProtect s p page write
    may = may_protect s p page write allowed

    by : (x : Option Cell) → map.get s.spaces (at_page p page) ≡ x → IsWellFormed (after_protect s p page write)
    by None none = absurd (let m : is_some (map.get s.spaces (at_page p page)) ≡ true = may.mapped in let n = ap is_some none in cc)
    by (Some c) at =
        let is : cell_or_fresh s.spaces (at_page p page) ≡ c = ap (λ (x : Option Cell). unwrap_or x (fresh (at_page p page) true)) at in
        subst (λ (x : Cell). IsWellFormed (record s { spaces = map.insert s.spaces (at_page p page) (record x { write = write }) })) (sym is)
        (well_formed-flags s (at_page p page) c at w (record c { write = write })
        (λ q. record { holders = refl; bytes_in = λ _. refl; bytes_out = λ _. refl; write = λ _ h. ap (λ (x : Cell). x.may) (sym is) ∙ may.right h; may = refl; dirty = λ f. f }))

-- ---- Offers

-- one more pending offer of a process that has fewer than 32
few-more : (offers : Offers) (key : OfferKey) (write : Bool) → map.contains_key offers key ≡ false → map.len (pending offers key.offerer) < 32 → ((p : ℕ) → map.len (pending offers p) ≤ 32)
    → (p : ℕ) → map.len (pending (map.insert offers key write) p) ≤ 32
few-more offers key write new few most p = by (key.offerer == p) refl
  where
    one : (b : Bool) (n : ℕ) → n < 32 → cond b n (n + 1) ≤ 32
    one b n h = grind arith

    by : (b : Bool) → (key.offerer == p) ≡ b → map.len (pending (map.insert offers key write) p) ≤ 32
    by true is =
        let a = ap map.len (retain-insert offers (λ (k : OfferKey). k.offerer == p) key write is) in
        let b = len-insert (pending offers p) key write in
        let below : map.len (pending offers p) < 32 = subst (λ n. map.len (pending offers n) < 32) (eqb-true key.offerer p is) few in
        omega (arith, a, b, one (map.contains_key (pending offers p) key) (map.len (pending offers p)) below)
    by false is =
        omega (arith, ap map.len (retain-insert_other offers (λ (k : OfferKey). k.offerer == p) key write is), most p)

-- whether an offer is well formed does not depend on the other offers
offer-same : (s : State) (offers : Offers) (key : OfferKey) (right : Bool) → IsOfferIn s key right → IsOfferIn (record s { offers = offers }) key right
offer-same s offers key right old = record { target = old.target; another = old.another; offered = old.offered }

module _ (s : State) (p page target : ℕ) (write : Bool) (w : IsWellFormed s) (may : MayOffer s p page target write) where
  abbrev new_key : OfferKey
  new_key = offer_key p page target

  abbrev more_offers : Offers
  more_offers = map.insert s.offers new_key write

  new-offer : IsOfferIn (record s { offers = more_offers }) new_key write
  new-offer = record {
    target = may.live;
    another = may.another;
    offered = (let c = some_value (map.get s.spaces (at_page p page)) may.mapped in
        (c.0, c.1, λ h. ap (λ (x : Option Cell). (unwrap_or x (fresh (at_page p page) true)).may) (sym c.1) ∙ may.right h));
  }

  offers-more : (key : OfferKey) (right : Bool) → map.get more_offers key ≡ Some right → IsOfferIn (record s { offers = more_offers }) key right
  offers-more key right h = elim (same_cases offer_order key new_key) [
    | inl is ↦ grind (arith, same_Some, get-insert, new-offer)
    | inr other ↦ offer-same s more_offers key right (w.offers key right (sym (get-insert s.offers new_key write key ∙ ap (λ b. cond b (Some write) (map.get s.offers key)) other.1) ∙ h))
  ]

  offered-more : IsWellFormed (after_offer s p page target write)
  offered-more = assumption (offers-more, few-more s.offers new_key write may.new may.few w.few)

-- an offer that is not refused
pub well_formed-offer : (s : State) (p page target : ℕ) (write : Bool) → IsWellFormed s → offer_refusal s p page target write ≡ None → IsWellFormed (after_offer s p page target write)
well_formed-offer s p page target write w allowed = offered-more s p page target write w (may_offer s p page target write allowed)

-- a withdrawal, of any offer
pub well_formed-withdraw : (s : State) (p page target : ℕ) → IsWellFormed s → IsWellFormed (after_withdraw s p page target)
well_formed-withdraw s p page target w = record {
  root = w.root;
  root_parent = w.root_parent;
  processes = w.processes;
  rooms = w.rooms;
  owners = w.owners;
  cells = w.cells;
  offers = λ key right h. offer-same s (map.remove s.offers (offer_key p page target)) key right (w.offers key right (retained s.offers (λ j. not (same offer_order (offer_key p page target) j)) key right h).1);
  few = λ q. let a = len-retain s.offers (λ j. not (same offer_order (offer_key p page target) j)) (λ key. key.offerer == q) in let b = w.few q in omega (arith, a, b);
}

-- ---- A slot joins a group

module _ (S : Spaces) (giver slot : Slot) (g : Cell) (right : Bool) (at : map.get S giver ≡ Some g) (none : map.get S slot ≡ None) (user : IsUserPage slot.page) (cells : AreCells S) where
  abbrev group : Set slot_order
  group = g.holders

  abbrev wider : Set slot_order
  wider = set.insert group slot

  abbrev widened : Slot → Cell → Cell
  widened q d = if set.contains group q then with_holders d wider else d

  abbrev new_cell : Cell
  new_cell = record { write = right; may = right; accessed = false; dirty = false; bytes = g.bytes; holders = wider }

  abbrev joined_spaces : Spaces
  joined_spaces = join_in S g slot right

  get-slot : map.get joined_spaces slot ≡ Some new_cell
  get-slot = get-inserted (set_holders S group wider) slot new_cell

  get-other : (q : Slot) → q ≢ slot → map.get joined_spaces q ≡ option_map (widened q) (map.get S q)
  get-other q n = get-inserted_other (set_holders S group wider) slot new_cell q n ∙ get-map_values slot_order widened S q

  apart : (q : Slot) (d : Cell) → map.get S q ≡ Some d → q ≢ slot
  apart q d h e = let x : Some d ≡ None = sym h ∙ ap (map.get S) e ∙ none in cc

  -- a slot of the group, in the group that is wider by one
  get-inside : (q : Slot) (d : Cell) → map.get S q ≡ Some d → set.contains group q ≡ true → map.get joined_spaces q ≡ Some (with_holders d wider)
  get-inside q d h inside = get-other q (apart q d h) ∙ ap (option_map (widened q)) h ∙ ap (λ b. Some (if b then with_holders d wider else d)) inside

  get-outside : (q : Slot) (d : Cell) → map.get S q ≡ Some d → set.contains group q ≡ false → map.get joined_spaces q ≡ Some d
  get-outside q d h outside = get-other q (apart q d h) ∙ ap (option_map (widened q)) h ∙ ap (λ b. Some (if b then with_holders d wider else d)) outside

  -- each slot of the wider group has the group's bytes, and the wider group
  alike_wider : (other : Slot) → set.contains wider other ≡ true → (f : Cell) × (map.get joined_spaces other ≡ Some f) × (f.holders ≡ wider) × (f.bytes ≡ g.bytes)
  alike_wider other h = elim (or_cases (same slot_order other slot) (set.contains group other) (sym (contains-insert group slot other) ∙ h)) [
    | inl is ↦ (new_cell, ap (map.get joined_spaces) (same-true slot_order other slot is) ∙ get-slot, refl, refl)
    | inr inside ↦ (let o = (cells giver g at).alike other inside in (with_holders o.0 wider, get-inside other o.0 o.1 inside, refl, o.3))
  ]

  slot_cell : IsCellAt joined_spaces slot new_cell
  slot_cell = record {
    user = user;
    long = (cells giver g at).long;
    small = (cells giver g at).small;
    write_may = λ h. h;
    dirty_accessed = λ h. h;
    own = contains-insert group slot slot ∙ ap (λ b. b || set.contains group slot) (same_itself slot_order slot);
    alike = alike_wider;
  }

  inside_cell : (q : Slot) (d : Cell) → map.get S q ≡ Some d → set.contains group q ≡ true → IsCellAt joined_spaces q (with_holders d wider)
  inside_cell q d h inside =
      let o = (cells giver g at).alike q inside in
      let same_bytes : d.bytes ≡ g.bytes = ap (λ (x : Cell). x.bytes) (same_Some d o.0 (sym h ∙ o.1)) ∙ o.3 in
      cell-kept joined_spaces q d wider (cells q d h)
      (contains-insert group slot q ∙ or_right (same slot_order q slot) (set.contains group q) inside)
      (λ other k. let f = alike_wider other k in (f.0, f.1, f.2, f.3 ∙ sym same_bytes))

  -- a slot that shares its group with one outside the group is outside too
  outside_too : (q other : Slot) (d o : Cell) → map.get S q ≡ Some d → map.get S other ≡ Some o → o.holders ≡ d.holders → set.contains group q ≡ false → set.contains group other ≡ false
  outside_too q other d o at_q at_other shared outside = false_from_ne_true (set.contains group other) (λ is.
      let x = (cells giver g at).alike other is in
      let same_group : d.holders ≡ group = sym shared ∙ ap (λ (x : Cell). x.holders) (same_Some o x.0 (sym at_other ∙ x.1)) ∙ x.2 in
      let own : set.contains group q ≡ true = ap (λ (h : Set slot_order). set.contains h q) (sym same_group) ∙ (cells q d at_q).own in
      cc)

  outside_cell : (q : Slot) (d : Cell) → map.get S q ≡ Some d → set.contains group q ≡ false → IsCellAt joined_spaces q d
  outside_cell q d h outside =
      let was = cells q d h in
      cell-kept joined_spaces q d d.holders was was.own (λ other k.
      let o = was.alike other k in
      (o.0, get-outside other o.0 o.1 (outside_too q other d o.0 h o.1 o.2 outside), o.2, o.3))

  -- what stands at a slot that did not join was there
  joined-was : (q : Slot) (e : Cell) → q ≢ slot → map.get joined_spaces q ≡ Some e → (d : Cell) × (map.get S q ≡ Some d)
  joined-was q e n h =
      let d = from_map (widened q) (map.get S q) e (sym (get-other q n) ∙ h) in
      (d.0, d.1)

  old_cell : (q : Slot) (d e : Cell) → map.get S q ≡ Some d → map.get joined_spaces q ≡ Some e → IsCellAt joined_spaces q e
  old_cell q d e h found = by (set.contains group q) refl
    where
      by : (b : Bool) → set.contains group q ≡ b → IsCellAt joined_spaces q e
      by true is = subst (IsCellAt joined_spaces q) (same_Some (with_holders d wider) e (sym (get-inside q d h is) ∙ found)) (inside_cell q d h is)
      by false is = subst (IsCellAt joined_spaces q) (same_Some d e (sym (get-outside q d h is) ∙ found)) (outside_cell q d h is)

  -- where a slot joins a group, all cells stay well formed
  cells-joined : AreCells joined_spaces
  cells-joined q e found = elim (same_cases slot_order q slot) [
    | inl is ↦ subst (λ (x : Slot). IsCellAt joined_spaces x e) (sym is.0) (subst (IsCellAt joined_spaces slot) (same_Some new_cell e (sym get-slot ∙ ap (map.get joined_spaces) (sym is.0) ∙ found)) slot_cell)
    | inr other ↦ (let d = joined-was q e other.0 found in old_cell q d.0 e d.1 found)
  ]

  -- what was mapped still is, with its right
  joined-keeps : (q : Slot) (d : Cell) → map.get S q ≡ Some d → (e : Cell) × (map.get joined_spaces q ≡ Some e) × (e.may ≡ d.may)
  joined-keeps q d h = by (set.contains group q) refl
    where
      by : (b : Bool) → set.contains group q ≡ b → (e : Cell) × (map.get joined_spaces q ≡ Some e) × (e.may ≡ d.may)
      by true is = (with_holders d wider, get-inside q d h is, refl)
      by false is = (d, get-outside q d h is, refl)

-- an offered slot is mapped
pub giver_mapped : (s : State) (p giver giver_page : ℕ) → IsWellFormed s → map.contains_key s.offers (offer_key giver giver_page p) ≡ true
    → (g : Cell) × (map.get s.spaces (at_page giver giver_page) ≡ Some g)
giver_mapped s p giver giver_page w there =
    let r = some_value (map.get s.offers (offer_key giver giver_page p)) there in
    let o = (w.offers (offer_key giver giver_page p) r.0 r.1).offered in
    (o.0, o.1)

-- and its page is one of the user range
-- a mapped slot lies in the user range
pub mapped_user : (s : State) (slot : Slot) → IsWellFormed s → map.contains_key s.spaces slot ≡ true → IsUserPage slot.page
mapped_user s slot w mapped = by (map.get s.spaces slot) refl mapped
  where
    by : (x : Option Cell) → map.get s.spaces slot ≡ x → is_some x ≡ true → IsUserPage slot.page
    by None is h = cc
    by (Some g) is h = (w.cells slot g is).user

-- the pages of an access, where they are mapped
pub touched_user : (s : State) (p address : ℕ) (size : Size) → IsWellFormed s → EachTouched address size (IsThere s.spaces p) → EachTouched address size IsUserPage
touched_user s p address size w there = grind (arith, mapped_user)

module _ (s : State) (p giver giver_page page : ℕ) (right : Bool) (g : Cell) (at : map.get s.spaces (at_page giver giver_page) ≡ Some g) (w : IsWellFormed s) (live : is_live s p ≡ true)
    (user : IsUserPage page) (none : map.get s.spaces (at_page p page) ≡ None) (has_room : nat_lt (room s p) (need s.spaces p page) ≡ false) where
  abbrev after_join : Spaces
  after_join = joined s.spaces (at_page giver giver_page) (at_page p page) right

  join_is : join_in s.spaces g (at_page p page) right ≡ after_join
  join_is = ap (λ (x : Option Cell). join_in s.spaces (unwrap_or x (fresh (at_page giver giver_page) true)) (at_page p page) right) (sym at)

  rooms-joined : (q : ℕ) → is_live s q ≡ true → cost after_join q + given s.book q ≤ quota_of s.book q
  rooms-joined q h = grind (arith, cases_eq, cost-joined_other, cost-joined, not_less)

  owners-joined : (q : Slot) (e : Cell) → map.get (join_in s.spaces g (at_page p page) right) q ≡ Some e → is_live s q.pid ≡ true
  owners-joined q e h = grind (arith, same_cases, joined-was)

  well_formed-joined : IsWellFormed (record s { spaces = joined s.spaces (at_page giver giver_page) (at_page p page) right })
  well_formed-joined =
      subst (λ (T : Spaces). IsWellFormed (record s { spaces = T })) join_is
      (with-spaces s (join_in s.spaces g (at_page p page) right) w
      (λ q h. subst (λ (T : Spaces). cost T q + given s.book q ≤ quota_of s.book q) (sym join_is) (rooms-joined q h))
      owners-joined
      (cells-joined s.spaces (at_page giver giver_page) (at_page p page) g right at none user w.cells)
      (joined-keeps s.spaces (at_page giver giver_page) (at_page p page) g right at none user w.cells))

-- an accept that is not refused
pub well_formed-accept : (s : State) (p giver giver_page page : ℕ) → IsWellFormed s → is_live s p ≡ true → accept_refusal s p giver giver_page page ≡ None → IsWellFormed (after_accept s p giver giver_page page)
well_formed-accept s p giver giver_page page w live allowed =
    let may = may_accept s p giver giver_page page allowed in
    let g = giver_mapped s p giver giver_page w may.there in
    well_formed-joined (after_withdraw s giver giver_page p) p giver giver_page page (offered s giver giver_page p) g.0 g.1 (well_formed-withdraw s giver giver_page p w) live (user_page page may.user) may.none
    (ap (nat_lt (room s p)) (sym (extra_new s p page (ap is_some may.none))) ∙ may.room)
