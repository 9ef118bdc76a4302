-- A set of processes that has nothing in common with others stays so, and others leave what it has.
use Rattle.authority_laws.proofs.Prelude.{◌≡◌, ◌≢◌, ℕ, Bool, true, false, List, [], ◌∷◌, refl, sym, ap, ◌∙◌, Option, Some, None, is_some, unwrap_or, inl, inr, arith, slice_index, option_map, All, ext_get_or, All-head, All-tail, same_Some, Set, same_set, Slot, slot_order, Cell, at_page, slot_at, OfferKey, offer_key, State, is_live, IsWellFormed, flags_of, shares, byte_in, IsJoin, IsConfined, KeepsWithin, Along, members_at_end, IsAsBefore, RunsKeepBorders, next, end_of, Event, kept-next, LeavesAll, leaves_all}
use Rattle.authority_laws.proofs.Consent.{sharing_by_consent, offers_by_offerer}
use Rattle.authority_laws.proofs.SharingStays.{makes_child, next_live}
use Rattle.page_words.specs.FiniteMap as map
use Rattle.page_words.specs.FiniteSet as set
use Rattle.kernel_calls.specs.declared.calls.Call.TheVariants as call

-- ---- Slots that share a page

-- a slot that shares its page is mapped
pub shared_cell : (s : State) (slot other : Slot) → shares s slot other ≡ true
    → (c : Cell) × (map.get s.spaces slot ≡ Some c) × (set.contains c.holders other ≡ true)
shared_cell s slot other = by (map.get s.spaces slot) refl
  where
    by : (x : Option Cell) → map.get s.spaces slot ≡ x
        → unwrap_or (option_map (λ (c : Cell). set.contains c.holders other) x) false ≡ true
        → (c : Cell) × (map.get s.spaces slot ≡ Some c) × (set.contains c.holders other ≡ true)
    by None at h = cc
    by (Some c) at h = (c, at, h)

pub shares_by : (s : State) (slot other : Slot) (c : Cell) → map.get s.spaces slot ≡ Some c
    → set.contains c.holders other ≡ true → shares s slot other ≡ true
shares_by s slot other c at h = grind arith

-- both slots' processes are live
pub shared_live : (s : State) (slot other : Slot) → IsWellFormed s → shares s slot other ≡ true
    → (is_live s slot.pid ≡ true) × (is_live s other.pid ≡ true)
shared_live s slot other w h =
    let c = shared_cell s slot other h in
    let o = (w.cells slot c.0 c.1).alike other c.2 in
    (w.owners slot c.0 c.1, w.owners other o.0 o.1)

-- a slot in the group of another has that one in its own
pub back : (s : State) (slot other : Slot) → IsWellFormed s → shares s slot other ≡ true → shares s other slot ≡ true
back s slot other w h =
    let c = shared_cell s slot other h in
    let was = w.cells slot c.0 c.1 in
    let o = was.alike other c.2 in
    shares_by s other slot o.0 o.1 (ap (λ (g : Set slot_order). set.contains g slot) o.2 ∙ was.own)

-- an offer's processes are both live
offer_live : (s : State) (key : OfferKey) (right : Bool) → IsWellFormed s → map.get s.offers key ≡ Some right
    → (is_live s key.offerer ≡ true) × (is_live s key.target ≡ true)
offer_live s key right w at = grind arith

-- an offer makes nobody and ends nobody
offer_keeps : (s : State) (e : Event) (page target p : ℕ) (right : Bool) → e.call ≡ call.Offer page target right
    → is_live (next s e) p ≡ true → is_live s p ≡ true
offer_keeps s e page target p right is live = grind (arith, next_live, makes_child)

-- ---- One event: who lives on is a member afterwards where it was one

module _ (s : State) (e : Event) (C D : ℕ → Bool) (w : IsWellFormed s) (confined : IsConfined s C)
    (keeps : KeepsWithin C e) (same : (p : ℕ) → is_live s p ≡ true → is_live (next s e) p ≡ true → D p ≡ C p) where
  well : IsWellFormed (next s e)
  well = (kept-next s e w).0

  no_share : (slot other : Slot) → D slot.pid ≡ true → D other.pid ≡ false → (b : Bool)
      → shares (next s e) slot other ≡ b → b ≡ false
  no_share slot other own apart false is = refl
  no_share slot other own apart true is = absurd (elim (sharing_by_consent s e slot other w differ is) [
    | inl old ↦ grind (arith, shared_live, after)
    | inr joined ↦ elim joined [
      | inl j ↦ mine j
      | inr j ↦ theirs j
    ]
  ])
    where
      differ : slot ≢ other
      differ x = let a = ap (λ (r : Slot). D r.pid) x in cc

      after : (is_live (next s e) slot.pid ≡ true) × (is_live (next s e) other.pid ≡ true)
      after = shared_live (next s e) slot other well is

      mine : IsJoin s e slot other → ⊥
      mine j =
          grind (arith, (shares_by s j.giver other j.cell j.given j.among), shared_live)

      theirs : IsJoin s e other slot → ⊥
      theirs j = grind (arith, shared_live, back)

  next_offers : (key : OfferKey) (right : Bool) → map.get (next s e).offers key ≡ Some right → D key.offerer ≡ true
      → D key.target ≡ true
  next_offers key right at own = elim (offers_by_offerer s e key right at) [
    | inl old ↦ (
        let before = offer_live s key right w old in
        same key.target before.1 after.1 ∙ confined.offers_none key right old
        (sym (same key.offerer before.0 after.0) ∙ own))
    | inr new ↦ grind (arith, offer_keeps, after)
  ]
    where
      after : (is_live (next s e) key.offerer ≡ true) × (is_live (next s e) key.target ≡ true)
      after = offer_live (next s e) key right well at

  pub next_confined : IsConfined (next s e) D
  next_confined = record {
    shares_none = λ slot other own apart. no_share slot other own apart (shares (next s e) slot other) refl;
    offers_none = next_offers;
  }

-- ---- Runs

-- a set of numbers
pub numbers_confined : (s : State) (e : Event) (C : ℕ → Bool) → IsWellFormed s → IsConfined s C → KeepsWithin C e
    → IsConfined (next s e) C
numbers_confined s e C w confined keeps = next_confined s e C C w confined keeps (λ p before after. refl)

runs_stay_confined : (s : State) (events : List Event) (C : ℕ → Bool) → IsWellFormed s → IsConfined s C
    → All (KeepsWithin C) events → IsConfined (end_of s events) C
runs_stay_confined s [] C w confined keep = confined
runs_stay_confined s (e ∷ events) C w confined keep =
    runs_stay_confined (next s e) events C (kept-next s e w).0
    (numbers_confined s e C w confined (All-head (KeepsWithin C) e events keep))
    (All-tail (KeepsWithin C) e events keep)

-- a set with the children of its members
families_stay_confined : (s : State) (events : List Event) (C : ℕ → Bool) → IsWellFormed s → IsConfined s C
    → Along (λ _. KeepsWithin) s C events → IsConfined (end_of s events) (members_at_end s C events)
families_stay_confined s [] C w confined keep = confined
families_stay_confined s (e ∷ events) C w confined keep =
    families_stay_confined (next s e) events _ (kept-next s e w).0 (grind (arith, next_confined)) keep.1

-- ---- What an outsider's event leaves of a member

module _ (s : State) (e : Event) (C : ℕ → Bool) (p : ℕ) (w : IsWellFormed s) (confined : IsConfined s C)
    (member : C p ≡ true) (live : is_live s p ≡ true) (outsider : C e.pid ≡ false) where
  apart_from : p ≢ e.pid
  apart_from x = let a = ap C x in cc

  u : LeavesAll s (next s e) e p
  u = leaves_all s e p w live apart_from

  still : IsConfined (next s e) C
  still = numbers_confined s e C w confined (λ h. absurd (let o = outsider in cc))

  next_well : IsWellFormed (next s e)
  next_well = (kept-next s e w).0

  bytes_same : (page place : ℕ) → byte_in (next s e) (at_page p page) place ≡ byte_in s (at_page p page) place
  bytes_same page place = elim (u.bytes page place) [
    | inl same_byte ↦ same_byte
    | inr into ↦ absurd (
        let t = back s (slot_at e.pid into.byte) (at_page p page) w
        (shares_by s (slot_at e.pid into.byte) (at_page p page) into.own into.through into.shared) in
        let f = confined.shares_none (at_page p page) (slot_at e.pid into.byte) member outsider in
        cc)
  ]

  groups_same : (page : ℕ) (other : Slot) → shares (next s e) (at_page p page) other ≡ shares s (at_page p page) other
  groups_same page other = grind (arith, still, u)

  pages_same : (page : ℕ) → map.get (next s e).spaces (at_page p page) ≡ map.get s.spaces (at_page p page)
  pages_same page = by _ _ refl refl (u.flags page)
    where
      by : (x y : Option Cell) → map.get s.spaces (at_page p page) ≡ x → map.get (next s e).spaces (at_page p page) ≡ y
          → option_map flags_of y ≡ option_map flags_of x → y ≡ x
      by None None a b h = refl
      by None (Some d) a b h = cc
      by (Some c) None a b h = cc
      by (Some c) (Some d) a b h = grind (arith, bytes, holders)
        where
          flags : flags_of d ≡ flags_of c
          flags = same_Some (flags_of d) (flags_of c) h

          byte : (place : ℕ) → slice_index d.bytes place ≡ slice_index c.bytes place
          byte place = grind (arith, (bytes_same page place))

          bytes : d.bytes ≡ c.bytes
          bytes = ext_get_or 0 d.bytes c.bytes ((next_well.cells (at_page p page) d b).long
              ∙ sym (w.cells (at_page p page) c a).long) (λ place l. byte place)

          holders : d.holders ≡ c.holders
          holders = same_set d.holders c.holders (λ other.
              sym (grind arith)
              ∙ groups_same page other
              ∙ ap (λ (x : Option Cell). unwrap_or (option_map (λ (k : Cell). set.contains k.holders other) x) false) a)

  offers_same : (page target : ℕ) → map.get (next s e).offers (offer_key p page target) ≡ map.get s.offers
      (offer_key p page target)
  offers_same page target = grind (arith, u)

  pub one_leaves : IsAsBefore s (next s e) p
  one_leaves = record { member = u.member; pages = pages_same; offers = offers_same }

outsiders_leave_members : (s : State) (events : List Event) (C : ℕ → Bool) (p : ℕ) → IsWellFormed s → IsConfined s C
    → C p ≡ true → is_live s p ≡ true → All (λ (e : Event). C e.pid ≡ false) events → IsAsBefore s (end_of s events) p
outsiders_leave_members s [] C p w confined member live others = grind arith
outsiders_leave_members s (e ∷ events) C p w confined member live others =
    let outsider = All-head (λ (e : Event). C e.pid ≡ false) e events others in
    let first = one_leaves s e C p w confined member live outsider in
    let rest = outsiders_leave_members (next s e) events C p (kept-next s e w).0
    (numbers_confined s e C w confined (λ h. absurd (let o = outsider in cc))) member
    (ap is_some first.member ∙ live) (All-tail (λ (e : Event). C e.pid ≡ false) e events others) in
    record {
      member = rest.member ∙ first.member;
      pages = λ page. rest.pages page ∙ first.pages page;
      offers = λ page target. rest.offers page target ∙ first.offers page target;
    }

pub runs_keep_borders : RunsKeepBorders
runs_keep_borders s events w = record {
  numbers = λ C confined keep. runs_stay_confined s events C w confined keep;
  families = λ C confined keep. families_stay_confined s events C w confined keep;
  untouched = λ C p confined member live others. outsiders_leave_members s events C p w confined member live others;
}
