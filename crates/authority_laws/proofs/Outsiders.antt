-- The event of an outsider through no channel leaves what the members of a set see.
use Rattle.authority_laws.proofs.Prelude.{◌≡◌, ◌≢◌, ℕ, ◌||◌, Bool, true, false, refl, sym, ap, subst, ◌∙◌, Option, Some, None, is_some, unwrap_or, inl, inr, arith, ◌⊎◌, option_map, ext_get_or, same_set, some_value, no_value, same_cases, Slot, slot_order, Cell, is_of, at_page, slot_at, given, number_of_children, given-none, number-none, OfferKey, offer_key, State, is_live, IsWellFormed, no_page, parents_in, flags_of, shown_of, shown_at, flags_at, shares, is_child_of, is_offered, IsJoin, IsLeave, IsStoreInto, Settles, Sees, LooksSame, IsUnseen, IsQuietCall, OutsidersUnseen, answer, next, completes, Call, Event, eqb-true, or-true, or_parts, maker_of, next-stays, kept-next, next_stays, leaves_all}
use Rattle.authority_laws.proofs.Children.{places_stay}
use Rattle.authority_laws.proofs.Confined.{shares_by, back}
use Rattle.authority_laws.proofs.Consent.{sharing_by_consent, offers_by_offerer}
use Rattle.authority_laws.proofs.GivenUp.{offers_stay}
use Rattle.authority_laws.proofs.SharingStays.{next_leaves, sharing_stays, seen_mapped}
use Rattle.page_words.specs.FiniteMap as map
use Rattle.page_words.specs.FiniteSet as set
use Rattle.kernel_calls.specs.declared.calls.Call.TheVariants as call
use Rattle.kernel_calls.specs.declared.calls.Reply.TheVariants as reply

module _ (s : State) (e : Event) (Q : ℕ → Bool) (w : IsWellFormed s) (out : Q e.pid ≡ false)
    (done : completes (answer s e) ≡ true) (quiet : IsQuietCall s Q e.pid e.call) where
  quiet_as : (c : Call) → e.call ≡ c → IsQuietCall s Q e.pid c
  quiet_as c is = subst (IsQuietCall s Q e.pid) is quiet

  well : IsWellFormed (next s e)
  well = (kept-next s e w).0

  not_out : (p : ℕ) → Q p ≡ true → p ≢ e.pid
  not_out p h x = let a = ap Q x in let o = out in cc

  -- no member's number is a new child's
  no_birth : (q : ℕ) → Q q ≡ true → answer s e ≡ reply.Child q → ⊥
  no_birth q member told = grind (arith, (maker_of s e q told), quiet_as)

  -- a member's place in the book stays
  place_same : (q : ℕ) → Q q ≡ true → map.get s.book q ≡ map.get (next s e).book q
  place_same q member = grind (arith, places_stay, no_birth, not_out)

  lives : (q : ℕ) → Q q ≡ true → is_live s q ≡ is_live (next s e) q
  lives q member = ap is_some (place_same q member)

  -- and so does what it has given, to its children
  abbrev GivesTheSame : ℕ → Type 0
  GivesTheSame q = (given s.book q ≡ given (next s e).book q)
      × (number_of_children s.book q ≡ number_of_children (next s e).book q)

  gives_same : (q : ℕ) → Q q ≡ true → GivesTheSame q
  gives_same q member = by (is_live s q) refl
    where
      by : (b : Bool) → is_live s q ≡ b → GivesTheSame q
      by true live = let u = leaves_all s e q w live (not_out q member) in elim u.given [
        | inl same_given ↦ (sym same_given.0, sym same_given.1)
        | inr exits ↦ absurd (
            let no = or_parts (is_child_of s q e.pid) (is_offered s e.pid (at_page q 0))
            ((quiet_as call.Exit exits.1).0 q 0 member) in
            let f = no.0 in
            let x = exits.0 in
            cc)
      ]
      by false dead =
          let none = no_value (map.get s.book q) dead in
          let none_next = no_value (map.get (next s e).book q) (sym (lives q member) ∙ dead) in (
            given-none s.book q none (parents_in s w)
                ∙ sym (given-none (next s e).book q none_next (parents_in (next s e) well)),
            number-none s.book q none (parents_in s w)
                ∙ sym (number-none (next s e).book q none_next (parents_in (next s e) well)),
          )

  -- a member's slots keep their flags
  flags_same : (slot : Slot) → Q slot.pid ≡ true → flags_at s slot ≡ flags_at (next s e) slot
  flags_same slot member = by (is_live s slot.pid) refl
    where
      by : (b : Bool) → is_live s slot.pid ≡ b → flags_at s slot ≡ flags_at (next s e) slot
      by true live = sym ((leaves_all s e slot.pid w live (not_out slot.pid member)).flags slot.page)
      by false dead = ap (option_map flags_of) (no_page s slot.pid w dead slot.page
          ∙ sym (no_page (next s e) slot.pid well (sym (lives slot.pid member) ∙ dead) slot.page))

  -- what is seen leaves no group, and nothing leaves its
  no_leave : (slot other : Slot) → Sees s Q slot → shares s other slot ≡ true → IsLeave e other → ⊥
  no_leave slot other seen shared leave =
      let here : at_page e.pid other.page ≡ other = (λ i. record { pid = sym leave.own i; page = other.page }) in
      elim leave.how [
        | inl unmap ↦ subst (IsUnseen s Q) here (quiet_as (call.Unmap other.page) unmap) slot shared seen
        | inr exit ↦ subst (IsUnseen s Q) here ((quiet_as call.Exit exit).1 other.page) slot shared seen
      ]

  no_join : (slot other : Slot) → Sees s Q slot → IsJoin s e other slot → ⊥
  no_join slot other seen j = (quiet_as (call.Accept j.giver.pid j.giver.page other.page) j.call).1 slot
      (shares_by s j.giver slot j.cell j.given j.among) seen

  no_store : (slot : Slot) (place : ℕ) → Sees s Q slot → IsStoreInto s (next s e) e slot place → ⊥
  no_store slot place seen into =
      quiet_as (call.Store into.address into.size into.value) into.store into.byte into.covered.0 into.covered.1 slot
      (shares_by s (slot_at e.pid into.byte) slot into.own into.through into.shared) seen

  module _ (slot : Slot) (seen : Sees s Q slot) (c : Cell) (at : map.get s.spaces slot ≡ Some c) where
    self : shares s slot slot ≡ true
    self = shares_by s slot slot c at (w.cells slot c at).own

    kept : (d : Cell) × (map.get (next s e).spaces slot ≡ Some d)
    kept = elim (next_leaves s e w slot c at) [
      | inl there ↦ some_value (map.get (next s e).spaces slot) there
      | inr leave ↦ absurd (no_leave slot slot seen self leave)
    ]

    groups_same : (other : Slot) → shares s slot other ≡ shares (next s e) slot other
    groups_same other = by (shares s slot other) (shares (next s e) slot other) refl refl
      where
        by : (a b : Bool) → shares s slot other ≡ a → shares (next s e) slot other ≡ b → a ≡ b
        by true true before after = refl
        by false false before after = refl
        by true false before after =
            grind (arith, (sharing_stays s e slot other w before), (back s slot other w before), no_leave, self)
        by false true before after = elim (same_cases slot_order slot other) [
          | inl same_slot ↦ sym before ∙ ap (shares s slot) (sym same_slot.0) ∙ self
          | inr differ ↦ elim (sharing_by_consent s e slot other w differ.0 after) [
            | inl old ↦ sym before ∙ old
            | inr joined ↦ elim joined [
              | inl j ↦ absurd (let n = j.new in let x : Some c ≡ None = sym at ∙ n in cc)
              | inr j ↦ absurd (no_join slot other seen j)
            ]
          ]
        ]

    shown_same : shown_at s slot ≡ shown_at (next s e) slot
    shown_same = ap (option_map shown_of) at ∙ (λ i. Some (record { bytes = bytes i; holders = set.len (holders i) }))
        ∙ sym (ap (option_map shown_of) kept.1)
      where
        bytes : c.bytes ≡ kept.0.bytes
        bytes = ext_get_or 0 c.bytes kept.0.bytes ((w.cells slot c at).long ∙ sym (well.cells slot kept.0 kept.1).long)
            (λ place l. elim ((next_stays s e w slot slot c kept.0 (inr (ap is_some at, ap is_some kept.1)) at
            kept.1).bytes place) [
              | inl same_byte ↦ sym same_byte
              | inr into ↦ absurd (no_store slot place seen into)
            ])

        holders : c.holders ≡ kept.0.holders
        holders = same_set c.holders kept.0.holders (λ other.
            sym (ap (λ (x : Option Cell). unwrap_or (option_map (λ (k : Cell). set.contains k.holders other) x) false)
            at)
            ∙ groups_same other
            ∙ ap (λ (x : Option Cell). unwrap_or (option_map (λ (k : Cell). set.contains k.holders other) x) false)
            kept.1)

  -- what is seen and not mapped is a member's own, and stays so
  still_none : (slot : Slot) → Sees s Q slot → map.get s.spaces slot ≡ None → map.get (next s e).spaces slot ≡ None
  still_none slot seen none = elim (seen_mapped s seen.0 slot w seen.2) [
    | inl own ↦ nothing (map.get (next s e).spaces slot)
        (sym (flags_same slot (ap Q (eqb-true slot.pid seen.0 own) ∙ seen.1)) ∙ ap (option_map flags_of) none)
    | inr there ↦ absurd (let x : Some there.0 ≡ None = sym there.1 ∙ none in cc)
  ]
    where
      nothing : (x : Option Cell) → option_map flags_of x ≡ None → x ≡ None
      nothing x h = grind arith

  pages_same : (slot : Slot) → Sees s Q slot → shown_at s slot ≡ shown_at (next s e) slot
  pages_same slot seen = by (map.get s.spaces slot) refl
    where
      by : (x : Option Cell) → map.get s.spaces slot ≡ x → shown_at s slot ≡ shown_at (next s e) slot
      by None none = ap (option_map shown_of) (none ∙ sym (still_none slot seen none))
      by (Some c) at = shown_same slot seen c at

  same_page_same : (slot other : Slot) → Sees s Q slot → shares s slot other ≡ shares (next s e) slot other
  same_page_same slot other seen = by (map.get s.spaces slot) refl
    where
      by : (x : Option Cell) → map.get s.spaces slot ≡ x → shares s slot other ≡ shares (next s e) slot other
      by None none = grind (arith, still_none)
      by (Some c) at = groups_same slot seen c at other

  -- an offer by a member or to one
  abbrev Theirs : OfferKey → Type 0
  Theirs key = (Q key.offerer ≡ true) ⊎ (Q key.target ≡ true)

  neither : (key : OfferKey) → Theirs key → Q key.offerer ≡ false → Q key.target ≡ false → ⊥
  neither key h a b = grind arith

  no_new : (key : OfferKey) (right : Bool) → Theirs key
      → (e.pid ≡ key.offerer) × (e.call ≡ call.Offer key.page key.target right) → ⊥
  no_new key right theirs new = grind (arith, neither, quiet_as)

  no_settled : (key : OfferKey) → Theirs key → Settles e key → ⊥
  no_settled key theirs (inl withdrawn) = grind (arith, neither, quiet_as)
  no_settled key theirs (inr taken) = grind (arith, neither, quiet_as)

  no_left : (key : OfferKey) (right : Bool) → Theirs key → map.get s.offers key ≡ Some right
      → IsLeave e (at_page key.offerer key.page) → ⊥
  no_left key right (inl by) at leave = not_out key.offerer by leave.own
  no_left key right (inr to) at leave =
      let o = (w.offers key right at).offered in
      let slot : Slot = at_page key.offerer key.page in
      let seen : Sees s Q slot = (
        key.target,
        to,
        ap (λ b. is_of key.target slot || b) (ap is_some at)
            ∙ or-true (is_of key.target slot),
      ) in
      no_leave slot slot seen (shares_by s slot slot o.0 o.1 (w.cells slot o.0 o.1).own) leave

  -- and no exit ends one
  no_exit : (key : OfferKey) (right : Bool) → Theirs key → map.get s.offers key ≡ Some right
      → (key.target ≡ e.pid) × (e.call ≡ call.Exit) → ⊥
  no_exit key right (inr to) at exit = not_out key.target to exit.0
  no_exit key right (inl by) at exit =
      let here : key ≡ offer_key key.offerer key.page e.pid =
      (λ i. record { offerer = key.offerer; page = key.page; target = exit.0 i }) in
      let there : is_offered s e.pid (at_page key.offerer key.page) ≡ true =
      ap (map.contains_key s.offers) (sym here) ∙ ap is_some at in
      let no = or_parts (is_child_of s key.offerer e.pid) (is_offered s e.pid (at_page key.offerer key.page))
      ((quiet_as call.Exit exit.1).0 key.offerer key.page by) in
      let f = no.1 in
      cc

  offers_same : (key : OfferKey) → Theirs key → map.get s.offers key ≡ map.get (next s e).offers key
  offers_same key theirs = by (map.get s.offers key) (map.get (next s e).offers key) refl refl
    where
      by : (x y : Option Bool) → map.get s.offers key ≡ x → map.get (next s e).offers key ≡ y → x ≡ y
      by None None before after = refl
      by None (Some right) before after = grind (arith, offers_by_offerer, no_new)
      by (Some right) y before after = grind (arith, (offers_stay s e key right before), no_settled, no_left, no_exit)

  done_unseen : LooksSame s (next s e) Q
  done_unseen = record {
    standing = grind (arith, lives, place_same, gives_same);
    families = grind (arith, place_same);
    flags = flags_same;
    offers = offers_same;
    pages = pages_same;
    same_page = λ slot other v o. same_page_same slot other v;
  }

pub looks_refl : (s : State) (Q : ℕ → Bool) → LooksSame s s Q
looks_refl s Q = grind arith

pub outsiders_unseen : OutsidersUnseen
outsiders_unseen s e Q w out quiet = by (completes (answer s e)) refl
  where
    by : (b : Bool) → completes (answer s e) ≡ b → LooksSame s (next s e) Q
    by true h = done_unseen s e Q w out h (quiet out h)
    by false h = subst (λ t. LooksSame s t Q) (sym (next-stays s e h)) (looks_refl s Q)
