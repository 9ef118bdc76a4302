-- How sharing, offers and rights spread: by consent.
use Rattle.authority_laws.proofs.Prelude.{◌≡◌, ◌≢◌, ℕ, ◌+◌, ◌||◌, Bool, true, false, List, [], ◌∷◌, refl, sym, ap, subst, ◌∙◌, Option, Some, None, unwrap_or, inl, inr, arith, ◌⊎◌, if◌then◌else◌, IsTrue, option_map, cases_eq, same_Some, offset_number, Set, get-insert, get-map_values, contains-insert, contains-retain, some_value, same_cases, same_apart, Slot, slot_order, Cell, Spaces, fresh, cell_or_fresh, with_bytes, with_holders, set_bytes, set_holders, write_at, without, is_slot, is_of, at_page, slot_at, accessed, stored, with_page, with_pages, all_accessed, all_stored, joined, copied, copied-own, copied-other, left, get-without, OfferKey, offer_key, State, is_live, accept_refusal, offered, after_unmap, after_accept, after_exit, IsWellFormed, lone, retained, get-inserted, get-inserted_other, MayAccept, may_accept, flags_of, flags_at, shares, IsJoin, SharingByConsent, OffersByOfferer, answer, answer_of, after, next, completes, Call, Event, in_lone, by_next, next-stays, next-goes, not-refused, kept_shares, caller_live, get_joined, joined_kept}
use Rattle.page_words.specs.FiniteMap as map
use Rattle.page_words.specs.FiniteSet as set
use Rattle.kernel_calls.specs.declared.calls.Call.TheVariants as call

-- ---- Sharing

abbrev shares_in : Spaces → Slot → Slot → Bool
shares_in S slot other = unwrap_or (option_map (λ (c : Cell). set.contains c.holders other) (map.get S slot)) false

-- who shares a page in some spaces shared it in others
abbrev NoNewShares : Spaces → Spaces → Type 0
NoNewShares S T = (slot other : Slot) → slot ≢ other → shares_in T slot other ≡ true → shares_in S slot other ≡ true

through : (S T U : Spaces) → NoNewShares S T → NoNewShares T U → NoNewShares S U
through S T U a b slot other d h = a slot other d (b slot other d h)

-- where a cell is put
insert_shares : (S : Spaces) (at : Slot) (c : Cell)
    → ((other : Slot) → at ≢ other → set.contains c.holders other ≡ true → shares_in S at other ≡ true)
    → NoNewShares S (map.insert S at c)
insert_shares S at c own slot other d h = grind (arith, same_cases, get-inserted, get-inserted_other)

-- a group of one is shared by nobody
lone_shares : (S : Spaces) (at other : Slot) → at ≢ other → set.contains (lone at) other ≡ true
    → shares_in S at other ≡ true
lone_shares S at other d h = absurd (let f = in_lone at other (λ e. d (sym e)) in cc)

fresh_shares : (S : Spaces) (at : Slot) (write : Bool) → NoNewShares S (map.insert S at (fresh at write))
fresh_shares S at write = insert_shares S at (fresh at write) (lone_shares S at)

-- where a cell gets other flags
flags_shares : (S : Spaces) (at : Slot) (c : Cell) → c.holders ≡ (cell_or_fresh S at).holders
    → NoNewShares S (map.insert S at c)
flags_shares S at c group = grind (arith, insert_shares, lone_shares)

page_shares : (S : Spaces) (q page : ℕ) → NoNewShares S (with_page S q page)
page_shares S q page = grind (arith, fresh_shares)

pages_share : (S : Spaces) (q : ℕ) (pages : List ℕ) → NoNewShares S (with_pages S q pages)
pages_share S q [] = λ slot other d h. h
pages_share S q (page ∷ pages) = through S (with_page S q page) (with_pages (with_page S q page) q pages)
    (page_shares S q page) (pages_share (with_page S q page) q pages)

accessed_share : (S : Spaces) (q : ℕ) (pages : List ℕ) → NoNewShares S (all_accessed S q pages)
accessed_share S q [] = λ slot other d h. h
accessed_share S q (page ∷ pages) =
    through S (accessed S (at_page q page)) (all_accessed (accessed S (at_page q page)) q pages)
    (flags_shares S (at_page q page) (record (cell_or_fresh S (at_page q page)) { accessed = true }) refl)
    (accessed_share (accessed S (at_page q page)) q pages)

-- where cells change but for their groups
bytes_share : (S : Spaces) (group : Set slot_order) (bytes : List ℕ) (slot other : Slot)
    → shares_in (set_bytes S group bytes) slot other ≡ shares_in S slot other
bytes_share S group bytes slot other =
    ap (λ (x : Option Cell). unwrap_or (option_map (λ (c : Cell). set.contains c.holders other) x) false)
    (get-map_values slot_order (λ r c. if set.contains group r then with_bytes c bytes else c) S slot)
    ∙ by (map.get S slot)
  where
    either : (b : Bool) (c : Cell) → (if b then with_bytes c bytes else c).holders ≡ c.holders
    either b c = grind arith

    by : (x : Option Cell) → unwrap_or (option_map (λ (c : Cell). set.contains c.holders other)
        (option_map (λ (c : Cell). if set.contains group slot then with_bytes c bytes else c) x)) false ≡ unwrap_or
        (option_map (λ (c : Cell). set.contains c.holders other) x) false
    by x = grind (arith, either)

bytes_group : (S : Spaces) (group : Set slot_order) (bytes : List ℕ) (slot : Slot)
    → (cell_or_fresh (set_bytes S group bytes) slot).holders ≡ (cell_or_fresh S slot).holders
bytes_group S group bytes slot =
    ap (λ (x : Option Cell). (unwrap_or x (fresh slot true)).holders)
    (get-map_values slot_order (λ r c. if set.contains group r then with_bytes c bytes else c) S slot)
    ∙ by (map.get S slot)
  where
    either : (b : Bool) (c : Cell) → (if b then with_bytes c bytes else c).holders ≡ c.holders
    either b c = grind arith

    by : (x : Option Cell) → (unwrap_or (option_map
        (λ (c : Cell). if set.contains group slot then with_bytes c bytes else c) x) (fresh slot true)).holders
        ≡ (unwrap_or x (fresh slot true)).holders
    by x = grind (arith, either)

stored_shares : (S : Spaces) (slot : Slot) (at : ℕ) (new : List ℕ) → NoNewShares S (stored S slot at new)
stored_shares S slot at new =
    let c : Cell = cell_or_fresh S slot in
    let bytes : List ℕ = write_at c.bytes at new in
    through S (set_bytes S c.holders bytes) (stored S slot at new)
    (λ a b d h. sym (bytes_share S c.holders bytes a b) ∙ h)
    (flags_shares (set_bytes S c.holders bytes) slot (record c { bytes = bytes; accessed = true; dirty = true })
    (sym (bytes_group S c.holders bytes slot)))

all_stored_share : (S : Spaces) (q addr : ℕ) (bytes : List ℕ) → NoNewShares S (all_stored S q addr bytes)
all_stored_share S q addr [] = λ slot other d h. h
all_stored_share S q addr (byte ∷ bytes) =
    through S (stored S (slot_at q addr) (offset_number addr) (byte ∷ [])) (all_stored S q addr (byte ∷ bytes))
    (stored_shares S (slot_at q addr) (offset_number addr) (byte ∷ []))
    (all_stored_share (stored S (slot_at q addr) (offset_number addr) (byte ∷ [])) q (addr + 1) bytes)

without_shares : (S : Spaces) (gone : Slot → Bool) → NoNewShares S (without S gone)
without_shares S gone slot other d h = grind (arith, get-without, left, contains-retain)

copied_shares : (S : Spaces) (from to : ℕ) → NoNewShares S (copied S from to)
copied_shares S from to slot other d h = grind (arith, cases_eq, copied-own, copied-other, in_lone)

abbrev Consents : State → State → Event → Type 0
Consents s t e = (slot other : Slot) → slot ≢ other → shares t slot other ≡ true
    → (shares s slot other ≡ true) ⊎ (IsJoin s e slot other ⊎ IsJoin s e other slot)

quiet : (s t : State) (e : Event) → NoNewShares s.spaces t.spaces → Consents s t e
quiet s t e none slot other d h = inl (none slot other d h)

-- where an offer is accepted
module _ (s : State) (e : Event) (giver giver_page page : ℕ) (w : IsWellFormed s)
    (is : e.call ≡ call.Accept giver giver_page page) (goes : next s e ≡ after_accept s e.pid giver giver_page page)
    (allowed : accept_refusal s e.pid giver giver_page page ≡ None) where
  may : MayAccept s e.pid giver giver_page page
  may = may_accept s e.pid giver giver_page page allowed

  abbrev taken : OfferKey
  taken = offer_key giver giver_page e.pid

  abbrev new : Slot
  new = at_page e.pid page

  was_offered : (b : Bool) × (map.get s.offers taken ≡ Some b)
  was_offered = some_value (map.get s.offers taken) may.there

  abbrev with_right : Bool
  with_right = offered s giver giver_page e.pid

  right_is : with_right ≡ was_offered.0
  right_is = ap (λ (x : Option Bool). unwrap_or x false) was_offered.1

  abbrev T : Spaces
  T = joined s.spaces (at_page giver giver_page) new with_right

  given : (c : Cell) × (map.get s.spaces (at_page giver giver_page) ≡ Some c) × (IsTrue was_offered.0 → IsTrue c.may)
  given = (w.offers taken was_offered.0 was_offered.1).offered

  new_flags : flags_at (next s e) new ≡ Some (record
      { write = was_offered.0; may = was_offered.0; accessed = false; dirty = false })
  new_flags =
      let c : Cell = cell_or_fresh s.spaces (at_page giver giver_page) in
      ap (λ (t : State). flags_at t new) goes
      ∙ ap (option_map flags_of) (get-inserted (set_holders s.spaces c.holders (set.insert c.holders new)) new
      (record {
        write = with_right;
        may = with_right;
        accessed = false;
        dirty = false;
        bytes = c.bytes;
        holders =
            set.insert c.holders new;
      }))
      ∙ (λ i. Some (record { write = right_is i; may = right_is i; accessed = false; dirty = false }))

  joins : (other : Slot) → set.contains given.0.holders other ≡ true → IsJoin s e new other
  joins other among = record {
    own = refl;
    new = may.none;
    giver = at_page giver giver_page;
    right = was_offered.0;
    call = is;
    offered = was_offered.1;
    cell = given.0;
    given = given.1;
    within = given.2;
    among = among;
    gets = new_flags;
  }

  either : (a b : Bool) → (a || b) ≡ true → (a ≡ true) ⊎ (b ≡ true)
  either a b h = grind arith

  giver_is : cell_or_fresh s.spaces (at_page giver giver_page) ≡ given.0
  giver_is = ap (λ (x : Option Cell). unwrap_or x (fresh (at_page giver giver_page) true)) given.1

  accept_consents : (slot other : Slot) → slot ≢ other → shares_in T slot other ≡ true
      → (shares s slot other ≡ true) ⊎ (IsJoin s e slot other ⊎ IsJoin s e other slot)
  accept_consents slot other d h = elim (same_cases slot_order slot new) [
    | inl here ↦ inr (inl (subst (λ x. IsJoin s e x other) (sym here.0) (joins other (own here.0))))
    | inr old ↦ elim (same_cases slot_order other new) [
      | inl there ↦ by there.0 (map.get s.spaces slot) refl
          (sym (ap (λ (x : Option Cell). unwrap_or (option_map (λ (c : Cell). set.contains c.holders other) x) false)
          (get_joined s e.pid giver giver_page page with_right w given.0 given.1 slot old.0)) ∙ h)
      | inr elsewhere ↦ inl (sym (kept old.0 elsewhere.0) ∙ h)
    ]
  ]
    where
      c : Cell
      c = cell_or_fresh s.spaces (at_page giver giver_page)

      own : slot ≡ new → set.contains given.0.holders other ≡ true
      own here =
          let all : set.contains (set.insert c.holders new) other ≡ true =
          sym (ap (λ (x : Option Cell). unwrap_or (option_map (λ (c : Cell). set.contains c.holders other) x) false)
          (ap (map.get T) here ∙ get-inserted (set_holders s.spaces c.holders (set.insert c.holders new)) new
          (record {
            write = with_right;
            may = with_right;
            accessed = false;
            dirty = false;
            bytes =
                c.bytes;
            holders = set.insert c.holders new;
          }))) ∙ h in
          ap (λ (x : Cell). set.contains x.holders other) (sym giver_is)
          ∙ sym (ap (λ b. b || set.contains c.holders other) (same_apart slot_order other new (λ e. d (here ∙ sym e))))
          ∙ sym (contains-insert c.holders new other) ∙ all

      kept : slot ≢ new → other ≢ new → shares_in T slot other ≡ shares_in s.spaces slot other
      kept old_slot n = kept_shares s.spaces T slot other
          (joined_kept s e.pid giver giver_page page with_right w given.0 given.1 slot other old_slot n)

      by : other ≡ new → (x : Option Cell) → map.get s.spaces slot ≡ x
          → unwrap_or (option_map (λ (c : Cell). set.contains c.holders other)
          (option_map (λ (c : Cell). if set.contains given.0.holders slot then with_holders c
          (set.insert given.0.holders new) else c) x)) false ≡ true
          → (shares s slot other ≡ true) ⊎ (IsJoin s e slot other ⊎ IsJoin s e other slot)
      by there None at k = cc
      by there (Some o) at k = inside (set.contains given.0.holders slot) refl k
        where
          inside : (b : Bool) → set.contains given.0.holders slot ≡ b
              → set.contains (if b then with_holders o (set.insert given.0.holders new) else o).holders other ≡ true
              → (shares s slot other ≡ true) ⊎ (IsJoin s e slot other ⊎ IsJoin s e other slot)
          inside b among k = grind (arith, joins, c)

module _ (s : State) (e : Event) (w : IsWellFormed s) (live : is_live s e.pid ≡ true) where
  after_consents : (c : Call) → e.call ≡ c → next s e ≡ after s e.pid c → completes (answer_of s e.pid c) ≡ true
      → Consents s (after s e.pid c) e
  after_consents (call.Load addr size) is goes h = grind (arith, quiet, through, pages_share, accessed_share)
  after_consents (call.Store addr size value) is goes h = grind (arith, quiet, through, pages_share, all_stored_share)
  after_consents (call.Map page write) is goes h = grind (arith, quiet, fresh_shares)
  after_consents (call.Unmap page) is goes h = quiet s (after_unmap s e.pid page) e
      (without_shares s.spaces (is_slot e.pid page))
  after_consents (call.Protect page write) is goes h = grind (arith, quiet, flags_shares)
  after_consents (call.Accept giver giver_page page) is goes h =
      accept_consents s e giver giver_page page w is goes
      (not-refused (accept_refusal s e.pid giver giver_page page) _ h)
  after_consents (call.Fork quota) is goes h = grind (arith, quiet, copied_shares)
  after_consents call.Exit is goes h = quiet s (after_exit s e.pid) e (without_shares s.spaces (is_of e.pid))
  after_consents _ is goes h = λ slot other d k. inl k

pub sharing_by_consent : SharingByConsent
sharing_by_consent s e slot other w d shared = by (completes (answer s e)) refl
  where
    by : (b : Bool) → completes (answer s e) ≡ b → (shares s slot other ≡ true)
        ⊎ (IsJoin s e slot other ⊎ IsJoin s e other slot)
    by true h = grind (arith, caller_live, next-goes, after_consents)
    by false h = inl (sym (ap (λ (t : State). shares t slot other) (next-stays s e h)) ∙ shared)

-- ---- Offers

abbrev OfferedBefore : State → State → Event → OfferKey → Bool → Type 0
OfferedBefore s t e key right = (map.get s.offers key ≡ Some right)
    ⊎ ((e.pid ≡ key.offerer) × (e.call ≡ call.Offer key.page key.target right))

after_offers : (s : State) (e : Event) (key : OfferKey) (right : Bool) (c : Call) → e.call ≡ c
    → map.get (after s e.pid c).offers key ≡ Some right → OfferedBefore s s e key right
after_offers s e key right c is h = grind (arith, retained, same_cases, same_Some, get-insert)

pub offers_by_offerer : OffersByOfferer
offers_by_offerer s e key right =
    by_next (λ t. map.get t.offers key ≡ Some right → OfferedBefore s s e key right) s e inl
    (λ live h. after_offers s e key right e.call refl)
