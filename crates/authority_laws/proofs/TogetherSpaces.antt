-- Spaces that look the same to a set of processes.
use Rattle.authority_laws.proofs.Prelude.{◌≡◌, ◌≢◌, ℕ, ◌+◌, ◌&&◌, ◌||◌, not, Bool, true, false, cond, List, [], ◌∷◌, length, filter, refl, sym, ap, ◌∙◌, Option, Some, None, is_some, unwrap_or, arith, inl, inr, ◌⊎◌, if◌then◌else◌, option_map, same_Some, page_number, offset_number, same, Set, get-map_values, contains-insert, contains-retain, same_set, is_some-map, same_cases, Slot, slot_order, Cell, Spaces, fresh, cell_or_fresh, with_bytes, with_holders, set_bytes, set_holders, write_at, without, at_page, slot_at, accessed, stored, with_page, with_pages, all_accessed, all_stored, joined, left, get-without, get-inserted, get-inserted_other, Flags, flags_of, Shown, shown_of, subst, ◌==◌, eqb-true, some_value, get-insert, get-remove, nat_order, Size, is_of, Member, is_child, quota_of, given, number_of_children, given-remove, number-remove, OfferKey, Offers, offer_key, State, is_live, exit_refusal, after_load, after_store, after_map, after_unmap, after_protect, after_offer, after_withdraw, after_accept, after_exit, answer_of, after, completes, Call, AreOne, len-insert}
use Rattle.authority_laws.proofs.Seen.{kept_offers, exit_children, exit_given}
use Rattle.authority_laws.proofs.Standings.{live_in}
use Rattle.authority_laws.proofs.SharingStays.{makes_child}
use Rattle.page_words.specs.FiniteMap as map
use Rattle.page_words.specs.FiniteSet as set
use Rattle.kernel_calls.specs.declared.calls.Call.TheVariants as call

-- ---- How many of a set pass a test, and how many don't

split_list : (p : Slot → Bool) (es : List (Slot × Unit {0}))
    → length es ≡ length (filter (λ (e : Slot × Unit {0}). p e.0) es) + length
    (filter (λ (e : Slot × Unit {0}). not (p e.0)) es)
split_list p [] = omega arith
split_list p (e ∷ es) = grind (arith, (split_list p es))

len_split : (g : Set slot_order) (p : Slot → Bool)
    → set.len g ≡ set.len (set.retain g p) + set.len (set.retain g (λ x. not (p x)))
len_split g p = split_list p g.entries

-- ---- Spaces that look the same

abbrev pub shares_in : Spaces → Slot → Slot → Bool
shares_in S slot other = unwrap_or (option_map (λ (c : Cell). set.contains c.holders other) (map.get S slot)) false

-- at the slots that are seen, those of members among them
pub record SameSpaces (Q : ℕ → Bool) (seen : Slot → Type 0) (S T : Spaces) : Type 0 where
  pub flags : (slot : Slot) → Q slot.pid ≡ true → option_map flags_of (map.get S slot) ≡ option_map flags_of
      (map.get T slot)
  pub pages : (slot : Slot) → seen slot → option_map shown_of (map.get S slot) ≡ option_map shown_of (map.get T slot)
  pub groups : (slot other : Slot) → seen slot → seen other → shares_in S slot other ≡ shares_in T slot other

-- two sets of slots that have the same of what is seen
abbrev pub SameGroups : (Slot → Type 0) → Set slot_order → Set slot_order → Type 0
SameGroups seen g h = (other : Slot) → seen other → set.contains g other ≡ set.contains h other

module _ (Q : ℕ → Bool) (q : ℕ) (mine : Q q ≡ true) (seen : Slot → Type 0) (own : (page : ℕ) → seen (at_page q page))
  where
    -- at a slot that is seen, mapped or not
    groups_same : (S T : Spaces) → SameSpaces Q seen S T → (slot : Slot) → seen slot
        → SameGroups seen (cell_or_fresh S slot).holders (cell_or_fresh T slot).holders
    groups_same S T l slot v other o = by (map.get S slot) (map.get T slot) (l.pages slot v) (l.groups slot other v o)
      where
        by : (x y : Option Cell) → option_map shown_of x ≡ option_map shown_of y
            → unwrap_or (option_map (λ (c : Cell). set.contains c.holders other) x) false ≡ unwrap_or
            (option_map (λ (c : Cell). set.contains c.holders other) y) false
            → set.contains (unwrap_or x (fresh slot true)).holders other ≡ set.contains
            (unwrap_or y (fresh slot true)).holders other
        by x y h k = grind arith

    shown_same : (S T : Spaces) → SameSpaces Q seen S T → (slot : Slot) → seen slot
        → shown_of (cell_or_fresh S slot) ≡ shown_of (cell_or_fresh T slot)
    shown_same S T l slot v = grind (arith, same_Some)

    own_flags : (S T : Spaces) → SameSpaces Q seen S T → (page : ℕ)
        → flags_of (cell_or_fresh S (at_page q page)) ≡ flags_of (cell_or_fresh T (at_page q page))
    own_flags S T l page = grind (arith, same_Some)

    -- one cell of q, put in both
    pub put_same : (S T : Spaces) (page : ℕ) (c d : Cell) → SameSpaces Q seen S T → flags_of c ≡ flags_of d
        → shown_of c ≡ shown_of d → SameGroups seen c.holders d.holders
        → SameSpaces Q seen (map.insert S (at_page q page) c) (map.insert T (at_page q page) d)
    put_same S T page c d l flags shown groups = grind (arith, same_cases, get-inserted, get-inserted_other)

    -- a group that gets other bytes
    bytes_same : (S T : Spaces) (g h : Set slot_order) (xs ys : List ℕ) → SameSpaces Q seen S T → SameGroups seen g h
        → xs ≡ ys → SameSpaces Q seen (set_bytes S g xs) (set_bytes T h ys)
    bytes_same S T g h xs ys l groups same_bytes = record {
      flags = λ slot k. flags_in S g xs slot ∙ l.flags slot k ∙ sym (flags_in T h ys slot);
      pages = λ slot v. shown_in S g xs slot ∙ (λ i.
          option_map (renew (groups slot v i) (same_bytes i)) (l.pages slot v i)) ∙ sym (shown_in T h ys slot);
      groups = λ slot other v o. shares_of S g xs slot other ∙ l.groups slot other v o
          ∙ sym (shares_of T h ys slot other);
    }
      where
        renew : Bool → List ℕ → Shown → Shown
        renew b zs shown = if b then record shown { bytes = zs } else shown

        change : Set slot_order → List ℕ → Slot → Cell → Cell
        change k zs slot c = if set.contains k slot then with_bytes c zs else c

        flags_in : (R : Spaces) (k : Set slot_order) (zs : List ℕ) (slot : Slot)
            → option_map flags_of (map.get (set_bytes R k zs) slot) ≡ option_map flags_of (map.get R slot)
        flags_in R k zs slot = grind (arith, get-map_values, change)

        shown_in : (R : Spaces) (k : Set slot_order) (zs : List ℕ) (slot : Slot)
            → option_map shown_of (map.get (set_bytes R k zs) slot) ≡ option_map (renew (set.contains k slot) zs)
            (option_map shown_of (map.get R slot))
        shown_in R k zs slot = grind (arith, get-map_values, change, renew)

        shares_of : (R : Spaces) (k : Set slot_order) (zs : List ℕ) (slot other : Slot)
            → shares_in (set_bytes R k zs) slot other ≡ shares_in R slot other
        shares_of R k zs slot other = grind (arith, get-map_values, change)

    -- a group that becomes another
    holders_same : (S T : Spaces) (g h wide wider : Set slot_order) → SameSpaces Q seen S T → SameGroups seen g h
        → SameGroups seen wide wider → set.len wide ≡ set.len wider
        → SameSpaces Q seen (set_holders S g wide) (set_holders T h wider)
    holders_same S T g h wide wider l groups more len = record {
      flags = λ slot k. flags_in S g wide slot ∙ l.flags slot k ∙ sym (flags_in T h wider slot);
      pages = λ slot v. shown_in S g wide slot ∙ (λ i. option_map (renew (groups slot v i) (len i)) (l.pages slot v i))
          ∙ sym (shown_in T h wider slot);
      groups = λ slot other v o. shares_of S g wide slot other ∙ mixed slot other v o
          ∙ sym (shares_of T h wider slot other);
    }
      where
        renew : Bool → ℕ → Shown → Shown
        renew b n shown = if b then record shown { holders = n } else shown

        change : Set slot_order → Set slot_order → Slot → Cell → Cell
        change k to slot c = if set.contains k slot then with_holders c to else c

        flags_in : (R : Spaces) (k to : Set slot_order) (slot : Slot)
            → option_map flags_of (map.get (set_holders R k to) slot) ≡ option_map flags_of (map.get R slot)
        flags_in R k to slot = grind (arith, get-map_values, change, by)
          where
            either : (b : Bool) (c : Cell) → flags_of (if b then with_holders c to else c) ≡ flags_of c
            either b c = grind arith

            by : (y : Option Cell) → option_map flags_of (option_map (change k to slot) y) ≡ option_map flags_of y
            by y = grind (arith, either)

        shown_in : (R : Spaces) (k to : Set slot_order) (slot : Slot)
            → option_map shown_of (map.get (set_holders R k to) slot) ≡ option_map
            (renew (set.contains k slot) (set.len to)) (option_map shown_of (map.get R slot))
        shown_in R k to slot = grind (arith, get-map_values, change, renew)

        -- what is in the group of a slot then
        new_shares : Spaces → Set slot_order → Set slot_order → Slot → Slot → Bool
        new_shares R k to slot other = if set.contains k slot && is_some (map.get R slot) then set.contains to other
            else shares_in R slot other

        shares_of : (R : Spaces) (k to : Set slot_order) (slot other : Slot)
            → shares_in (set_holders R k to) slot other ≡ new_shares R k to slot other
        shares_of R k to slot other = grind (arith, get-map_values, change)

        there : (slot : Slot) → seen slot → is_some (map.get S slot) ≡ is_some (map.get T slot)
        there slot v = grind (arith, is_some-map)

        mixed : (slot other : Slot) → seen slot → seen other
            → new_shares S g wide slot other ≡ new_shares T h wider slot other
        mixed slot other v o = grind (arith, there)

    -- ---- Accesses

    page_same : (S T : Spaces) (page : ℕ) → SameSpaces Q seen S T
        → SameSpaces Q seen (with_page S q page) (with_page T q page)
    page_same S T page l = grind (arith, is_some-map, put_same)

    pub pages_same : (S T : Spaces) (pages : List ℕ) → SameSpaces Q seen S T
        → SameSpaces Q seen (with_pages S q pages) (with_pages T q pages)
    pages_same S T [] l = l
    pages_same S T (page ∷ pages) l = pages_same (with_page S q page) (with_page T q page) pages (page_same S T page l)

    -- where flags are set in a cell
    pub set_same : (S T : Spaces) (page : ℕ) (set_flags : Cell → Cell)
        → ((c d : Cell) → flags_of c ≡ flags_of d → flags_of (set_flags c) ≡ flags_of (set_flags d))
        → ((c : Cell) → shown_of (set_flags c) ≡ shown_of c) → ((c : Cell) → (set_flags c).holders ≡ c.holders)
        → SameSpaces Q seen S T → SameSpaces Q seen (map.insert S (at_page q page)
        (set_flags (cell_or_fresh S (at_page q page))))
        (map.insert T (at_page q page) (set_flags (cell_or_fresh T (at_page q page))))
    set_same S T page f flags shown group l = grind (arith, put_same, own_flags, shown_same, groups_same)

    pub accessed_same : (S T : Spaces) (pages : List ℕ) → SameSpaces Q seen S T
        → SameSpaces Q seen (all_accessed S q pages) (all_accessed T q pages)
    accessed_same S T [] l = l
    accessed_same S T (page ∷ pages) l =
        accessed_same (accessed S (at_page q page)) (accessed T (at_page q page)) pages
        (set_same S T page (λ c. record c { accessed = true })
        (λ c d h. ap (λ (f : Flags). record f { accessed = true }) h) (λ c. refl) (λ c. refl) l)

    stored_same : (S T : Spaces) (page at : ℕ) (new : List ℕ) → SameSpaces Q seen S T
        → SameSpaces Q seen (stored S (at_page q page) at new) (stored T (at_page q page) at new)
    stored_same S T page at new l =
        let c : Cell = cell_or_fresh S (at_page q page) in
        let d : Cell = cell_or_fresh T (at_page q page) in
        let shown = shown_same S T l (at_page q page) (own page) in
        let bytes : write_at c.bytes at new ≡ write_at d.bytes at new =
        ap (λ (x : Shown). write_at x.bytes at new) shown in
        let groups = groups_same S T l (at_page q page) (own page) in
        put_same (set_bytes S c.holders (write_at c.bytes at new)) (set_bytes T d.holders (write_at d.bytes at new))
        page
        (record c { bytes = write_at c.bytes at new; accessed = true; dirty = true })
        (record d { bytes = write_at d.bytes at new; accessed = true; dirty = true })
        (bytes_same S T c.holders d.holders (write_at c.bytes at new) (write_at d.bytes at new) l groups bytes)
        (ap (λ (f : Flags). record f { accessed = true; dirty = true }) (own_flags S T l page))
        (λ i. record { bytes = bytes i; holders = (shown i).holders })
        groups

    pub all_stored_same : (S T : Spaces) (addr : ℕ) (bytes : List ℕ) → SameSpaces Q seen S T
        → SameSpaces Q seen (all_stored S q addr bytes) (all_stored T q addr bytes)
    all_stored_same S T addr [] l = l
    all_stored_same S T addr (byte ∷ bytes) l =
        all_stored_same (stored S (slot_at q addr) (offset_number addr) (byte ∷ []))
        (stored T (slot_at q addr) (offset_number addr) (byte ∷ [])) (addr + 1) bytes
        (stored_same S T (page_number addr) (offset_number addr) (byte ∷ []) l)

    -- ---- Slots that go, all of which are seen

    pub gone_same : (S T : Spaces) (gone : Slot → Bool) → ((slot : Slot) → gone slot ≡ true → seen slot)
        → SameSpaces Q seen S T → SameSpaces Q seen (without S gone) (without T gone)
    gone_same S T gone goes l = record {
      flags = λ slot h. flags_in S slot ∙ (λ i. cond (not (gone slot)) (l.flags slot h i) None) ∙ sym (flags_in T slot);
      pages = λ slot v. pages slot v;
      groups = λ slot other v o. shares_of S slot other
          ∙ (λ i. (l.groups slot other v o i && not (gone other)) && not (gone slot)) ∙ sym (shares_of T slot other);
    }
      where
        flags_in : (R : Spaces) (slot : Slot) → option_map flags_of (map.get (without R gone) slot) ≡ cond
            (not (gone slot)) (option_map flags_of (map.get R slot)) None
        flags_in R slot = grind (arith, get-without)

        shares_of : (R : Spaces) (slot other : Slot) → shares_in (without R gone) slot
            other ≡ ((shares_in R slot other && not (gone other)) && not (gone slot))
        shares_of R slot other = grind (arith, get-without, contains-retain)

        fewer : (c d : Cell) → shown_of c ≡ shown_of d → SameGroups seen c.holders d.holders
            → shown_of (left gone c) ≡ shown_of (left gone d)
        fewer c d shown groups = λ i. record { bytes = (shown i).bytes; holders = less i }
          where
            who_go : set.retain c.holders gone ≡ set.retain d.holders gone
            who_go = same_set (set.retain c.holders gone) (set.retain d.holders gone)
                (λ other. contains-retain c.holders gone other ∙ by other (gone other) refl
                ∙ sym (contains-retain d.holders gone other))
              where
                by : (other : Slot) (b : Bool) → gone other ≡ b
                    → (set.contains c.holders other && gone other) ≡ (set.contains d.holders other && gone other)
                by other b is = grind arith

            less : set.len (set.retain c.holders (λ s. not (gone s))) ≡ set.len
                (set.retain d.holders (λ s. not (gone s)))
            less =
                let a = len_split c.holders gone in
                let b = len_split d.holders gone in
                let same_len : set.len c.holders ≡ set.len d.holders = ap (λ (x : Shown). x.holders) shown in
                let k : set.len (set.retain c.holders gone) ≡ set.len (set.retain d.holders gone) = ap set.len who_go in
                omega (arith, a, b, same_len, k)

        pages : (slot : Slot) → seen slot → option_map shown_of (map.get (without S gone) slot) ≡ option_map shown_of
            (map.get (without T gone) slot)
        pages slot v =
            grind (
              arith,
              (by (not (gone slot)) (map.get S slot) (map.get T slot) (l.pages slot v) (λ other o. l.groups slot other v o)),
              (get-without S gone slot),
              (get-without T gone slot),
            )
          where
            by : (b : Bool) (x y : Option Cell) → option_map shown_of x ≡ option_map shown_of y
                → ((other : Slot) → seen other → unwrap_or (option_map (λ (e : Cell). set.contains e.holders other) x)
                false ≡ unwrap_or (option_map (λ (e : Cell). set.contains e.holders other) y) false)
                → option_map shown_of (cond b (option_map (left gone) x) None) ≡ option_map shown_of
                (cond b (option_map (left gone) y) None)
            by b x y h k = grind (arith, fewer)

    -- ---- A slot of q that joins the group of a slot that is seen

    pub joined_same : (S T : Spaces) (giver : Slot) (page : ℕ) (right left : Bool) → SameSpaces Q seen S T → seen giver
        → right ≡ left → SameSpaces Q seen (joined S giver (at_page q page) right)
        (joined T giver (at_page q page) left)
    joined_same S T giver page right left l v rights =
        let c : Cell = cell_or_fresh S giver in
        let d : Cell = cell_or_fresh T giver in
        let x : Slot = at_page q page in
        let groups = groups_same S T l giver v in
        let shown = shown_same S T l giver v in
        let wide : Set slot_order = set.insert c.holders x in
        let wider : Set slot_order = set.insert d.holders x in
        let more : SameGroups seen wide wider = (λ other o. contains-insert c.holders x other
        ∙ ap (λ b. same slot_order other x || b) (groups other o) ∙ sym (contains-insert d.holders x other)) in
        let len : set.len wide ≡ set.len wider = len-insert c.holders x tt
        ∙ (λ i. cond (groups x (own page) i) (shown i).holders ((shown i).holders + 1))
        ∙ sym (len-insert d.holders x tt) in
        put_same (set_holders S c.holders wide) (set_holders T d.holders wider) page
        (record { write = right; may = right; accessed = false; dirty = false; bytes = c.bytes; holders = wide })
        (record { write = left; may = left; accessed = false; dirty = false; bytes = d.bytes; holders = wider })
        (holders_same S T c.holders d.holders wide wider l groups more len)
        (λ i. record { write = rights i; may = rights i; accessed = false; dirty = false })
        (λ i. record { bytes = (shown i).bytes; holders = len i })
        more

    -- ---- States that are one

    module _ (s t : State) (Known : OfferKey → Type 0) (l : AreOne s t Q Known seen) where
      start : SameSpaces Q seen s.spaces t.spaces
      start = record { flags = l.flags; pages = l.pages; groups = l.same_page }

      own_slots : (slot : Slot) → is_of q slot ≡ true → seen slot
      own_slots slot h = subst seen (λ i. record { pid = sym (eqb-true slot.pid q h) i; page = slot.page }) (own slot.page)

      -- where the book stays
      looks : (S T : Spaces) (O P : Offers)
          → ((key : OfferKey) → map.get s.offers key ≡ map.get t.offers key → map.get O key ≡ map.get P key)
          → SameSpaces Q seen S T
          → AreOne (record s { spaces = S; offers = O }) (record t { spaces = T; offers = P }) Q Known seen
      looks S T O P offers spaces = record {
        standing = l.standing;
        families = l.families;
        flags = spaces.flags;
        offers = λ key h. offers key (l.offers key h);
        pages = spaces.pages;
        same_page = spaces.groups;
      }

      looks_spaces : (S T : Spaces) → SameSpaces Q seen S T
          → AreOne (record s { spaces = S }) (record t { spaces = T }) Q Known seen
      looks_spaces S T = looks S T s.offers t.offers (λ key h. h)

      load_one : (addr : ℕ) (size : Size) → AreOne (after_load s q addr size) (after_load t q addr size) Q Known seen
      load_one addr size = grind (arith, looks_spaces, accessed_same, pages_same, start)

      store_one : (addr : ℕ) (size : Size) (value : ℕ)
          → AreOne (after_store s q addr size value) (after_store t q addr size value) Q Known seen
      store_one addr size value = grind (arith, looks_spaces, all_stored_same, pages_same, start)

      map_one : (page : ℕ) (write : Bool) → AreOne (after_map s q page write) (after_map t q page write) Q Known seen
      map_one page write = grind (arith, looks_spaces, put_same)

      protect_one : (page : ℕ) (write : Bool)
          → AreOne (after_protect s q page write) (after_protect t q page write) Q Known seen
      protect_one page write =
          looks_spaces _ _ (set_same s.spaces t.spaces page (λ c. record c { write = write })
          (λ c d h. ap (λ (f : Flags). record f { write = write }) h) (λ c. refl) (λ c. refl) start)

      unmap_one : (page : ℕ) → AreOne (after_unmap s q page) (after_unmap t q page) Q Known seen
      unmap_one page = grind (arith, looks, kept_offers, gone_same)

      withdraw_one : (page target : ℕ) → AreOne (after_withdraw s q page target) (after_withdraw t q page target) Q Known seen
      withdraw_one page target = grind (arith, looks, kept_offers, start)

      offer_one : (page target : ℕ) (write : Bool)
          → AreOne (after_offer s q page target write) (after_offer t q page target write) Q Known seen
      offer_one page target write = grind (arith, looks, get-insert, start)

      accept_one : (giver giver_page page : ℕ) → seen (at_page giver giver_page) → Known (offer_key giver giver_page q)
          → AreOne (after_accept s q giver giver_page page) (after_accept t q giver giver_page page) Q Known seen
      accept_one giver giver_page page there known = grind (arith, looks, kept_offers, joined_same, start)

      exit_one : is_live s q ≡ true → exit_refusal s q ≡ None → AreOne (after_exit s q) (after_exit t q) Q Known seen
      exit_one live allowed =
          let stay : OfferKey → Bool = (λ (k : OfferKey). not ((k.offerer == q) || (k.target == q))) in
          let spaces = gone_same s.spaces t.spaces (is_of q) own_slots start in
          record {
            standing = grind (arith, live_same, quota_same, given_same, children_same);
            families = λ p r hp hr d.
                ap (λ (x : Option Member). unwrap_or (option_map (λ (m : Member). is_child p (r, m)) x) false)
                (get-remove s.book q r)
                ∙ by_family (same nat_order r q) p r hp hr d
                ∙ sym (grind (arith, (get-remove t.book q r)));
            flags = spaces.flags;
            offers = λ key h. kept_offers s.offers t.offers stay key (l.offers key h);
            pages = spaces.pages;
            same_page = spaces.groups;
          }
        where
          by_live : (b : Bool) (p : ℕ) → Q p ≡ true
              → is_some (cond b None (map.get s.book p)) ≡ is_some (cond b None (map.get t.book p))
          by_live b p h = grind arith

          by_quota : (b : Bool) (r : ℕ) → Q r ≡ true → unwrap_or
              (option_map (λ (m : Member). m.quota) (cond b None (map.get s.book r))) 0 ≡ unwrap_or
              (option_map (λ (m : Member). m.quota) (cond b None (map.get t.book r))) 0
          by_quota b r h = grind arith

          live_same : (p : ℕ) → Q p ≡ true → map.contains_key (map.remove s.book q) p ≡ map.contains_key (map.remove t.book q) p
          live_same p h = ap is_some (get-remove s.book q p) ∙ by_live (same nat_order p q) p h
              ∙ sym (ap is_some (get-remove t.book q p))

          quota_same : (r : ℕ) → Q r ≡ true → quota_of (map.remove s.book q) r ≡ quota_of (map.remove t.book q) r
          quota_same r h = ap (λ (x : Option Member). unwrap_or (option_map (λ (m : Member). m.quota) x) 0)
              (get-remove s.book q r) ∙ by_quota (same nat_order r q) r h
              ∙ sym (ap (λ (x : Option Member). unwrap_or (option_map (λ (m : Member). m.quota) x) 0)
              (get-remove t.book q r))

          by_family : (b : Bool) (p r : ℕ) → Q p ≡ true → Q r ≡ true → p ≢ r → unwrap_or
              (option_map (λ (m : Member). is_child p (r, m)) (cond b None (map.get s.book r))) false ≡ unwrap_or
              (option_map (λ (m : Member). is_child p (r, m)) (cond b None (map.get t.book r))) false
          by_family true p r hp hr d = refl
          by_family false p r hp hr d = l.families p r hp hr d

          live_t : is_live t q ≡ true
          live_t = sym (ap live_in (l.standing q mine)) ∙ live

          -- q's entries in both books
          m : (m : Member) × (map.get s.book q ≡ Some m)
          m = some_value (map.get s.book q) live

          n : (m : Member) × (map.get t.book q ≡ Some m)
          n = some_value (map.get t.book q) live_t

          same_parent : (r : ℕ) → Q r ≡ true → r ≢ q → is_child r (q, m.0) ≡ is_child r (q, n.0)
          same_parent r h d =
              sym (ap (λ (x : Option Member). unwrap_or (option_map (λ (m : Member). is_child r (q, m)) x) false) m.1)
              ∙ l.families r q h mine d
              ∙ ap (λ (x : Option Member). unwrap_or (option_map (λ (m : Member). is_child r (q, m)) x) false) n.1

          given_same : (r : ℕ) → Q r ≡ true → (r ≡ q) ⊎ (r ≢ q)
              → given (map.remove s.book q) r ≡ given (map.remove t.book q) r
          given_same r h (inl is) = grind (arith, exit_given)
          given_same r h (inr d) =
              grind (arith, (given-remove s.book q m.0 m.1 r), (given-remove t.book q n.0 n.1 r), same_parent)

          children_same : (r : ℕ) → Q r ≡ true → (r ≡ q) ⊎ (r ≢ q)
              → number_of_children (map.remove s.book q) r ≡ number_of_children (map.remove t.book q) r
          children_same r h (inl is) = grind (arith, exit_children)
          children_same r h (inr d) =
              grind (arith, (number-remove s.book q m.0 m.1 r), (number-remove t.book q n.0 n.1 r), same_parent)

      -- any call that makes no child; of one that takes an offer, this and its page are known
      pub after_one : (c : Call) → makes_child c ≡ false → is_live s q ≡ true → completes (answer_of s q c) ≡ true
          → ((giver giver_page page : ℕ) → c ≡ call.Accept giver giver_page page
          → seen (at_page giver giver_page) × Known (offer_key giver giver_page q))
          → AreOne (after s q c) (after t q c) Q Known seen
      after_one (call.Accept giver giver_page page) none live h taken =
          let known = taken giver giver_page page refl in accept_one giver giver_page page known.0 known.1
      after_one _ none live h taken =
          grind (arith, load_one, store_one, map_one, unmap_one, protect_one, offer_one, withdraw_one, exit_one)
