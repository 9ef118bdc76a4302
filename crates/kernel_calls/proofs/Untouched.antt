-- What an event leaves of the other processes.
use Rattle.kernel_calls.proofs.Prelude.{◌≡◌, ◌≢◌, ℕ, ◌==◌, Bool, true, false, cond, refl, sym, ap, ◌∙◌, Option, Some, None, unwrap_or, arith, inl, inr, ◌⊎◌, if◌then◌else◌, slice_index, option_map, ne_eqb, same_Some, byte_count, touched, Size, same, Set, get-insert, get-map_values, contains-insert, get-retain_keys, some_value, no_value, is_some-map, same_cases, same_apart, get-remove_other, get-removed, Slot, slot_order, Cell, Spaces, cost, fresh, cell_or_fresh, with_holders, set_holders, bytes_of, is_slot, is_of, at_page, with_pages, all_stored, joined, copied, same_pages, copied-other, Member, given, is_child, number_of_children, child_no, get-insert_other, given-insert, given-remove, number-insert, number-remove, OfferKey, Offers, offer_order, offer_key, State, is_live, child_of, accept_refusal, spawn_refusal, fork_refusal, after_load, after_store, after_unmap, after_offer, after_withdraw, after_accept, after_exit, IsWellFormed, child_free, live_differ, get-inserted_other, may_fork, may_accept, giver_mapped, flags_of, flags_at, byte_in, shares, is_child_of, IsStoreInto, Integrity, answer, answer_of, after, next, completes, Call, Event, eqb-true}
use Rattle.kernel_calls.proofs.Decided.{by_next}
use Rattle.kernel_calls.proofs.Runs.{not-refused}
use Rattle.kernel_calls.proofs.UntouchedSlots.{kept_of, kept_at, kept_flags, kept_bytes, kept_shares, of_others, rest_of, insert_same, pages_same, accessed_same, without_kept, all_stored_rest, store_bytes}
use Rattle.page_words.specs.FiniteMap as map
use Rattle.page_words.specs.FiniteSet as set
use Rattle.kernel_calls.specs.declared.calls.Call.TheVariants as call

-- ---- A slot that joins a group

module _ (s : State) (q giver giver_page page : ℕ) (right : Bool) (w : IsWellFormed s) (g : Cell)
    (at : map.get s.spaces (at_page giver giver_page) ≡ Some g) where
  abbrev pub wider : Set slot_order
  wider = set.insert g.holders (at_page q page)

  abbrev pub after_join : Spaces
  after_join = joined s.spaces (at_page giver giver_page) (at_page q page) right

  giver_is : cell_or_fresh s.spaces (at_page giver giver_page) ≡ g
  giver_is = ap (λ (x : Option Cell). unwrap_or x (fresh (at_page giver giver_page) true)) at

  abbrev pub widen : Slot → Cell → Cell
  widen r c = if set.contains g.holders r then with_holders c wider else c

  pub get_joined : (slot : Slot) → slot ≢ at_page q page
      → map.get after_join slot ≡ option_map (widen slot) (map.get s.spaces slot)
  get_joined slot d =
      (let c : Cell = cell_or_fresh s.spaces (at_page giver giver_page) in
      get-inserted_other (set_holders s.spaces c.holders (set.insert c.holders (at_page q page))) (at_page q page)
      (record {
        write = right;
        may = right;
        accessed = false;
        dirty = false;
        bytes = c.bytes;
        holders =
            set.insert c.holders (at_page q page);
      }) slot d
      ∙ ap (λ (x : Cell). map.get (set_holders s.spaces x.holders (set.insert x.holders (at_page q page))) slot)
      giver_is)
      ∙ get-map_values slot_order widen s.spaces slot

  -- who is in the group of a slot of it, but for the new one
  pub widen_kept : (slot other : Slot) (c : Cell) → map.get s.spaces slot ≡ Some c → other ≢ at_page q page
      → kept_of other (widen slot c) ≡ kept_of other c
  widen_kept slot other c here d = by (set.contains g.holders slot) refl
    where
      by : (b : Bool) → set.contains g.holders slot ≡ b
          → kept_of other (if b then with_holders c wider else c) ≡ kept_of other c
      by false out = refl
      by true inside =
          let o = (w.cells (at_page giver giver_page) g at).alike slot inside in
          let group : c.holders ≡ g.holders = ap (λ (x : Cell). x.holders) (same_Some c o.0 (sym here ∙ o.1)) ∙ o.2 in
          ap (λ b. (flags_of c, (c.bytes, b)))
          (grind (arith, contains-insert))

  pub joined_kept : (slot other : Slot) → slot ≢ at_page q page → other ≢ at_page q page
      → kept_at after_join slot other ≡ kept_at s.spaces slot other
  joined_kept slot other d o = grind (arith, kept_of, get_joined, widen_kept)

-- ---- Integrity, call by call

-- the event is the exit of a child of p
abbrev pub IsChildsExit : State → Event → ℕ → Type 0
IsChildsExit s e p = (is_child_of s p e.pid ≡ true) × (e.call ≡ call.Exit)

-- the event ends an offer to its process: that accepts it, or exits
pub record EndsOffer (e : Event) (key : OfferKey) : Type 0 where
  pub target : key.target ≡ e.pid
  pub how : ((page : ℕ) × (e.call ≡ call.Accept key.offerer key.page page)) ⊎ (e.call ≡ call.Exit)

-- what p has given, and to how many children, is as before, or one of them exits
abbrev GivesAsBefore : State → State → Event → ℕ → Type 0
GivesAsBefore s t e p = ((given t.book p ≡ given s.book p) × (number_of_children t.book p ≡ number_of_children s.book p))
    ⊎ IsChildsExit s e p

-- each offer of p is as before, or its target ends it
abbrev OffersAsBefore : State → State → Event → ℕ → Type 0
OffersAsBefore s t e p = (key : OfferKey) → key.offerer ≡ p
    → (map.get t.offers key ≡ map.get s.offers key) ⊎ ((map.get t.offers key ≡ None) × EndsOffer e key)

-- all that the event of another process leaves of p
pub record LeavesAll (s t : State) (e : Event) (p : ℕ) : Type 0 where
  pub member : map.get t.book p ≡ map.get s.book p
  pub flags : (page : ℕ) → flags_at t (at_page p page) ≡ flags_at s (at_page p page)
  pub cost : cost t.spaces p ≡ cost s.spaces p
  pub bytes : (page place : ℕ) → (byte_in t (at_page p page) place ≡ byte_in s (at_page p page) place)
      ⊎ IsStoreInto s t e (at_page p page) place
  pub holders : (page : ℕ) (other : Slot) → other.pid ≢ e.pid
      → shares t (at_page p page) other ≡ shares s (at_page p page) other
  pub given : GivesAsBefore s t e p
  pub offers : OffersAsBefore s t e p

-- where the flags stay, so does the cost
cost_stays : (s t : State) (p : ℕ) → ((page : ℕ) → flags_at t (at_page p page) ≡ flags_at s (at_page p page))
    → cost t.spaces p ≡ cost s.spaces p
cost_stays s t p flags = grind (arith, same_pages, is_some-map)

module _ (s t : State) (e : Event) (p : ℕ) (d : p ≢ e.pid) (member : map.get t.book p ≡ map.get s.book p)
    (given : GivesAsBefore s t e p) (offers : OffersAsBefore s t e p) where
  kept_untouched : ((page : ℕ) (other : Slot) → other.pid ≢ e.pid
      → kept_at t.spaces (at_page p page) other ≡ kept_at s.spaces (at_page p page) other) → LeavesAll s t e p
  kept_untouched kept = record {
    member = member;
    flags = flags;
    cost = cost_stays s t p flags;
    bytes = λ page place. inl (ap (λ xs. slice_index xs place)
        (kept_bytes s.spaces t.spaces (at_page p page) (at_page p page) (kept page (at_page p page) d)));
    holders = λ page other o. kept_shares s.spaces t.spaces (at_page p page) other (kept page other o);
    given = given;
    offers = offers;
  }
    where
      flags : (page : ℕ) → flags_at t (at_page p page) ≡ flags_at s (at_page p page)
      flags page = kept_flags s.spaces t.spaces (at_page p page) (at_page p page) (kept page (at_page p page) d)

  same_untouched : ((page : ℕ) → map.get t.spaces (at_page p page) ≡ map.get s.spaces (at_page p page)) → LeavesAll s t e p
  same_untouched same = kept_untouched (λ page other o. ap (option_map (kept_of other)) (same page))

still_untouched : (s : State) (e : Event) (p : ℕ) → p ≢ e.pid → LeavesAll s s e p
still_untouched s e p d = same_untouched s s e p d refl (inl (refl, refl)) (λ key own. inl refl) (λ n. refl)

-- offers of p, where others go
retain_same : (offers : Offers) (stay : OfferKey → Bool) (key : OfferKey) → stay key ≡ true
    → map.get (map.retain_keys offers stay) key ≡ map.get offers key
retain_same offers stay key h = get-retain_keys offers stay key ∙ ap (λ b. cond b (map.get offers key) None) h

retain_gone : (offers : Offers) (stay : OfferKey → Bool) (key : OfferKey) → stay key ≡ false
    → map.get (map.retain_keys offers stay) key ≡ None
retain_gone offers stay key h = get-retain_keys offers stay key ∙ ap (λ b. cond b (map.get offers key) None) h

other_offerer : (p q page to : ℕ) (key : OfferKey) → p ≢ q → key.offerer ≡ p → key ≢ offer_key q page to
other_offerer p q page to key d own e = d (sym own ∙ ap (λ (k : OfferKey). k.offerer) e)

-- one child less, where q was one of p
less_given : (s : State) (e : Event) (p : ℕ) → e.call ≡ call.Exit → (m : Member) → map.get s.book e.pid ≡ Some m
    → GivesAsBefore s (after_exit s e.pid) e p
less_given s e p exit m here = by (is_child p (e.pid, m)) refl
  where
    by : (b : Bool) → is_child p (e.pid, m) ≡ b → GivesAsBefore s (after_exit s e.pid) e p
    by true is = grind arith
    by false is = inl (
        let a = given-remove s.book e.pid m here p in
        let b = number-remove s.book e.pid m here p in
        let x : ◌≡◌ {A = ℕ} (cond (is_child p (e.pid, m)) m.quota 0) 0 = ap (λ t. cond t m.quota 0) is in
        let y : ◌≡◌ {A = ℕ} (cond (is_child p (e.pid, m)) 1 0) 0 = ap (λ t. cond t 1 0) is in
        (omega (arith, a, x), omega (arith, b, y)))

module _ (s : State) (e : Event) (p : ℕ) (w : IsWellFormed s) (live_p : is_live s p ≡ true) (d : p ≢ e.pid)
    (live : is_live s e.pid ≡ true) where
  -- where only spaces change
  spaces_untouched : (T : Spaces) → ((page : ℕ) → map.get T (at_page p page) ≡ map.get s.spaces (at_page p page))
      → LeavesAll s (record s { spaces = T }) e p
  spaces_untouched T = same_untouched s (record s { spaces = T }) e p d refl (inl (refl, refl)) (λ key own. inl refl)

  load_untouched : (addr : ℕ) (size : Size) → LeavesAll s (after_load s e.pid addr size) e p
  load_untouched addr size =
      let pages = touched addr size in
      spaces_untouched _ (λ page. accessed_same e.pid (at_page p page) d (with_pages s.spaces e.pid pages) pages
      ∙ pages_same e.pid (at_page p page) d s.spaces pages)

  map_untouched : (page : ℕ) (c : Cell) → LeavesAll s
      (record s { spaces = map.insert s.spaces (at_page e.pid page) c }) e p
  map_untouched page c = spaces_untouched _ (λ n. insert_same e.pid _ d s.spaces page c)

  store_untouched : (addr : ℕ) (size : Size) (value : ℕ) → e.call ≡ call.Store addr size value
      → completes (answer_of s e.pid (call.Store addr size value)) ≡ true
      → LeavesAll s (after_store s e.pid addr size value) e p
  store_untouched addr size value is done = record {
    member = refl;
    flags = flags;
    cost = cost_stays s (after_store s e.pid addr size value) p flags;
    bytes = bytes;
    holders = λ page other o. holders page other (rest page other);
    given = inl (refl, refl);
    offers = λ key own. inl refl;
  }
    where
      U : Spaces
      U = all_stored (with_pages s.spaces e.pid (touched addr size)) e.pid addr (bytes_of (byte_count size) value)

      rest : (page : ℕ) (other : Slot) → option_map (rest_of other) (map.get U (at_page p page)) ≡ option_map
          (rest_of other) (map.get s.spaces (at_page p page))
      rest page other = grind (arith, all_stored_rest, pages_same)

      flags : (page : ℕ) → option_map flags_of (map.get U (at_page p page)) ≡ option_map flags_of
          (map.get s.spaces (at_page p page))
      flags page = flags_from page (rest page (at_page p page))
        where
          flags_from : (page : ℕ) → option_map (rest_of (at_page p page)) (map.get U (at_page p page)) ≡ option_map
              (rest_of (at_page p page)) (map.get s.spaces (at_page p page))
              → option_map flags_of (map.get U (at_page p page)) ≡ option_map flags_of (map.get s.spaces (at_page p page))
          flags_from page h = grind arith

      holders : (page : ℕ) (other : Slot) → option_map (rest_of other) (map.get U (at_page p page)) ≡ option_map
          (rest_of other) (map.get s.spaces (at_page p page))
          → shares (after_store s e.pid addr size value) (at_page p page) other ≡ shares s (at_page p page) other
      holders page other h = grind arith

      bytes : (page place : ℕ) → (byte_in (after_store s e.pid addr size value) (at_page p page) place ≡ byte_in s
          (at_page p page) place) ⊎ IsStoreInto s (after_store s e.pid addr size value) e (at_page p page) place
      bytes page place = grind (arith, store_bytes, flags, rest)

  unmap_untouched : (page : ℕ) → LeavesAll s (after_unmap s e.pid page) e p
  unmap_untouched page =
      kept_untouched s _ e p d refl (inl (refl, refl)) (λ key own. inl (grind (arith, retain_same)))
      (λ n other o. without_kept e.pid _ d s.spaces _ other (stays _ d) (stays other o))
    where
      stays : (slot : Slot) → slot.pid ≢ e.pid → is_slot e.pid page slot ≡ false
      stays slot n = same_apart slot_order (at_page e.pid page) slot (λ x. of_others e.pid page slot n (sym x))

  offer_untouched : (page target : ℕ) (write : Bool) → LeavesAll s (after_offer s e.pid page target write) e p
  offer_untouched page target write = grind (arith, same_untouched, get-insert, same_apart, other_offerer)

  withdraw_untouched : (page target : ℕ) → LeavesAll s (after_withdraw s e.pid page target) e p
  withdraw_untouched page target =
      same_untouched s _ e p d refl (inl (refl, refl))
      (λ key own. inl (get-remove_other s.offers _ key (other_offerer p e.pid page target key d own))) (λ n. refl)

  accept_untouched : (giver giver_page page : ℕ) → e.call ≡ call.Accept giver giver_page page
      → accept_refusal s e.pid giver giver_page page ≡ None
      → LeavesAll s (after_accept s e.pid giver giver_page page) e p
  accept_untouched giver giver_page page is allowed =
      kept_untouched s _ e p d refl (inl (refl, refl)) (λ key own. offers key (same_cases offer_order key taken))
      (λ n other o. joined_kept s e.pid giver giver_page page _ w g.0 g.1 _ other (of_others e.pid page _ d)
      (of_others e.pid page other o))
    where
      taken : OfferKey
      taken = offer_key giver giver_page e.pid

      g : (c : Cell) × (map.get s.spaces (at_page giver giver_page) ≡ Some c)
      g = giver_mapped s e.pid giver giver_page w (may_accept s e.pid giver giver_page page allowed).there

      offers : (key : OfferKey) → ((key ≡ taken) × (same offer_order key taken ≡ true))
          ⊎ ((key ≢ taken) × (same offer_order key taken ≡ false))
          → (map.get (map.remove s.offers taken) key ≡ map.get s.offers key)
          ⊎ ((map.get (map.remove s.offers taken) key ≡ None) × EndsOffer e key)
      offers key (inl same) = inr (
        ap (map.get (map.remove s.offers taken)) same.0 ∙ get-removed s.offers taken,
        record {
          target = ap (λ (k : OfferKey). k.target) same.0;
          how = inl (page, is ∙ (λ i. call.Accept (sym same.0 i).offerer (sym same.0 i).page page));
        },
      )
      offers key (inr other) = inl (get-remove_other s.offers taken key other.0)

  -- with one child of the caller more
  child_untouched : (k quota : ℕ) (T : Spaces) → is_live s k ≡ false
      → ((n : ℕ) → map.get T (at_page p n) ≡ map.get s.spaces (at_page p n)) → LeavesAll s
      (record s { spaces = T; book = map.insert s.book k (record { parent = e.pid; quota = quota }) }) e p
  child_untouched k quota T free same =
      same_untouched s _ e p d (get-insert_other s.book k _ p (live_differ s p k live_p free))
      (inl (grind (arith, no_value, given-insert, number-insert, child_no))) (λ key own. inl refl) same

  exit_untouched : e.call ≡ call.Exit → LeavesAll s (after_exit s e.pid) e p
  exit_untouched is =
      let m = some_value (map.get s.book e.pid) live in
      kept_untouched s (after_exit s e.pid) e p d (get-remove_other s.book e.pid p d) (less_given s e p is m.0 m.1)
      (λ key own. offers key (key.target == e.pid) refl (ne_eqb key.offerer e.pid (λ x. d (sym own ∙ x))))
      (λ n other o. without_kept e.pid (at_page p n) d s.spaces (is_of e.pid) other (ne_eqb p e.pid d)
      (ne_eqb other.pid e.pid o))
    where
      offers : (key : OfferKey) (b : Bool) → (key.target == e.pid) ≡ b → (key.offerer == e.pid) ≡ false
          → (map.get (after_exit s e.pid).offers key ≡ map.get s.offers key)
          ⊎ ((map.get (after_exit s e.pid).offers key ≡ None) × EndsOffer e key)
      offers key b target other = grind (arith, retain_gone, eqb-true, retain_same)

  ruleset slots_untouched = (load_untouched, store_untouched, map_untouched, unmap_untouched, exit_untouched)

  ruleset offers_untouched = (offer_untouched, withdraw_untouched, accept_untouched, not-refused)

  ruleset calls_untouched = (slots_untouched, offers_untouched, still_untouched)

  after_untouched : (c : Call) → e.call ≡ c → completes (answer_of s e.pid c) ≡ true
      → LeavesAll s (after s e.pid c) e p
  after_untouched (call.Spawn quota) is h = child_untouched (child_of s) quota s.spaces
      (child_free s e.pid quota (not-refused (spawn_refusal s e.pid quota) _ h)) (λ n. refl)
  after_untouched (call.Fork quota) is h =
      let free = child_free s e.pid quota (may_fork s e.pid quota (not-refused (fork_refusal s e.pid quota) _ h)).spawn
      in
      child_untouched (child_of s) quota (copied s.spaces e.pid (child_of s)) free
      (λ n. copied-other s.spaces e.pid (child_of s) (at_page p n) (live_differ s p (child_of s) live_p free))
  after_untouched _ is h = search calls_untouched

-- who calls and is not refused is live
pub caller_live : (s : State) (e : Event) → completes (answer s e) ≡ true
    → (is_live s e.pid ≡ true) × (completes (answer_of s e.pid e.call) ≡ true)
caller_live s e h = grind arith

pub leaves_all : (s : State) (e : Event) (p : ℕ) → IsWellFormed s → is_live s p ≡ true → p ≢ e.pid
    → LeavesAll s (next s e) e p
leaves_all s e p w live d = by_next (λ t. LeavesAll s t e p) s e (still_untouched s e p d)
    (λ calls. after_untouched s e p w live d calls e.call refl)

pub integrity : Integrity
integrity s e p w live d =
    let u = leaves_all s e p w live d in
    record { member = u.member; flags = u.flags; given = u.given }
