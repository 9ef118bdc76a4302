-- States stay well formed at the opening, by an unmap, a spawn and an exit, and cost no more than the root's quota.
use Rattle.process_table.proofs.Prelude.{◌≡◌, ◌≢◌, ℕ, zero, suc, ◌+◌, ◌-◌, ◌<◌, ◌≤◌, ◌&&◌, ◌||◌, ◌==◌, not, Bool, true, false, cond, refl, sym, ap, subst, ◌∙◌, Option, Some, None, is_some, is_none, unwrap_or, arith, inl, inr, if◌then◌else◌, nat_lt, option_map, range_with_len, cases_eq, not-true, eqb-false, nat_order, same_itself, get-insert, get-retain_keys, Slot, Cell, Spaces, cost, without, is_slot, is_of, at_page, Book, Member, given, number_of_children, quota_of, next_number, OfferKey, Offers, pending, State, open_with, is_live, room, child_of, spawn_refusal, exit_refusal, after_unmap, after_spawn, after_exit, IsOfferIn, IsWellFormed, total, eq-eqb, same_Some, some_value, no_value, get-remove, same_cases, get-remove_other, child_yes, child_no, contains_key-insert, get-insert_other, BadQuota, TableFull, Quota, RootExit, HasChildren, find, Parents, costs_within, given-insert, given-none, given-remove, number-remove}
use Rattle.process_table.proofs.CellLaws.{without-stays, without-was, cells-without}
use Rattle.process_table.proofs.Sizes.{cost-fewer, cost-no_pages, len-retain}
use Rattle.process_table.proofs.SpaceLaws.{not_less}
use Rattle.page_words.specs.FiniteMap as map

-- ---- What is left where slots and offers go

without-keys : (S : Spaces) (gone : Slot → Bool) (slot : Slot) → map.contains_key (without S gone) slot ≡ true → map.contains_key S slot ≡ true
without-keys S gone slot h = let e = some_value (map.get (without S gone) slot) h in let l = without-was S gone slot e.0 e.1 in ap is_some l.1

-- an offer that is left passes the test, and was there
pub retained : (offers : Offers) (stay : OfferKey → Bool) (key : OfferKey) (right : Bool) → map.get (map.retain_keys offers stay) key ≡ Some right → (stay key ≡ true) × (map.get offers key ≡ Some right)
retained offers stay key right h = grind (arith, get-retain_keys)

abbrev offered_at : OfferKey → Slot
offered_at key = at_page key.offerer key.page

module _ (s : State) (w : IsWellFormed s) (gone : Slot → Bool) (stay : OfferKey → Bool) (book : Book)
    (slots : (key : OfferKey) → stay key ≡ true → gone (offered_at key) ≡ false)
    (targets : (key : OfferKey) → stay key ≡ true → is_live s key.target ≡ true → map.contains_key book key.target ≡ true) where
  abbrev left_state : State
  left_state = record { spaces = without s.spaces gone; book = book; offers = map.retain_keys s.offers stay }

  -- an offer that is left is of a slot that is left, to a process that is
  offers-left : (key : OfferKey) (right : Bool) → map.get (map.retain_keys s.offers stay) key ≡ Some right → IsOfferIn left_state key right
  offers-left key right h =
      let r = retained s.offers stay key right h in
      let old = w.offers key right r.1 in
      record {
        target = targets key r.0 old.target;
        another = old.another;
        offered = (_, without-stays s.spaces gone (offered_at key) old.offered.0 old.offered.1 (slots key r.0), old.offered.2);
      }

  few-left : (p : ℕ) → map.len (pending (map.retain_keys s.offers stay) p) ≤ 32
  few-left p = let a = len-retain s.offers stay (λ key. key.offerer == p) in let b = w.few p in omega (arith, a, b)

-- ---- An unmap

module _ (s : State) (p page : ℕ) (w : IsWellFormed s) where
  other_slot : (key : OfferKey) → not ((key.offerer == p) && (key.page == page)) ≡ true → is_slot p page (offered_at key) ≡ false
  other_slot key h = grind (arith, same_cases, eq-eqb, not-true)

  -- an unmap, of any page
  pub well_formed-unmap : IsWellFormed (after_unmap s p page)
  well_formed-unmap = record {
    root = w.root;
    root_parent = w.root_parent;
    processes = w.processes;
    rooms = λ q h. let a = cost-fewer s.spaces (without s.spaces (is_slot p page)) q (without-keys s.spaces (is_slot p page)) in let b = w.rooms q h in omega (arith, a, b);
    owners = λ slot cell h. let l = without-was s.spaces (is_slot p page) slot cell h in w.owners slot l.0 l.1;
    cells = cells-without s.spaces (is_slot p page) w.cells;
    offers = offers-left s w (is_slot p page) (λ key. not ((key.offerer == p) && (key.page == page))) s.book other_slot (λ key _ live. live);
    few = few-left s w (is_slot p page) (λ key. not ((key.offerer == p) && (key.page == page))) s.book other_slot (λ key _ live. live);
  }

-- ---- A spawn

find-range : (t : ℕ → Bool) (a n k : ℕ) → find t (range_with_len a n) ≡ Some k → (k < a + n) × (t k ≡ true)
find-range t a zero k h = cc
find-range t a (suc n) k h = by (t a) refl (λ later. let r = find-range t (a + 1) n k later in let l = r.0 in let m : k < a + suc n = omega (arith, l) in (m, r.1)) h
  where
    by : (b : Bool) → t a ≡ b → (find t (range_with_len (a + 1) n) ≡ Some k → (k < a + suc n) × (t k ≡ true)) → cond b (Some a) (find t (range_with_len (a + 1) n)) ≡ Some k → (k < a + suc n) × (t k ≡ true)
    by b is rest e = grind (arith, same_Some)

-- the next number is one below 64 that is not live
pub next_free : (book : Book) (k : ℕ) → next_number book ≡ Some k → (k < 64) × (map.contains_key book k ≡ false)
next_free book k h = let r = find-range (λ p. not (map.contains_key book p)) 0 64 k h in let l = r.0 in let m : k < 64 = omega (arith, l) in (m, not-true (map.contains_key book k) r.1)

pub spawn_allowed : (a : Bool) (x : Option ℕ) (c : Bool) → (if a then Some BadQuota else if is_none x then Some TableFull else if c then Some Quota else None) ≡ None → (a ≡ false) × ((k : ℕ) × (x ≡ Some k)) × (c ≡ false)
spawn_allowed a x c h = grind arith

-- each process's parent is in the book
pub parents_in : (s : State) → IsWellFormed s → Parents s.book
parents_in s w p member h = let r = w.processes p member h in some_value (map.get s.book member.parent) r.1

module _ (s : State) (p quota k : ℕ) (w : IsWellFormed s) (live : is_live s p ≡ true) (next : next_number s.book ≡ Some k) (some : 1 ≤ quota) (fits : quota ≤ room s p) where
  abbrev child : Member
  child = record { parent = p; quota = quota }

  abbrev book_more : Book
  book_more = map.insert s.book k child

  free : map.contains_key s.book k ≡ false
  free = (next_free s.book k next).1

  none : map.get s.book k ≡ None
  none = no_value (map.get s.book k) free

  live_apart : (q : ℕ) → is_live s q ≡ true → q ≢ k
  live_apart q h e = let f = free in let t : map.contains_key s.book k ≡ true = ap (map.contains_key s.book) (sym e) ∙ h in cc

  get-child : map.get book_more k ≡ Some child
  get-child = get-insert s.book k child k ∙ ap (λ b. cond b (Some child) (map.get s.book k)) (same_itself nat_order k)

  -- who is in the book now is the child, or was there
  child_or_other : (q : ℕ) (member : Member) → map.get book_more q ≡ Some member → (q ≢ k) → map.get s.book q ≡ Some member
  child_or_other q member h n = sym (get-insert_other s.book k child q n) ∙ h

  quota_of-other : (q : ℕ) → q ≢ k → quota_of book_more q ≡ quota_of s.book q
  quota_of-other q n = ap (λ o. unwrap_or (option_map (λ (m : Member). m.quota) o) 0) (get-insert_other s.book k child q n)

  given-parent : given book_more p ≡ quota + given s.book p
  given-parent = given-insert s.book k child none p ∙ ap (λ b. cond b quota 0 + given s.book p) (child_yes p k quota (λ e. live_apart 0 w.root (sym e)))

  given-other : (q : ℕ) → q ≢ p → given book_more q ≡ 0 + given s.book q
  given-other q n = given-insert s.book k child none q ∙ ap (λ b. cond b quota 0 + given s.book q) (child_no p q k quota (λ e. n (sym e)))

  no_slots : (page : ℕ) → map.contains_key s.spaces (at_page k page) ≡ false
  no_slots page = by (map.get s.spaces (at_page k page)) refl
    where
      by : (x : Option Cell) → map.get s.spaces (at_page k page) ≡ x → is_some x ≡ false
      by None is = refl
      by (Some c) is = absurd (live_apart k (w.owners (at_page k page) c is) refl)

  room_child : cost s.spaces k + given book_more k ≤ quota_of book_more k
  room_child =
      grind (
        arith,
        cost-no_pages s.spaces k no_slots,
        given-none s.book k none (parents_in s w),
        no_slots,
        given-other,
        live_apart,
        none,
        parents_in,
        get-child,
      )

  room_parent : cost s.spaces p + given book_more p ≤ quota_of book_more p
  room_parent = grind (arith, given-parent, quota_of-other, live_apart)

  rooms-spawn : (q : ℕ) → map.contains_key book_more q ≡ true → cost s.spaces q + given book_more q ≤ quota_of book_more q
  rooms-spawn q h = grind (arith, cases_eq, room_child, room_parent, given-other, quota_of-other, get-insert_other)

  processes-spawn : (q : ℕ) (member : Member) → map.get book_more q ≡ Some member → (q < 64) × (map.contains_key book_more member.parent ≡ true)
  processes-spawn q member h = elim (cases_eq q k) [
    | inl is ↦ (
      subst (λ n. n < 64) (sym is) (next_free s.book k next).0,
      contains_key-insert s.book k child member.parent (ap (λ (m : Member). map.contains_key s.book m.parent) (same_Some member child (sym h ∙ ap (map.get book_more) is ∙ get-child)) ∙ live),
    )
    | inr other ↦ (let old = w.processes q member (child_or_other q member h other) in (old.0, contains_key-insert s.book k child member.parent old.1))
  ]

  offers-spawn : (key : OfferKey) (right : Bool) → map.get s.offers key ≡ Some right → IsOfferIn (record s { book = book_more }) key right
  offers-spawn key right h =
      let old = w.offers key right h in
      record { target = contains_key-insert s.book k child key.target old.target; another = old.another; offered = old.offered }

  spawned : IsWellFormed (record s { book = map.insert s.book k (record { parent = p; quota = quota }) })
  spawned = record {
    root = contains_key-insert s.book k child 0 w.root;
    root_parent = λ member h. w.root_parent member (child_or_other 0 member h (live_apart 0 w.root));
    processes = processes-spawn;
    rooms = rooms-spawn;
    owners = λ slot cell h. contains_key-insert s.book k child slot.pid (w.owners slot cell h);
    cells = w.cells;
    offers = offers-spawn;
    few = w.few;
  }

  root_spawned : map.get book_more 0 ≡ map.get s.book 0
  root_spawned = get-insert_other s.book k child 0 (live_apart 0 w.root)

module _ (s : State) (p quota : ℕ) (w : IsWellFormed s) (live : is_live s p ≡ true) (allowed : spawn_refusal s p quota ≡ None) where
  parts : ((quota == 0) ≡ false) × ((k : ℕ) × (next_number s.book ≡ Some k)) × (nat_lt (room s p) quota ≡ false)
  parts = spawn_allowed (quota == 0) (next_number s.book) (nat_lt (room s p) quota) allowed

  child_is : child_of s ≡ parts.1.0
  child_is = ap (λ o. unwrap_or o 0) parts.1.1

  quota_some : 1 ≤ quota
  quota_some = grind (arith, cases_eq, eq-eqb)

  -- a spawn that is not refused
  pub well_formed-spawn : IsWellFormed (after_spawn s p quota)
  well_formed-spawn =
      subst (λ k. IsWellFormed (record s { book = map.insert s.book k (record { parent = p; quota = quota }) })) (sym child_is)
      (spawned s p quota parts.1.0 w live parts.1.1 quota_some (not_less (room s p) quota parts.2))

  -- it leaves the root's entry
  pub root-spawn : map.get (after_spawn s p quota).book 0 ≡ map.get s.book 0
  root-spawn = grind (arith, child_is, root_spawned, parts, quota_some, not_less)

-- ---- An exit

exit_allowed : (a c : Bool) → (if a then Some RootExit else if c then Some HasChildren else None) ≡ None → (a ≡ false) × (c ≡ false)
exit_allowed a c h = grind arith

neither : (a b : Bool) → not (a || b) ≡ true → (a ≡ false) × (b ≡ false)
neither a b h = grind arith

module _ (s : State) (p : ℕ) (w : IsWellFormed s) (live : is_live s p ≡ true) (allowed : exit_refusal s p ≡ None) where
  causes : ((p == 0) ≡ false) × (nat_lt 0 (number_of_children s.book p) ≡ false)
  causes = exit_allowed (p == 0) (nat_lt 0 (number_of_children s.book p)) allowed

  not_root : p ≢ 0
  not_root = eqb-false p 0 causes.0

  childless : number_of_children s.book p ≤ 0
  childless = not_less 0 (number_of_children s.book p) causes.1

  abbrev book_less : Book
  book_less = map.remove s.book p

  was_other : (q : ℕ) (member : Member) → map.get book_less q ≡ Some member → (q ≢ p) × (map.get s.book q ≡ Some member)
  was_other q member h = grind (arith, same_cases, get-remove, get-remove_other)

  still_live : (q : ℕ) → q ≢ p → is_live s q ≡ true → map.contains_key book_less q ≡ true
  still_live q n h = ap is_some (get-remove_other s.book p q n) ∙ h

  -- nobody's parent is the process that exits
  parent_stays : (q : ℕ) (member : Member) → map.get s.book q ≡ Some member → member.parent ≢ p
  parent_stays q member h e =
      grind (arith, number-remove s.book q member h p, childless, cases_eq, not_root, child_yes)

  given_less : (q : ℕ) → given book_less q ≤ given s.book q
  given_less q = let m = some_value (map.get s.book p) live in let a = given-remove s.book p m.0 m.1 q in omega (arith, a)

  rooms-exit : (q : ℕ) → map.contains_key book_less q ≡ true → cost (without s.spaces (is_of p)) q + given book_less q ≤ quota_of book_less q
  rooms-exit q h =
      let m = some_value (map.get book_less q) h in
      let o = was_other q m.0 m.1 in
      let a = cost-fewer s.spaces (without s.spaces (is_of p)) q (without-keys s.spaces (is_of p)) in
      grind (arith, given_less, get-remove_other)

  processes-exit : (q : ℕ) (member : Member) → map.get book_less q ≡ Some member → (q < 64) × (map.contains_key book_less member.parent ≡ true)
  processes-exit q member h =
      grind (arith, was_other q member h, w.processes q member (was_other q member h).1, still_live, parent_stays)

  owners-exit : (slot : Slot) (cell : Cell) → map.get (without s.spaces (is_of p)) slot ≡ Some cell → map.contains_key book_less slot.pid ≡ true
  owners-exit slot cell h = grind (arith, without-was, still_live, eqb-false)

  abbrev stays : OfferKey → Bool
  stays key = not ((key.offerer == p) || (key.target == p))

  offer_slot : (key : OfferKey) → stays key ≡ true → is_of p (offered_at key) ≡ false
  offer_slot key h = (neither (key.offerer == p) (key.target == p) h).0

  offer_target : (key : OfferKey) → stays key ≡ true → is_live s key.target ≡ true → map.contains_key book_less key.target ≡ true
  offer_target key h = still_live key.target (eqb-false key.target p (neither (key.offerer == p) (key.target == p) h).1)

  -- an exit that is not refused
  pub well_formed-exit : IsWellFormed (after_exit s p)
  well_formed-exit = record {
    root = still_live 0 (λ e. not_root (sym e)) w.root;
    root_parent = λ member h. w.root_parent member (was_other 0 member h).1;
    processes = processes-exit;
    rooms = rooms-exit;
    owners = owners-exit;
    cells = cells-without s.spaces (is_of p) w.cells;
    offers = offers-left s w (is_of p) stays book_less offer_slot offer_target;
    few = few-left s w (is_of p) stays book_less offer_slot offer_target;
  }

  -- it leaves the root's entry
  pub root-exit : map.get (after_exit s p).book 0 ≡ map.get s.book 0
  root-exit = get-remove_other s.book p 0 (λ e. not_root (sym e))

-- ---- The opening

module _ (n : ℕ) (two : 2 ≤ n) where
  abbrev root : Member
  root = record { parent = 0; quota = n - 1 }

  -- a machine of two frames or more, as it boots
  pub well_formed-open : IsWellFormed (open_with n)
  well_formed-open = grind arith

-- ---- All costs

-- what all live processes cost together is at most the root's quota
pub total-within : (s : State) → IsWellFormed s → total s ≤ quota_of s.book 0
total-within s w =
    let m = some_value (map.get s.book 0) w.root in
    let a = costs_within s.book (cost s.spaces) m.0 m.1 (parents_in s w) each in
    let b = quota_is 0 m.0 m.1 in
    omega (arith, a, b)
  where
    quota_is : (p : ℕ) (member : Member) → map.get s.book p ≡ Some member → quota_of s.book p ≡ member.quota
    quota_is p member h = ap (λ o. unwrap_or (option_map (λ (m : Member). m.quota) o) 0) h

    each : (p : ℕ) (member : Member) → map.get s.book p ≡ Some member → cost s.spaces p + given s.book p ≤ member.quota
    each p member h = let a = w.rooms p (ap is_some h) in let b = quota_is p member h in omega (arith, a, b)
