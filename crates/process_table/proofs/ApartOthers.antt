-- What the calls of others leave of a process apart, and how a child begins.
use Rattle.process_table.proofs.Prelude.{◌≡◌, ◌≢◌, ℕ, ◌+◌, ◌&&◌, ◌||◌, not, Bool, true, false, cond, List, [], ◌∷◌, map, refl, sym, ap, ◌∙◌, Option, Some, None, is_some, unwrap_or, arith, inl, inr, if◌then◌else◌, option_map, nat_cmp, cases_eq, ne_eqb, same_Some, offset_number, byte_count, touched, Size, Map, same, nat_order, Set, some_value, no_value, same_cases, get-remove_other, Slot, slot_order, Cell, Spaces, pages_of, fresh, cell_or_fresh, with_bytes, set_bytes, set_holders, write_at, bytes_of, at_page, slot_at, accessed, stored, with_page, with_pages, all_accessed, all_stored, copied, contains-pages_of, copied-own, copied-other, Member, is_child, number_of_children, child_no, get-insert_other, OfferKey, Offers, offer_order, offer_key, State, is_live, child_of, accept_refusal, spawn_refusal, fork_refusal, offered, after_map, after_unmap, after_protect, after_offer, after_withdraw, after_accept, after_spawn, after_fork, after_exit, after_load, after_store, IsWellFormed, list_any, tied_then, is_some-find, same_itself, get-insert, get-map_values, get-collect, IsApart, AreAlike, held_in, lone, FirstPage, first_cell, first_page, pages_held, alone_with, number-insert, number-remove, number-none, copy_of, false_from_ne_true}
use Rattle.process_table.proofs.Apart.{in_lone, pages_differ, pids_differ, set_bytes_outside, without_others}
use Rattle.process_table.proofs.Lemmas.{retained, next_free, parents_in, spawn_allowed, get-inserted, get-inserted_other, may_fork, may_accept}
use Rattle.page_words.specs.FiniteMap as map
use Rattle.page_words.specs.FiniteSet as set

-- a state leaves of another what a process has, and gives it no child and no offer
record IsLeft (s t : State) (p : ℕ) : Type 0 where
  pages : (n : ℕ) → map.get t.spaces (at_page p n) ≡ map.get s.spaces (at_page p n)
  member : map.get t.book p ≡ map.get s.book p
  childless : number_of_children t.book p ≡ 0
  offers : (key : OfferKey) (right : Bool) → map.get t.offers key ≡ Some right → key.offerer ≢ p

left_alike : (s t : State) (p : ℕ) → IsApart s p → IsLeft s t p → AreAlike s p t p
left_alike s t p a l = grind arith

-- where spaces and offers alone change
spaces_left : (s : State) (p : ℕ) (T : Spaces) (O : Offers) → IsApart s p → ((n : ℕ) → map.get T (at_page p n) ≡ map.get s.spaces (at_page p n))
    → ((key : OfferKey) (right : Bool) → map.get O key ≡ Some right → key.offerer ≢ p) → AreAlike s p (record { spaces = T; book = s.book; offers = O }) p
spaces_left s p T O a pages offers = left_alike s (record { spaces = T; book = s.book; offers = O }) p a (record { pages = pages; member = refl; childless = a.childless; offers = offers })

retained_left : (s : State) (p : ℕ) (stay : OfferKey → Bool) → IsApart s p → (key : OfferKey) (right : Bool) → map.get (map.retain_keys s.offers stay) key ≡ Some right → key.offerer ≢ p
retained_left s p stay a key right h = a.offers_none key right (retained s.offers stay key right h).1

-- ---- Accesses of another, by spaces alone

-- no group of a slot of one process holds a slot of the other
abbrev IsOutside : Spaces → ℕ → ℕ → Type 0
IsOutside S q p = (page n : ℕ) → set.contains (cell_or_fresh S (at_page q page)).holders (at_page p n) ≡ false

-- a page that is mapped now is as it was counted before: fresh where nothing stood
cell_paged : (S : Spaces) (q page n : ℕ) → cell_or_fresh (with_page S q page) (at_page q n) ≡ cell_or_fresh S (at_page q n)
cell_paged S q page n = grind (arith, cases_eq, get-inserted, get-inserted_other, pages_differ)

-- a store leaves all groups of its process
pub holders_stored : (S : Spaces) (q page at n : ℕ) (new : List ℕ) → (cell_or_fresh (stored S (at_page q page) at new) (at_page q n)).holders ≡ (cell_or_fresh S (at_page q n)).holders
holders_stored S q page at n new = elim (cases_eq n page) [
  | inl same ↦
      ap (λ m. (cell_or_fresh (stored S (at_page q page) at new) (at_page q m)).holders) same
      ∙ ap (λ (x : Option Cell). (unwrap_or x (fresh (at_page q page) true)).holders) (get-inserted spaces (at_page q page) written)
      ∙ sym (ap (λ m. (cell_or_fresh S (at_page q m)).holders) same)
  | inr other ↦
      ap (λ (x : Option Cell). (unwrap_or x (fresh (at_page q n) true)).holders)
      (get-inserted_other spaces (at_page q page) written (at_page q n) (pages_differ q n page other)
      ∙ get-map_values slot_order (λ r c. if set.contains group r then with_bytes c bytes else c) S (at_page q n))
      ∙ (grind (arith, group))
]
  where
    group : Set slot_order
    group = (cell_or_fresh S (at_page q page)).holders

    bytes : List ℕ
    bytes = write_at (cell_or_fresh S (at_page q page)).bytes at new

    spaces : Spaces
    spaces = set_bytes S group bytes

    written : Cell
    written = record (cell_or_fresh S (at_page q page)) { bytes = bytes; accessed = true; dirty = true }

module _ (p q : ℕ) (d : q ≢ p) where
  paged_outside : (S : Spaces) (pages : List ℕ) → IsOutside S q p → IsOutside (with_pages S q pages) q p
  paged_outside S [] out = out
  paged_outside S (page ∷ pages) out = paged_outside (with_page S q page) pages (λ m n. ap (λ (c : Cell). set.contains c.holders (at_page p n)) (cell_paged S q page m) ∙ out m n)

  paged_same : (S : Spaces) (pages : List ℕ) (n : ℕ) → map.get (with_pages S q pages) (at_page p n) ≡ map.get S (at_page p n)
  paged_same S [] n = refl
  paged_same S (page ∷ pages) n =
      paged_same (with_page S q page) pages n ∙ (grind (arith, get-inserted_other, pids_differ))

  accessed_same : (S : Spaces) (pages : List ℕ) (n : ℕ) → map.get (all_accessed S q pages) (at_page p n) ≡ map.get S (at_page p n)
  accessed_same S [] n = refl
  accessed_same S (page ∷ pages) n =
      grind (arith, get-inserted_other, pids_differ, accessed_same (accessed S (at_page q page)) pages n)

  stored_same : (S : Spaces) (page at : ℕ) (new : List ℕ) → IsOutside S q p → (n : ℕ) → map.get (stored S (at_page q page) at new) (at_page p n) ≡ map.get S (at_page p n)
  stored_same S page at new out n =
      let c : Cell = cell_or_fresh S (at_page q page) in
      let bytes = write_at c.bytes at new in
      get-inserted_other (set_bytes S c.holders bytes) (at_page q page) (record c { bytes = bytes; accessed = true; dirty = true }) (at_page p n) (pids_differ p q n page d)
      ∙ set_bytes_outside S c.holders bytes (at_page p n) (out page n)

  all_stored_same : (S : Spaces) (addr : ℕ) (bytes : List ℕ) → IsOutside S q p → (n : ℕ) → map.get (all_stored S q addr bytes) (at_page p n) ≡ map.get S (at_page p n)
  all_stored_same S addr [] out n = refl
  all_stored_same S addr (byte ∷ bytes) out n =
      grind (
        arith,
        holders_stored,
        stored_same,
        all_stored_same (stored S (slot_at q addr) (offset_number addr) (byte ∷ [])) (addr + 1) bytes,
      )

module _ (s : State) (p q : ℕ) (w : IsWellFormed s) (a : IsApart s p) (d : q ≢ p) where
  -- a group of a slot of another holds no slot of it
  outside_group : (page n : ℕ) → set.contains (cell_or_fresh s.spaces (at_page q page)).holders (at_page p n) ≡ false
  outside_group page n = by (map.get s.spaces (at_page q page)) refl
    where
      by : (x : Option Cell) → map.get s.spaces (at_page q page) ≡ x → set.contains (unwrap_or x (fresh (at_page q page) true)).holders (at_page p n) ≡ false
      by None is = in_lone (at_page q page) (at_page p n) (pids_differ p q n page d)
      by (Some c) is = false_from_ne_true (set.contains c.holders (at_page p n)) (λ h.
          let at = w.cells (at_page q page) c is in
          let o = at.alike (at_page p n) h in
          let own = a.shares_none n o.0 o.1 in
          let shared : set.contains (lone (at_page p n)) (at_page q page) ≡ true = ap (λ (g : Set slot_order). set.contains g (at_page q page)) (sym own ∙ o.2) ∙ at.own in
          let apart = in_lone (at_page p n) (at_page q page) (λ e. pids_differ p q n page d (sym e)) in
          cc)

  inserted_left : (page : ℕ) (c : Cell) → AreAlike s p (record s { spaces = map.insert s.spaces (at_page q page) c }) p
  inserted_left page c = spaces_left s p (map.insert s.spaces (at_page q page) c) s.offers a (λ n. get-inserted_other s.spaces (at_page q page) c (at_page p n) (pids_differ p q n page d)) a.offers_none

  -- an access of another
  pub load_leaves : (addr : ℕ) (size : Size) → AreAlike s p (after_load s q addr size) p
  load_leaves addr size =
      let pages = touched addr size in
      let T : Spaces = with_pages s.spaces q pages in
      spaces_left s p (all_accessed T q pages) s.offers a (λ n. accessed_same p q d T pages n ∙ paged_same p q d s.spaces pages n) a.offers_none

  pub map_leaves : (page : ℕ) (write : Bool) → AreAlike s p (after_map s q page write) p
  map_leaves page write = inserted_left page (fresh (at_page q page) write)

  pub protect_leaves : (page : ℕ) (write : Bool) → AreAlike s p (after_protect s q page write) p
  protect_leaves page write = inserted_left page (record (cell_or_fresh s.spaces (at_page q page)) { write = write })

  pub store_leaves : (addr : ℕ) (size : Size) (value : ℕ) → AreAlike s p (after_store s q addr size value) p
  store_leaves addr size value =
      let pages = touched addr size in
      let T : Spaces = with_pages s.spaces q pages in
      let bytes = bytes_of (byte_count size) value in
      spaces_left s p (all_stored T q addr bytes) s.offers a
      (λ n. all_stored_same p q d T addr bytes (paged_outside p q d s.spaces pages outside_group) n ∙ paged_same p q d s.spaces pages n)
      a.offers_none

  pub unmap_leaves : (page : ℕ) → AreAlike s p (after_unmap s q page) p
  unmap_leaves page = grind (arith, spaces_left, without_others, retained_left, same_cases, pids_differ)

  pub offer_leaves : (page target : ℕ) (write : Bool) → AreAlike s p (after_offer s q page target write) p
  offer_leaves page target write = grind (arith, spaces_left, same_cases, get-insert)

  pub withdraw_leaves : (page target : ℕ) → AreAlike s p (after_withdraw s q page target) p
  withdraw_leaves page target = spaces_left s p s.spaces (map.remove s.offers (offer_key q page target)) a (λ n. refl) (retained_left s p (λ k. not (same offer_order (offer_key q page target) k)) a)

-- spaces where a group holds other slots, at a slot that is not in it
set_holders_outside : (S : Spaces) (group holders : Set slot_order) (slot : Slot) → set.contains group slot ≡ false → map.get (set_holders S group holders) slot ≡ map.get S slot
set_holders_outside S group holders slot out = grind (arith, get-map_values)

pub accept_leaves : (s : State) (p q giver giver_page page : ℕ) → IsWellFormed s → IsApart s p → q ≢ p → accept_refusal s q giver giver_page page ≡ None → AreAlike s p (after_accept s q giver giver_page page) p
accept_leaves s p q giver giver_page page w a d allowed =
    let key = offer_key giver giver_page q in
    let there = some_value (map.get s.offers key) (may_accept s q giver giver_page page allowed).there in
    let g : Cell = cell_or_fresh s.spaces (at_page giver giver_page) in
    let wider = set.insert g.holders (at_page q page) in
    let right = offered s giver giver_page q in
    let spaces : Spaces = set_holders s.spaces g.holders wider in
    let c : Cell = record { write = right; may = right; accessed = false; dirty = false; bytes = g.bytes; holders = wider } in
    spaces_left s p (map.insert spaces (at_page q page) c) (map.remove s.offers key) a
    (λ n. get-inserted_other spaces (at_page q page) c (at_page p n) (pids_differ p q n page d)
    ∙ set_holders_outside s.spaces g.holders wider (at_page p n) (outside_group s p giver w a (a.offers_none key there.0 there.1) giver_page n))
    (retained_left s p (λ k. not (same offer_order key k)) a)

pub exit_leaves : (s : State) (p q : ℕ) → IsApart s p → q ≢ p → is_live s q ≡ true → AreAlike s p (after_exit s q) p
exit_leaves s p q a d live =
    let m = some_value (map.get s.book q) live in
    let before = a.childless in
    let fewer = number-remove s.book q m.0 m.1 p in
    grind (arith, left_alike, without_others, ne_eqb, get-remove_other, retained_left)

-- ---- Spawns

-- where a spawn is not refused, the child's number is not live
pub child_free : (s : State) (p quota : ℕ) → spawn_refusal s p quota ≡ None → is_live s (child_of s) ≡ false
child_free s p quota allowed = grind (arith, spawn_allowed, next_free)

-- who is live is another
pub live_differ : (s : State) (p k : ℕ) → is_live s p ≡ true → is_live s k ≡ false → p ≢ k
live_differ s p k live free e = let same = ap (is_live s) e in cc

-- a new child of another, with any pages, leaves what a process has
pub child_leaves : (s : State) (p q k quota : ℕ) (T : Spaces) → IsApart s p → q ≢ p → is_live s k ≡ false → ((n : ℕ) → map.get T (at_page p n) ≡ map.get s.spaces (at_page p n))
    → AreAlike s p (record { spaces = T; book = map.insert s.book k (record { parent = q; quota = quota }); offers = s.offers }) p
child_leaves s p q k quota T a d free pages =
    let child : Member = record { parent = q; quota = quota } in
    let other : ◌≡◌ {A = ℕ} (cond (is_child p (k, child)) 1 0) 0 = ap (λ b. cond b 1 0) (child_no q p k quota d) in
    left_alike s (record { spaces = T; book = map.insert s.book k child; offers = s.offers }) p a (record {
      pages = pages;
      member = get-insert_other s.book k child p (live_differ s p k a.live free);
      childless = omega (arith, a.childless, number-insert s.book k child (no_value (map.get s.book k) free) p, other);
      offers = a.offers_none;
    })

pub spawn_leaves : (s : State) (p q quota : ℕ) → IsApart s p → q ≢ p → spawn_refusal s q quota ≡ None → AreAlike s p (after_spawn s q quota) p
spawn_leaves s p q quota a d allowed = child_leaves s p q (child_of s) quota s.spaces a d (child_free s q quota allowed) (λ n. refl)

module _ (s : State) (k : ℕ) (w : IsWellFormed s) (free : is_live s k ≡ false) where
  -- who is not live has no page
  pub no_page : (page : ℕ) → map.get s.spaces (at_page k page) ≡ None
  no_page page = grind arith

  -- nor an offer
  no_offer : (key : OfferKey) (right : Bool) → map.get s.offers key ≡ Some right → key.offerer ≢ k
  no_offer key right h e = grind (arith, no_page)

-- ---- Forks

-- where a fork is not refused, the child's number is not live
pub fork_free : (s : State) (p quota : ℕ) → fork_refusal s p quota ≡ None → is_live s (child_of s) ≡ false
fork_free s p quota allowed = child_free s p quota (may_fork s p quota allowed).spawn

pub fork_leaves : (s : State) (p q quota : ℕ) → IsApart s p → q ≢ p → fork_refusal s q quota ≡ None → AreAlike s p (after_fork s q quota) p
fork_leaves s p q quota a d allowed =
    let free = fork_free s q quota allowed in
    child_leaves s p q (child_of s) quota (copied s.spaces q (child_of s)) a d free
    (λ n. copied-other s.spaces q (child_of s) (at_page p n) (live_differ s p (child_of s) a.live free))

-- ---- A process alone

-- whether a page stands among the slots of these pages
among_pages : (p n : ℕ) (pages : List ℕ) → list_any (same slot_order (at_page p n)) (map (at_page p) pages) ≡ list_any (same nat_order n) pages
among_pages p n [] = refl
among_pages p n (page ∷ pages) =
    let first : same slot_order (at_page p n) (at_page p page) ≡ same nat_order n page =
    sym (tied_then (nat_cmp p p) (nat_cmp n page)) ∙ ap (λ b. b && same nat_order n page) (same_itself nat_order p) in
    λ i. first i || among_pages p n pages i

-- what process 1 has at each page, where it is alone with these
pub page_alone : (root quota : ℕ) (pages : Map nat_order FirstPage) (n : ℕ) → map.get (alone_with root quota pages).spaces (at_page 1 n) ≡ option_map (first_cell (at_page 1 n)) (map.get pages n)
page_alone root quota pages n =
    get-collect slot_order (λ slot. option_map (first_cell slot) (map.get pages slot.page)) (map (at_page 1) (map.keys pages)) (at_page 1 n)
    ∙ ap (λ b. cond b (option_map (first_cell (at_page 1 n)) (map.get pages n)) None) (among_pages 1 n (map.keys pages) ∙ sym (is_some-find nat_cmp n pages.entries))
    ∙ (grind arith)

-- the group of a page that a process begins with
first_lone : (slot : Slot) (x : Option FirstPage) (c : Cell) → option_map (first_cell slot) x ≡ Some c → c.holders ≡ lone slot
first_lone slot x c h = grind (arith, same_Some)

alone_apart : (root quota : ℕ) (pages : Map nat_order FirstPage) → IsApart (alone_with root quota pages) 1
alone_apart root quota pages = record {
  live = refl;
  not_root = λ e. cc;
  childless = refl;
  offers_none = λ key right h. cc;
  shares_none = λ n c h. first_lone (at_page 1 n) (map.get pages n) c (sym (page_alone root quota pages n) ∙ h);
}

-- a new child with some pages, each in a group of its own, is alike to one that is alone with them
pub child_alike : (s : State) (p k root quota : ℕ) (T : Spaces) (pages : Map nat_order FirstPage) → IsWellFormed s → is_live s p ≡ true → is_live s k ≡ false
    → ((n : ℕ) → map.get T (at_page k n) ≡ option_map (first_cell (at_page k n)) (map.get pages n))
    → AreAlike (record { spaces = T; book = map.insert s.book k (record { parent = p; quota = quota }); offers = s.offers }) k (alone_with root quota pages) 1
child_alike s p k root quota T pages w live free copies =
    let none = no_value (map.get s.book k) free in
    let child : Member = record { parent = p; quota = quota } in
    let more = number-insert s.book k child none k in
    let other : ◌≡◌ {A = ℕ} (cond (is_child k (k, child)) 1 0) 0 = ap (λ b. cond b 1 0) (child_no p k k quota (live_differ s p k live free)) in
    let here : map.get (map.insert s.book k child) k ≡ Some child = get-insert s.book k child k ∙ ap (λ b. cond b (Some child) (map.get s.book k)) (same_itself nat_order k) in
    record {
      one = record {
        live = ap is_some here;
        not_root = λ e. live_differ s 0 k w.root free (sym e);
        childless = omega (arith, number-none s.book k none (parents_in s w), more, other);
        offers_none = no_offer s k w free;
        shares_none = λ n c h. first_lone (at_page k n) (map.get pages n) c (sym (copies n) ∙ h);
      };
      other = alone_apart root quota pages;
      pages = λ n. ap (option_map held_in) (copies n) ∙ (grind arith) ∙ sym (ap (option_map held_in) (page_alone root quota pages n));
      quota = ap (λ (x : Option Member). unwrap_or (option_map (λ (m : Member). m.quota) x) 0) here;
    }

pub spawn_alike : (s : State) (p root quota : ℕ) → IsWellFormed s → is_live s p ≡ true → spawn_refusal s p quota ≡ None → AreAlike (after_spawn s p quota) (child_of s) (alone_with root quota map.empty) 1
spawn_alike s p root quota w live allowed =
    let free = child_free s p quota allowed in
    child_alike s p (child_of s) root quota s.spaces map.empty w live free (no_page s (child_of s) w free)

-- whether a page is one of a process's
among_own : (S : Spaces) (p n : ℕ) → list_any (same nat_order n) (set.items (pages_of S p)) ≡ map.contains_key S (at_page p n)
among_own S p n = sym (is_some-find nat_cmp n (pages_of S p).entries) ∙ contains-pages_of S p n

copied_first : (slot : Slot) (x : Option Cell) → option_map (copy_of slot) x ≡ option_map (first_cell slot) (option_map first_page x)
copied_first slot x = grind arith

-- what the child of a fork has at each page
copied_held : (s : State) (p k n : ℕ) → map.get (copied s.spaces p k) (at_page k n) ≡ option_map (first_cell (at_page k n)) (map.get (pages_held s p) n)
copied_held s p k n =
    copied-own s.spaces p k n
    ∙ copied_first (at_page k n) (map.get s.spaces (at_page p n))
    ∙ sym (ap (option_map (first_cell (at_page k n)))
    (get-collect nat_order (λ page. option_map first_page (map.get s.spaces (at_page p page))) (set.items (pages_of s.spaces p)) n
    ∙ ap (λ b. cond b (option_map first_page (map.get s.spaces (at_page p n))) None) (among_own s.spaces p n)
    ∙ (grind arith)))

pub fork_alike : (s : State) (p root quota : ℕ) → IsWellFormed s → is_live s p ≡ true → fork_refusal s p quota ≡ None → AreAlike (after_fork s p quota) (child_of s) (alone_with root quota (pages_held s p)) 1
fork_alike s p root quota w live allowed =
    let free = fork_free s p quota allowed in
    child_alike s p (child_of s) root quota (copied s.spaces p (child_of s)) (pages_held s p) w live free (copied_held s p (child_of s))
