-- The replies of a process apart, and the effect of calls on it.
use Rattle.process_table.proofs.Prelude.{◌≡◌, ◌≢◌, ℕ, ◌+◌, ◌&&◌, not, Bool, true, false, List, [], ◌∷◌, length, map, refl, sym, ap, ◌∙◌, Option, Some, None, is_some, unwrap_or, sum_by, arith, if◌then◌else◌, slice_index, option_map, cases_eq, ne_eqb, same_Some, slot_number, is_user_page, page_number, offset_number, byte_count, touched, covered, Size, same, nat_order, Set, same_itself, get-map_values, contains-insert, retain-insert, is_some-map, Slot, slot_order, Cell, Spaces, cost, cost_of, need, pages_of, regions_of, fresh, cell_or_fresh, with_holders, set_bytes, write_at, bytes_of, without, at_page, slot_at, accessed, stored, access_need, with_page, with_pages, all_accessed, all_stored, value_of, missing, same_pages, OfferKey, State, is_mapped, overdrawn, map_refusal, unmap_refusal, protect_refusal, exit_refusal, after_map, after_unmap, after_protect, after_withdraw, after_load, after_store, withdraw_refusal, loaded, BadPage, Mapped, Quota, NotMapped, Rights, same_apart, left, get-without, Book, Member, given, number_of_children, quota_of, or-false, children, IsApart, AreAlike, Held, held_in, lone}
use Rattle.process_table.proofs.Lemmas.{extra_page, extra_touched, retained, get-inserted, get-inserted_other}
use Rattle.page_words.specs.FiniteMap as map
use Rattle.page_words.specs.FiniteSet as set

-- ---- What is told of two alike processes

pub given_none : (book : Book) (p : ℕ) → number_of_children book p ≡ 0 → given book p ≡ 0
given_none book p h = by (children book p) h
  where
    by : (entries : List (ℕ × Member)) → length entries ≡ 0 → sum_by (λ (e : ℕ × Member). e.1.quota) entries ≡ 0
    by [] is = refl
    by (e ∷ entries) is = absurd (omega (arith, is))

-- a slot of a process apart is in a group of its own, mapped or not
pub own_group : (s : State) (p page : ℕ) → IsApart s p → (cell_or_fresh s.spaces (at_page p page)).holders ≡ lone (at_page p page)
own_group s p page a = grind arith

module _ (s t : State) (p q : ℕ) (a : AreAlike s p t q) where
  pub mapped_alike : (page : ℕ) → is_mapped s (at_page p page) ≡ is_mapped t (at_page q page)
  mapped_alike page = sym (is_some-map held_in (map.get s.spaces (at_page p page))) ∙ ap is_some (a.pages page) ∙ is_some-map held_in (map.get t.spaces (at_page q page))

  pages_alike : pages_of s.spaces p ≡ pages_of t.spaces q
  pages_alike = same_pages s.spaces t.spaces p q mapped_alike

  pub cost_alike : cost s.spaces p ≡ cost t.spaces q
  cost_alike = ap cost_of pages_alike

  need_alike : (page : ℕ) → need s.spaces p page ≡ need t.spaces q page
  need_alike page = ap (λ (pages : Set nat_order). if set.contains (regions_of pages) (slot_number page) then 1 else 2) pages_alike

  pub given_alike : given s.book p ≡ given t.book q
  given_alike = given_none s.book p a.one.childless ∙ sym (given_none t.book q a.other.childless)

  pub no_room_alike : (page : ℕ) → overdrawn s p (page ∷ []) ≡ overdrawn t q (page ∷ [])
  no_room_alike page = grind (arith, cost_alike, given_alike, extra_page, mapped_alike, need_alike)

  pub cell_alike : (page : ℕ) → held_in (cell_or_fresh s.spaces (at_page p page)) ≡ held_in (cell_or_fresh t.spaces (at_page q page))
  cell_alike page = grind arith

  pub group_alike : (page : ℕ) → set.len (cell_or_fresh s.spaces (at_page p page)).holders ≡ set.len (cell_or_fresh t.spaces (at_page q page)).holders
  group_alike page = ap (λ (g : Set slot_order). set.len g) (own_group s p page a.one) ∙ sym (ap (λ (g : Set slot_order). set.len g) (own_group t q page a.other))

  missing_alike : (pages : List ℕ) → missing s.spaces p pages ≡ missing t.spaces q pages
  missing_alike pages = λ i. set.retain (set.from_list pages) (λ page. not (mapped_alike page i))

  access_need_alike : (addr : ℕ) (size : Size) → access_need s.spaces p addr size ≡ access_need t.spaces q addr size
  access_need_alike addr size = λ i. set.len (missing_alike (touched addr size) i) + set.len (set.retain (regions_of (missing_alike (touched addr size) i)) (λ region. not (set.contains (regions_of (pages_alike i)) region)))

  pub lacks_room_alike : (addr : ℕ) (size : Size) → overdrawn s p (touched addr size) ≡ overdrawn t q (touched addr size)
  lacks_room_alike addr size = grind (arith, cost_alike, given_alike, extra_touched, access_need_alike)

  pub loaded_alike : (addr : ℕ) (size : Size) → loaded s p addr size ≡ loaded t q addr size
  loaded_alike addr size = λ i. value_of (map (λ b. slice_index (cell_alike (page_number b) i).bytes (offset_number b)) (covered addr size))

  pub map_refusal_alike : (page : ℕ) → map_refusal s p page ≡ map_refusal t q page
  map_refusal_alike page = λ i. if not (is_user_page page) then Some BadPage else if mapped_alike page i then Some Mapped else if no_room_alike page i then Some Quota else None

  pub unmap_refusal_alike : (page : ℕ) → unmap_refusal s p page ≡ unmap_refusal t q page
  unmap_refusal_alike page = λ i. if not (is_user_page page) then Some BadPage else if not (mapped_alike page i) then Some NotMapped else None

  pub protect_refusal_alike : (page : ℕ) (write : Bool) → protect_refusal s p page write ≡ protect_refusal t q page write
  protect_refusal_alike page write = λ i. if not (is_user_page page) then Some BadPage else if not (mapped_alike page i) then Some NotMapped else if write && not (cell_alike page i).may then Some Rights else None

  pub exit_refusal_alike : exit_refusal s p ≡ exit_refusal t q
  exit_refusal_alike = grind (arith, ne_eqb)

  pub withdraw_refusal_alike : (page target : ℕ) → withdraw_refusal s p page target ≡ withdraw_refusal t q page target
  withdraw_refusal_alike page target = grind arith

-- ---- What a process apart does to its own pages

pub pages_differ : (p n page : ℕ) → n ≢ page → at_page p n ≢ at_page p page
pages_differ p n page d e = d (ap (λ (slot : Slot). slot.page) e)

pub pids_differ : (p q n page : ℕ) → q ≢ p → at_page p n ≢ at_page q page
pids_differ p q n page d e = d (sym (ap (λ (slot : Slot). slot.pid) e))

-- who is in the group of a slot alone
pub in_lone : (slot other : Slot) → other ≢ slot → set.contains (lone slot) other ≡ false
in_lone slot other d = contains-insert {o = slot_order} set.empty slot other ∙ or-false (same slot_order other slot) ∙ same_apart slot_order other slot d

-- a state is another but for what a process has at one page, which is in a group of its own
record IsChange (s : State) (p page : ℕ) (x : Option Cell) (t : State) : Type 0 where
  book : t.book ≡ s.book
  here : map.get t.spaces (at_page p page) ≡ x
  elsewhere : (n : ℕ) → n ≢ page → map.get t.spaces (at_page p n) ≡ map.get s.spaces (at_page p n)
  offers : (key : OfferKey) (right : Bool) → map.get t.offers key ≡ Some right → map.get s.offers key ≡ Some right
  group : (c : Cell) → x ≡ Some c → c.holders ≡ lone (at_page p page)

alike_changed : (s t s' t' : State) (p q page : ℕ) (x y : Option Cell) → AreAlike s p t q → IsChange s p page x s' → IsChange t q page y t' → option_map held_in x ≡ option_map held_in y → AreAlike s' p t' q
alike_changed s t s' t' p q page x y a c d same = record {
  one = grind (arith, cases_eq);
  other = grind (arith, cases_eq);
  pages = grind (arith, cases_eq);
  quota = ap (λ (b : Book). quota_of b p) c.book ∙ a.quota ∙ ap (λ (b : Book). quota_of b q) (sym d.book);
}

inserted : (s : State) (p page : ℕ) (c : Cell) → c.holders ≡ lone (at_page p page) → IsChange s p page (Some c) (record s { spaces = map.insert s.spaces (at_page p page) c })
inserted s p page c group = grind (arith, get-inserted, get-inserted_other, pages_differ, same_Some)

module _ (s t : State) (p q : ℕ) (a : AreAlike s p t q) where
  pub map_alike : (page : ℕ) (write : Bool) → AreAlike (after_map s p page write) p (after_map t q page write) q
  map_alike page write =
      alike_changed s t (after_map s p page write) (after_map t q page write) p q page _ _ a
      (inserted s p page (fresh (at_page p page) write) refl) (inserted t q page (fresh (at_page q page) write) refl) refl

  pub protect_alike : (page : ℕ) (write : Bool) → AreAlike (after_protect s p page write) p (after_protect t q page write) q
  protect_alike page write =
      alike_changed s t (after_protect s p page write) (after_protect t q page write) p q page _ _ a
      (inserted s p page (record (cell_or_fresh s.spaces (at_page p page)) { write = write }) (own_group s p page a.one))
      (inserted t q page (record (cell_or_fresh t.spaces (at_page q page)) { write = write }) (own_group t q page a.other))
      (ap (λ (h : Held). Some (record h { write = write })) (cell_alike s t p q a page))

  -- where accessed is set at a page
  pub accessed_alike : (page : ℕ) → AreAlike (record s { spaces = accessed s.spaces (at_page p page) }) p (record t { spaces = accessed t.spaces (at_page q page) }) q
  accessed_alike page =
      alike_changed s t (record s { spaces = accessed s.spaces (at_page p page) }) (record t { spaces = accessed t.spaces (at_page q page) }) p q page _ _ a
      (inserted s p page (record (cell_or_fresh s.spaces (at_page p page)) { accessed = true }) (own_group s p page a.one))
      (inserted t q page (record (cell_or_fresh t.spaces (at_page q page)) { accessed = true }) (own_group t q page a.other))
      (ap (λ (h : Held). Some (record h { accessed = true })) (cell_alike s t p q a page))

-- spaces where a group gets other bytes, at a slot that is not in it
pub set_bytes_outside : (S : Spaces) (group : Set slot_order) (bytes : List ℕ) (slot : Slot) → set.contains group slot ≡ false → map.get (set_bytes S group bytes) slot ≡ map.get S slot
set_bytes_outside S group bytes slot out = grind (arith, get-map_values)

-- what a store of these bytes at this place leaves at its own slot
abbrev stored_cell : Cell → ℕ → List ℕ → Cell
stored_cell c at new = record c { bytes = write_at c.bytes at new; accessed = true; dirty = true }

stored_changes : (s : State) (p page at : ℕ) (new : List ℕ) → IsApart s p
    → IsChange s p page (Some (stored_cell (cell_or_fresh s.spaces (at_page p page)) at new)) (record s { spaces = stored s.spaces (at_page p page) at new })
stored_changes s p page at new a =
    let c : Cell = cell_or_fresh s.spaces (at_page p page) in
    let written : Cell = stored_cell c at new in
    let bytes : List ℕ = write_at c.bytes at new in
    record {
      book = refl;
      here = get-inserted (set_bytes s.spaces c.holders bytes) (at_page p page) written;
      elsewhere = λ n d.
          get-inserted_other (set_bytes s.spaces c.holders bytes) (at_page p page) written (at_page p n) (pages_differ p n page d)
          ∙ set_bytes_outside s.spaces c.holders bytes (at_page p n) (ap (λ (g : Set slot_order). set.contains g (at_page p n)) (own_group s p page a) ∙ in_lone (at_page p page) (at_page p n) (pages_differ p n page d));
      offers = λ key right h. h;
      group = λ d is. ap (λ (e : Cell). e.holders) (sym (same_Some written d is)) ∙ own_group s p page a;
    }

-- where bytes are stored in a page
pub stored_alike : (s t : State) (p q page at : ℕ) (new : List ℕ) → AreAlike s p t q → AreAlike (record s { spaces = stored s.spaces (at_page p page) at new }) p (record t { spaces = stored t.spaces (at_page q page) at new }) q
stored_alike s t p q page at new a =
    alike_changed s t (record s { spaces = stored s.spaces (at_page p page) at new }) (record t { spaces = stored t.spaces (at_page q page) at new }) p q page _ _ a
    (stored_changes s p page at new a.one) (stored_changes t q page at new a.other)
    (ap (λ (h : Held). Some (record h { bytes = write_at h.bytes at new; accessed = true; dirty = true })) (cell_alike s t p q a page))

-- a page of it that is mapped where it wasn't
paged_changes : (s : State) (p page : ℕ) → IsApart s p → IsChange s p page (Some (cell_or_fresh s.spaces (at_page p page))) (record s { spaces = with_page s.spaces p page })
paged_changes s p page a = by (map.get s.spaces (at_page p page)) refl
  where
    by : (x : Option Cell) → map.get s.spaces (at_page p page) ≡ x
        → IsChange s p page (Some (unwrap_or x (fresh (at_page p page) true))) (record s { spaces = if is_some x then s.spaces else map.insert s.spaces (at_page p page) (fresh (at_page p page) true) })
    by None is = inserted s p page (fresh (at_page p page) true) refl
    by (Some c) is = record {
      book = refl;
      here = is;
      elsewhere = λ n d. refl;
      offers = λ key right h. h;
      group = λ d e. ap (λ (x : Cell). x.holders) (sym (same_Some c d e)) ∙ a.shares_none page c is;
    }

-- each of these pages
paged_alike : (s t : State) (p q : ℕ) (pages : List ℕ) → AreAlike s p t q → AreAlike (record s { spaces = with_pages s.spaces p pages }) p (record t { spaces = with_pages t.spaces q pages }) q
paged_alike s t p q [] a = a
paged_alike s t p q (page ∷ pages) a =
    paged_alike (record s { spaces = with_page s.spaces p page }) (record t { spaces = with_page t.spaces q page }) p q pages
    (alike_changed s t (record s { spaces = with_page s.spaces p page }) (record t { spaces = with_page t.spaces q page }) p q page _ _ a
    (paged_changes s p page a.one) (paged_changes t q page a.other) (ap Some (cell_alike s t p q a page)))

-- accessed is set at each of these pages
all_accessed_alike : (s t : State) (p q : ℕ) (pages : List ℕ) → AreAlike s p t q → AreAlike (record s { spaces = all_accessed s.spaces p pages }) p (record t { spaces = all_accessed t.spaces q pages }) q
all_accessed_alike s t p q [] a = a
all_accessed_alike s t p q (page ∷ pages) a =
    all_accessed_alike (record s { spaces = accessed s.spaces (at_page p page) }) (record t { spaces = accessed t.spaces (at_page q page) }) p q pages (accessed_alike s t p q a page)

-- these bytes are stored one after the other
all_stored_alike : (s t : State) (p q addr : ℕ) (bytes : List ℕ) → AreAlike s p t q → AreAlike (record s { spaces = all_stored s.spaces p addr bytes }) p (record t { spaces = all_stored t.spaces q addr bytes }) q
all_stored_alike s t p q addr [] a = a
all_stored_alike s t p q addr (byte ∷ bytes) a =
    all_stored_alike (record s { spaces = stored s.spaces (slot_at p addr) (offset_number addr) (byte ∷ []) }) (record t { spaces = stored t.spaces (slot_at q addr) (offset_number addr) (byte ∷ []) }) p q (addr + 1) bytes
    (stored_alike s t p q (page_number addr) (offset_number addr) (byte ∷ []) a)

-- an access touches one page or two
pub load_alike : (s t : State) (p q addr : ℕ) (size : Size) → AreAlike s p t q → AreAlike (after_load s p addr size) p (after_load t q addr size) q
load_alike s t p q addr size a =
    let pages = touched addr size in
    all_accessed_alike (record s { spaces = with_pages s.spaces p pages }) (record t { spaces = with_pages t.spaces q pages }) p q pages (paged_alike s t p q pages a)

pub store_alike : (s t : State) (p q addr : ℕ) (size : Size) (value : ℕ) → AreAlike s p t q → AreAlike (after_store s p addr size value) p (after_store t q addr size value) q
store_alike s t p q addr size value a =
    let pages = touched addr size in
    all_stored_alike (record s { spaces = with_pages s.spaces p pages }) (record t { spaces = with_pages t.spaces q pages }) p q addr (bytes_of (byte_count size) value) (paged_alike s t p q pages a)

-- a group of one stays where its slot does
lone_stays : (gone : Slot → Bool) (slot : Slot) (c : Cell) → c.holders ≡ lone slot → gone slot ≡ false → left gone c ≡ c
lone_stays gone slot c group stays = ap (with_holders c) (ap (λ (g : Set slot_order). set.retain g (λ q. not (gone q))) group ∙ retain-insert {o = slot_order} map.empty (λ q. not (gone q)) slot tt (ap not stays) ∙ sym group)

-- where slots go that are none of it, a process apart has what it had
pub without_others : (s : State) (p : ℕ) (gone : Slot → Bool) (n : ℕ) → IsApart s p → gone (at_page p n) ≡ false → map.get (without s.spaces gone) (at_page p n) ≡ map.get s.spaces (at_page p n)
without_others s p gone n a stays = grind (arith, get-without, left, lone_stays)

unmap_changes : (s : State) (p page : ℕ) → IsApart s p → IsChange s p page None (after_unmap s p page)
unmap_changes s p page a =
    grind (arith, get-without, left, same_itself, without_others, same_apart, pages_differ, retained)

pub unmap_alike : (s t : State) (p q page : ℕ) → AreAlike s p t q → AreAlike (after_unmap s p page) p (after_unmap t q page) q
unmap_alike s t p q page a =
    alike_changed s t (after_unmap s p page) (after_unmap t q page) p q page None None a (unmap_changes s p page a.one) (unmap_changes t q page a.other) refl

pub withdraw_alike : (s t : State) (p q page target : ℕ) → AreAlike s p t q → AreAlike (after_withdraw s p page target) p (after_withdraw t q page target) q
withdraw_alike s t p q page target a =
    alike_changed s t (after_withdraw s p page target) (after_withdraw t q page target) p q page _ _ a (grind (arith, retained)) (grind (arith, retained)) (a.pages page)
