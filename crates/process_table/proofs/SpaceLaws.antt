-- States stay well formed where their spaces alone change: by a map, an access, or an unmap with its offers.
use Rattle.process_table.proofs.Prelude.{◌≡◌, ◌≢◌, ℕ, ◌+◌, ◌<◌, ◌≤◌, not, Bool, true, false, List, [], ◌∷◌, length, refl, sym, ap, subst, ◌∙◌, Option, Some, None, is_some, unwrap_or, arith, inl, inr, zero, suc, ◌/◌, ◌%◌, ◌++◌, take, drop, if◌then◌else◌, nat_lt, IfSome, option_map, All, IsUserPage, is_user_page, byte_count, offset_number, page_number, second_page, touched, EachTouched, page_and, Size, get-map_values, same_cases, Slot, slot_order, Cell, Spaces, cost, cost_of, need, page_need, access_need, fresh, cell_or_fresh, accessed, stored, with_page, with_pages, all_accessed, all_stored, set_bytes, with_bytes, write_at, bytes_of, slot_at, at_page, store_in, same_pages, cost-insert, kept, given, quota_of, OfferKey, State, is_live, is_mapped, overdrawn, room, map_refusal, after_map, after_load, after_store, BadPage, Mapped, Quota, IsCellAt, IsOfferIn, IsWellFormed, same_Some, some_value, no_value, length-replicate, cases_lt, cases_eq, le-ltb, IsThere, AreThere, touched-there, first_there, rest_there, bytes_there, need-in_one, need-in_two, cost-with_page, from_map}
use Rattle.std.proofs.lemmas.List.Elements.{All-nil, All-cons, All-append, All-take, All-drop, All-replicate}
use Rattle.page_words.specs.declared.addresses.Size.TheVariants.{One}
use Rattle.address_space.proofs.steps.Stores.{length-write_at, written_long}
use Rattle.process_table.proofs.Overdrawn.{extra_new, extra_touched}
use Rattle.process_table.proofs.CellLaws.{AreCells, get-inserted, get-inserted_other, lone-cell, cells-lone, IsRenewed, cells-renewed}
use Rattle.process_table.proofs.Sizes.{cost-fewer}
use Rattle.page_words.specs.FiniteMap as map
use Rattle.page_words.specs.FiniteSet as set

-- what a test of order that fails says
pub not_less : (a b : ℕ) → nat_lt a b ≡ false → b ≤ a
not_less a b h = grind (arith, cases_lt)

-- a page that passes the test is one of the user range
pub user_page : (page : ℕ) → is_user_page page ≡ true → IsUserPage page
user_page page h = grind (arith, cases_lt)

-- a state with other spaces, where each process has room, each slot an owner, each cell is well formed, and
-- what was mapped still is, with its right
pub with-spaces : (s : State) (T : Spaces) → IsWellFormed s
    → ((p : ℕ) → is_live s p ≡ true → cost T p + given s.book p ≤ quota_of s.book p)
    → ((slot : Slot) (cell : Cell) → map.get T slot ≡ Some cell → is_live s slot.pid ≡ true)
    → AreCells T
    → ((slot : Slot) (c : Cell) → map.get s.spaces slot ≡ Some c → (d : Cell) × (map.get T slot ≡ Some d) × (d.may ≡ c.may))
    → IsWellFormed (record s { spaces = T })
with-spaces s T w rooms owners cells keeps = assumption offers
  where
    offers : (key : OfferKey) (right : Bool) → map.get s.offers key ≡ Some right → IsOfferIn (record s { spaces = T }) key right
    offers key right h =
        let old = w.offers key right h in
        let k = keeps (at_page key.offerer key.page) old.offered.0 old.offered.1 in
        record { target = old.target; another = old.another; offered = (k.0, k.1, λ r. k.2 ∙ old.offered.2 r) }

-- what is needed for one fits, where it does not overdraw
pub new_fits : (s : State) (p page : ℕ) → map.get s.spaces (at_page p page) ≡ None → overdrawn s p (page ∷ []) ≡ false
    → need s.spaces p page ≤ room s p
new_fits s p page none fits = grind (arith, not_less, extra_new)

-- ---- A page of zeros more

module _ (s : State) (slot : Slot) (write : Bool) (w : IsWellFormed s) (live : is_live s slot.pid ≡ true) (user : IsUserPage slot.page) (none : map.get s.spaces slot ≡ None) (has_room : nat_lt (room s slot.pid) (need s.spaces slot.pid slot.page) ≡ false) where
  abbrev more : Spaces
  more = map.insert s.spaces slot (fresh slot write)

  room_more : (p : ℕ) → is_live s p ≡ true → cost more p + given s.book p ≤ quota_of s.book p
  room_more p h = elim (cases_eq p slot.pid) [
    | inl own ↦ subst (λ n. cost more n + given s.book n ≤ quota_of s.book n) (sym own) owner
    | inr differ ↦
        let e : cost more p ≡ cost s.spaces p = ap cost_of (same_pages more s.spaces p p (λ page. ap is_some (get-inserted_other s.spaces slot (fresh slot write) (at_page p page) (λ is. differ (ap (λ (q : Slot). q.pid) is))))) in
        omega (arith, e, w.rooms p h)
  ]
    where
      owner : cost more slot.pid + given s.book slot.pid ≤ quota_of s.book slot.pid
      owner = grind (arith, cost-insert, not_less)

  owner_more : (q : Slot) (c : Cell) → map.get more q ≡ Some c → is_live s q.pid ≡ true
  owner_more q c h = grind (arith, same_cases, get-inserted_other)

  kept_more : (q : Slot) (c : Cell) → map.get s.spaces q ≡ Some c → (d : Cell) × (map.get more q ≡ Some d) × (d.may ≡ c.may)
  kept_more q c h = (c, get-inserted_other s.spaces slot (fresh slot write) q apart ∙ h, refl)
    where
      apart : q ≢ slot
      apart is = let x : Some c ≡ None = sym h ∙ ap (map.get s.spaces) is ∙ none in cc

  fresh_cell : IsCellAt more slot (fresh slot write)
  fresh_cell =
      lone-cell more slot (fresh slot write) (get-inserted s.spaces slot (fresh slot write)) user (length-replicate {A = ℕ} 4096 0) (All-replicate (λ b. b < 256) 4096 0 (omega arith)) (λ h. refl) (λ h. absurd (let x : false ≡ true = h in cc)) refl

  -- a page of zeros at a slot of a live process that has room for it
  pub well_formed-inserted : IsWellFormed (record s { spaces = map.insert s.spaces slot (fresh slot write) })
  well_formed-inserted =
      with-spaces s more w room_more owner_more
      (cells-lone s.spaces more slot (fresh slot write) none (get-inserted s.spaces slot (fresh slot write)) (get-inserted_other s.spaces slot (fresh slot write)) w.cells fresh_cell)
      kept_more

map_allowed : (a b c : Bool) → (if not a then Some BadPage else if b then Some Mapped else if c then Some Quota else None) ≡ None → (a ≡ true) × (b ≡ false) × (c ≡ false)
map_allowed a b c h = grind arith

-- a map that is not refused
pub well_formed-map : (s : State) (p page : ℕ) (write : Bool) → IsWellFormed s → is_live s p ≡ true → map_refusal s p page ≡ None → IsWellFormed (after_map s p page write)
well_formed-map s p page write w live allowed =
    let a = map_allowed (is_user_page page) (is_mapped s (at_page p page)) (overdrawn s p (page ∷ [])) allowed in
    well_formed-inserted s (at_page p page) write w live (user_page page a.0) (no_value (map.get s.spaces (at_page p page)) a.1)
    (ap (nat_lt (room s p)) (sym (extra_new s p page a.1)) ∙ a.2)

-- ---- An access to a mapped page

module _ (s : State) (T : Spaces) (slot : Slot) (c : Cell) (bytes : List ℕ) (at : map.get s.spaces slot ≡ Some c)
    (forth : (q : Slot) (d : Cell) → map.get s.spaces q ≡ Some d → (e : Cell) × (map.get T q ≡ Some e) × IsRenewed c.holders bytes q d e)
    (back : (q : Slot) (e : Cell) → map.get T q ≡ Some e → (d : Cell) × (map.get s.spaces q ≡ Some d))
    (w : IsWellFormed s) (long : length bytes ≡ 4096) (small : All (λ b. b < 256) bytes) where
  was_there : (q : Slot) → map.contains_key T q ≡ true → map.contains_key s.spaces q ≡ true
  was_there q h = let e = some_value (map.get T q) h in let d = back q e.0 e.1 in ap is_some d.1

  -- where a group gets other bytes
  pub well_formed-renewed : IsWellFormed (record s { spaces = T })
  well_formed-renewed =
      with-spaces s T w
      (λ p h. let a = cost-fewer s.spaces T p was_there in let b = w.rooms p h in omega (arith, a, b))
      (λ q e h. let d = back q e h in w.owners q d.0 d.1)
      (cells-renewed s.spaces T slot c bytes at forth back w.cells long small)
      (λ q d h. let e = forth q d h in (e.0, e.1, e.2.may))

module _ (s : State) (slot : Slot) (c : Cell) (at : map.get s.spaces slot ≡ Some c) (w : IsWellFormed s) where
  module _ (other_flags : Cell) (renewed : (q : Slot) → IsRenewed c.holders c.bytes q c other_flags) where
    abbrev flags_spaces : Spaces
    flags_spaces = map.insert s.spaces slot other_flags

    flags_forth : (q : Slot) (d : Cell) → map.get s.spaces q ≡ Some d → (e : Cell) × (map.get flags_spaces q ≡ Some e) × IsRenewed c.holders c.bytes q d e
    flags_forth q d h = elim (same_cases slot_order q slot) [
      | inl is ↦ (other_flags, ap (map.get flags_spaces) is.0 ∙ get-inserted s.spaces slot other_flags, subst (λ (x : Cell). IsRenewed c.holders c.bytes q x other_flags) (same_Some c d (sym at ∙ ap (map.get s.spaces) (sym is.0) ∙ h)) (renewed q))
      | inr other ↦ (d, get-inserted_other s.spaces slot other_flags q other.0 ∙ h, alike)
    ]
      where
        shared : set.contains c.holders q ≡ true → d.bytes ≡ c.bytes
        shared inside = let o = (w.cells slot c at).alike q inside in ap (λ (x : Cell). x.bytes) (same_Some d o.0 (sym h ∙ o.1)) ∙ o.3

        alike : IsRenewed c.holders c.bytes q d d
        alike = record { holders = refl; bytes_in = shared; bytes_out = λ _. refl; write = λ f. f; may = refl; dirty = λ f. f }

    flags_back : (q : Slot) (e : Cell) → map.get flags_spaces q ≡ Some e → (d : Cell) × (map.get s.spaces q ≡ Some d)
    flags_back q e h = elim (same_cases slot_order q slot) [
      | inl is ↦ (c, ap (map.get s.spaces) is.0 ∙ at)
      | inr other ↦ (e, sym (get-inserted_other s.spaces slot other_flags q other.0) ∙ h)
    ]

    -- where a cell gets other flags, which agree
    pub well_formed-flags : IsWellFormed (record s { spaces = map.insert s.spaces slot other_flags })
    well_formed-flags = well_formed-renewed s flags_spaces slot c c.bytes at flags_forth flags_back w (w.cells slot c at).long (w.cells slot c at).small

  well_formed-read : IsWellFormed (record s { spaces = accessed s.spaces slot })
  well_formed-read =
      subst (λ (x : Cell). IsWellFormed (record s { spaces = map.insert s.spaces slot (record x { accessed = true }) })) (sym (ap (λ (x : Option Cell). unwrap_or x (fresh slot true)) at))
      (well_formed-flags (record c { accessed = true }) (λ q. record { holders = refl; bytes_in = λ _. refl; bytes_out = λ _. refl; write = λ f. f; may = refl; dirty = λ _ _. refl }))

  module _ (bytes : List ℕ) (long : length bytes ≡ 4096) (small : All (λ b. b < 256) bytes) where
    abbrev written_cell : Cell
    written_cell = record c { bytes = bytes; accessed = true; dirty = true }

    abbrev changed_in : Slot → Cell → Cell
    changed_in q d = if set.contains c.holders q then with_bytes d bytes else d

    abbrev written_spaces : Spaces
    written_spaces = store_in s.spaces slot c bytes

    written_other : (q : Slot) → q ≢ slot → map.get written_spaces q ≡ option_map (changed_in q) (map.get s.spaces q)
    written_other q n = get-inserted_other (set_bytes s.spaces c.holders bytes) slot written_cell q n ∙ get-map_values slot_order changed_in s.spaces q

    written_forth : (q : Slot) (d : Cell) → map.get s.spaces q ≡ Some d → (e : Cell) × (map.get written_spaces q ≡ Some e) × IsRenewed c.holders bytes q d e
    written_forth q d h = elim (same_cases slot_order q slot) [
      | inl is ↦ (written_cell, ap (map.get written_spaces) is.0 ∙ get-inserted (set_bytes s.spaces c.holders bytes) slot written_cell, subst (λ (x : Cell). IsRenewed c.holders bytes q x written_cell) (same_Some c d (sym at ∙ ap (map.get s.spaces) (sym is.0) ∙ h)) (own is.0))
      | inr other ↦ (changed_in q d, written_other q other.0 ∙ ap (option_map (changed_in q)) h, (grind arith))
    ]
      where
        own : q ≡ slot → IsRenewed c.holders bytes q c written_cell
        own is = record { holders = refl; bytes_in = λ _. refl; bytes_out = λ out. absurd (let x : set.contains c.holders q ≡ true = ap (set.contains c.holders) is ∙ (w.cells slot c at).own in cc); write = λ f. f; may = refl; dirty = λ _ _. refl }

    written_back : (q : Slot) (e : Cell) → map.get written_spaces q ≡ Some e → (d : Cell) × (map.get s.spaces q ≡ Some d)
    written_back q e h = elim (same_cases slot_order q slot) [
      | inl is ↦ (c, ap (map.get s.spaces) is.0 ∙ at)
      | inr other ↦
          let d = from_map (changed_in q) (map.get s.spaces q) e (sym (written_other q other.0) ∙ h) in
          (d.0, d.1)
    ]

    well_formed-written : IsWellFormed (record s { spaces = store_in s.spaces slot c bytes })
    well_formed-written = well_formed-renewed s written_spaces slot c bytes at written_forth written_back w long small

-- ---- The pages of an access, mapped first

-- a page that is mapped, or for which there is room
pub well_formed-page : (s : State) (p page : ℕ) → IsWellFormed s → is_live s p ≡ true → IsUserPage page → page_need s.spaces p page ≤ room s p → IsWellFormed (record s { spaces = with_page s.spaces p page })
well_formed-page s p page w live user fits = by (map.contains_key s.spaces (at_page p page)) refl fits
  where
    by : (b : Bool) → map.contains_key s.spaces (at_page p page) ≡ b → (if b then 0 else need s.spaces p page) ≤ room s p
        → IsWellFormed (record s { spaces = if b then s.spaces else map.insert s.spaces (at_page p page) (fresh (at_page p page) true) })
    by true is h = w
    by false is h = well_formed-inserted s (at_page p page) true w live user (no_value (map.get s.spaces (at_page p page)) is) (le-ltb (room s p) (need s.spaces p page) h)

-- the pages that an access touches, where there is room for those that are not mapped
pub well_formed-touched : (s : State) (p address : ℕ) (size : Size) → IsWellFormed s → is_live s p ≡ true → EachTouched address size IsUserPage → overdrawn s p (touched address size) ≡ false
    → IsWellFormed (record s { spaces = with_pages s.spaces p (touched address size) })
well_formed-touched s p address size w live user has_room = by (second_page address size) refl user.1
  where
    page : ℕ
    page = page_number address

    enough : access_need s.spaces p address size ≤ room s p
    enough = not_less (room s p) (access_need s.spaces p address size) (ap (nat_lt (room s p)) (sym (extra_touched s p address size)) ∙ has_room)

    by : (x : Option ℕ) → second_page address size ≡ x → IfSome x IsUserPage → IsWellFormed (record s { spaces = with_pages s.spaces p (page_and page x) })
    by None is h = let n = need-in_one s.spaces p address size is in well_formed-page s p page w live user.0 (omega (arith, n, enough))
    by (Some second) is h =
        let n = need-in_two s.spaces p address size second is in
        let first = well_formed-page s p page w live user.0 (omega (arith, n, enough)) in
        let paid = cost-with_page s.spaces p page in
        well_formed-page (record s { spaces = with_page s.spaces p page }) p second first live h (omega (arith, n, enough, paid))

-- ---- Loads and stores

-- a load of mapped pages
pub well_formed-read_at : (s : State) (p page : ℕ) → IsWellFormed s → IsThere s.spaces p page → IsWellFormed (record s { spaces = accessed s.spaces (at_page p page) })
well_formed-read_at s p page w there = let c = some_value (map.get s.spaces (at_page p page)) there in well_formed-read s (at_page p page) c.0 c.1 w

pub well_formed-loaded : (s : State) (p address : ℕ) (size : Size) → IsWellFormed s → EachTouched address size (IsThere s.spaces p) → IsWellFormed (record s { spaces = all_accessed s.spaces p (touched address size) })
well_formed-loaded s p address size w there = by (second_page address size) there.1
  where
    page : ℕ
    page = page_number address

    by : (x : Option ℕ) → IfSome x (IsThere s.spaces p) → IsWellFormed (record s { spaces = all_accessed s.spaces p (page_and page x) })
    by None h = well_formed-read_at s p page w there.0
    by (Some second) h =
        well_formed-read_at (record s { spaces = accessed s.spaces (at_page p page) }) p second (well_formed-read_at s p page w there.0) (kept s.spaces (at_page p page) _ there.0 (at_page p second) ∙ h)

pub well_formed-load : (s : State) (p address : ℕ) (size : Size) → IsWellFormed s → is_live s p ≡ true → EachTouched address size IsUserPage → overdrawn s p (touched address size) ≡ false → IsWellFormed (after_load s p address size)
well_formed-load s p address size w live user has_room =
    well_formed-loaded (record s { spaces = with_pages s.spaces p (touched address size) }) p address size (well_formed-touched s p address size w live user has_room) (touched-there s.spaces p address size)

small_bytes : (k value : ℕ) → All (λ b. b < 256) (bytes_of k value)
small_bytes zero value = All-nil (λ b. b < 256)
small_bytes (suc k) value = All-cons (λ b. b < 256) (value % 256) (bytes_of k (value / 256)) (omega arith) (small_bytes k (value / 256))

small_written : (bytes : List ℕ) (at k value : ℕ) → All (λ b. b < 256) bytes → All (λ b. b < 256) (write_at bytes at (bytes_of k value))
small_written bytes at k value h =
    All-append (λ b. b < 256) (take at bytes ++ bytes_of k value) (drop (at + length (bytes_of k value)) bytes)
    (All-append (λ b. b < 256) (take at bytes) (bytes_of k value) (All-take (λ b. b < 256) at bytes h) (small_bytes k value))
    (All-drop (λ b. b < 256) (at + length (bytes_of k value)) bytes h)

-- a byte stored in a mapped page
well_formed-byte : (s : State) (p address value : ℕ) → IsWellFormed s → map.contains_key s.spaces (slot_at p address) ≡ true → IsWellFormed (record s { spaces = stored s.spaces (slot_at p address) (offset_number address) (bytes_of 1 value) })
well_formed-byte s p address value w there =
    let slot = slot_at p address in
    let c = some_value (map.get s.spaces slot) there in
    let was = w.cells slot c.0 c.1 in
    let long = written_long c.0.bytes (offset_number address) One value was.long (omega arith) in
    let small = small_written c.0.bytes (offset_number address) 1 value was.small in
    subst (λ (x : Cell). IsWellFormed (record s { spaces = store_in s.spaces slot x (write_at x.bytes (offset_number address) (bytes_of 1 value)) })) (sym (ap (λ (x : Option Cell). unwrap_or x (fresh slot true)) c.1))
    (well_formed-written s slot c.0 c.1 w (write_at c.0.bytes (offset_number address) (bytes_of 1 value)) long small)

small_part : (bytes : List ℕ) (at : ℕ) (new : List ℕ) → All (λ b. b < 256) bytes → All (λ b. b < 256) new → All (λ b. b < 256) (write_at bytes at new)
small_part bytes at new h small =
    All-append (λ b. b < 256) (take at bytes ++ new) (drop (at + length new) bytes)
    (All-append (λ b. b < 256) (take at bytes) new (All-take (λ b. b < 256) at bytes h) small)
    (All-drop (λ b. b < 256) (at + length new) bytes h)

-- bytes stored in one mapped page
pub well_formed-part : (s : State) (p address : ℕ) (new : List ℕ) → IsWellFormed s → map.contains_key s.spaces (slot_at p address) ≡ true → offset_number address + length new ≤ 4096
    → All (λ b. b < 256) new → IsWellFormed (record s { spaces = stored s.spaces (slot_at p address) (offset_number address) new })
well_formed-part s p address new w there fits small =
    let slot = slot_at p address in
    let c = some_value (map.get s.spaces slot) there in
    let was = w.cells slot c.0 c.1 in
    let size = was.long in
    let long = length-write_at c.0.bytes (offset_number address) new (omega (arith, size, fits)) ∙ size in
    subst (λ (x : Cell). IsWellFormed (record s { spaces = store_in s.spaces slot x (write_at x.bytes (offset_number address) new) })) (sym (ap (λ (x : Option Cell). unwrap_or x (fresh slot true)) c.1))
    (well_formed-written s slot c.0 c.1 w (write_at c.0.bytes (offset_number address) new) long (small_part c.0.bytes (offset_number address) new was.small small))

-- bytes stored in mapped pages
pub well_formed-bytes : (s : State) (p address k value : ℕ) → IsWellFormed s → AreThere s.spaces p address k → IsWellFormed (record s { spaces = all_stored s.spaces p address (bytes_of k value) })
well_formed-bytes s p address zero value w there = w
well_formed-bytes s p address (suc k) value w there =
    well_formed-bytes (record s { spaces = stored s.spaces (slot_at p address) (offset_number address) (bytes_of 1 value) }) p (address + 1) k (value / 256)
    (well_formed-byte s p address value w (first_there s.spaces p address k there))
    (rest_there s.spaces p address k (offset_number address) (value % 256) there)

pub well_formed-store : (s : State) (p address : ℕ) (size : Size) (value : ℕ) → IsWellFormed s → is_live s p ≡ true → EachTouched address size IsUserPage → overdrawn s p (touched address size) ≡ false → IsWellFormed (after_store s p address size value)
well_formed-store s p address size value w live user has_room =
    well_formed-bytes (record s { spaces = with_pages s.spaces p (touched address size) }) p address (byte_count size) value (well_formed-touched s p address size w live user has_room)
    (bytes_there (with_pages s.spaces p (touched address size)) p address size (touched-there s.spaces p address size))

-- ---- Marks that are cleared

-- the state with accessed and dirty of a slot clear
abbrev pub cleaned_state : State → Slot → State
cleaned_state s slot = record s { spaces = map.insert s.spaces slot (record (cell_or_fresh s.spaces slot) { accessed = false; dirty = false }) }

pub well_formed-cleaned : (s : State) (slot : Slot) → IsWellFormed s → map.contains_key s.spaces slot ≡ true → IsWellFormed (cleaned_state s slot)
well_formed-cleaned s slot w there =
    let c = some_value (map.get s.spaces slot) there in
    subst (λ (x : Cell). IsWellFormed (record s { spaces = map.insert s.spaces slot (record x { accessed = false; dirty = false }) })) (sym (ap (λ (x : Option Cell). unwrap_or x (fresh slot true)) c.1))
    (well_formed-flags s slot c.0 c.1 w (record c.0 { accessed = false; dirty = false }) (λ q. record { holders = refl; bytes_in = λ _. refl; bytes_out = λ _. refl; write = λ f. f; may = refl; dirty = λ _ h. cc }))
