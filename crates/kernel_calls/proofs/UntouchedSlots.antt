-- What an event of another process leaves of a slot.
use Rattle.kernel_calls.proofs.Prelude.{◌≡◌, ◌≢◌, ℕ, zero, suc, ◌+◌, ◌-◌, ◌/◌, ◌%◌, ◌<◌, ◌≤◌, ◌&&◌, not, Bool, true, false, cond, List, [], ◌∷◌, length, refl, sym, ap, ◌∙◌, Option, Some, None, is_some, unwrap_or, arith, inl, inr, get_or-set_other, get_or-set_same, ◌⊎◌, if◌then◌else◌, slice_index, option_map, range_with_len, cases_eq, not-false, same_Some, page_number, offset_number, byte_count, touched, Size, same, Set, get-map_values, contains-retain, same_cases, Slot, slot_order, Cell, Spaces, fresh, cell_or_fresh, with_bytes, set_bytes, write_at, bytes_of, without, at_page, slot_at, accessed, stored, with_page, with_pages, all_accessed, all_stored, AreThere, first_there, rest_there, touched-there, bytes_there, with_page-keeps, left, get-without, byte_is_write, Write, State, is_live, after_store, IsWellFormed, get-inserted, get-inserted_other, well_formed-bytes, well_formed-touched, plan_of, step_of, is_read_only, Goes, ready, all_user, same_cells, Flags, flags_of, byte_in, IsStoreInto, answer_of, completes, Event, find, holders_stored}
use Rattle.kernel_calls.proofs.Runs.{went-on}
use Rattle.page_words.specs.FiniteMap as map
use Rattle.page_words.specs.FiniteSet as set
use Rattle.kernel_calls.specs.declared.calls.Call.TheVariants as call

-- ---- What shows of a cell, its group aside but for one slot

-- its flags, its bytes, and whether this slot is in its group
abbrev pub Untouched : Type 0
Untouched = Flags × (List ℕ × Bool)

abbrev pub kept_of : Slot → Cell → Untouched
kept_of other c = (flags_of c, (c.bytes, set.contains c.holders other))

abbrev pub kept_at : Spaces → Slot → Slot → Option Untouched
kept_at S slot other = option_map (kept_of other) (map.get S slot)

module _ (S T : Spaces) (slot other : Slot) (h : kept_at T slot other ≡ kept_at S slot other) where
  pub kept_flags : option_map flags_of (map.get T slot) ≡ option_map flags_of (map.get S slot)
  kept_flags = grind arith

  pub kept_bytes : (cell_or_fresh T slot).bytes ≡ (cell_or_fresh S slot).bytes
  kept_bytes = grind arith

  pub kept_shares : unwrap_or (option_map (λ (c : Cell). set.contains c.holders other) (map.get T slot))
      false ≡ unwrap_or (option_map (λ (c : Cell). set.contains c.holders other) (map.get S slot)) false
  kept_shares = grind arith

-- ---- Slots of others, by spaces alone

pub of_others : (q page : ℕ) (slot : Slot) → slot.pid ≢ q → slot ≢ at_page q page
of_others q page slot d e = d (ap (λ (x : Slot). x.pid) e)

abbrev pub Rest : Type 0
Rest = Flags × Bool

abbrev pub rest_of : Slot → Cell → Rest
rest_of other c = (flags_of c, set.contains c.holders other)

module _ (q : ℕ) (slot : Slot) (d : slot.pid ≢ q) where
  pub insert_same : (S : Spaces) (page : ℕ) (c : Cell) → map.get (map.insert S (at_page q page) c) slot ≡ map.get S slot
  insert_same S page c = get-inserted_other S (at_page q page) c slot (of_others q page slot d)

  page_same : (S : Spaces) (page : ℕ) → map.get (with_page S q page) slot ≡ map.get S slot
  page_same S page = grind (arith, insert_same)

  pub pages_same : (S : Spaces) (pages : List ℕ) → map.get (with_pages S q pages) slot ≡ map.get S slot
  pages_same S [] = refl
  pages_same S (page ∷ pages) = pages_same (with_page S q page) pages ∙ page_same S page

  pub accessed_same : (S : Spaces) (pages : List ℕ) → map.get (all_accessed S q pages) slot ≡ map.get S slot
  accessed_same S [] = refl
  accessed_same S (page ∷ pages) = grind (arith, insert_same, (accessed_same (accessed S (at_page q page)) pages))

  -- where a slot of q goes, or all of them
  pub without_kept : (S : Spaces) (gone : Slot → Bool) (other : Slot) → gone slot ≡ false → gone other ≡ false
      → kept_at (without S gone) slot other ≡ kept_at S slot other
  without_kept S gone other stays stays_too = grind (arith, get-without, left, contains-retain)

  -- a store leaves the flags and the group
  set_bytes_rest : (S : Spaces) (group : Set slot_order) (bytes : List ℕ) (other : Slot)
      → option_map (rest_of other) (map.get (set_bytes S group bytes) slot) ≡ option_map (rest_of other)
      (map.get S slot)
  set_bytes_rest S group bytes other = grind (arith, get-map_values)

  pub all_stored_rest : (S : Spaces) (addr : ℕ) (bytes : List ℕ) (other : Slot)
      → option_map (rest_of other) (map.get (all_stored S q addr bytes) slot) ≡ option_map (rest_of other)
      (map.get S slot)
  all_stored_rest S addr [] other = refl
  all_stored_rest S addr (byte ∷ bytes) other =
      let own : Slot = slot_at q addr in
      let c : Cell = cell_or_fresh S own in
      let new : List ℕ = write_at c.bytes (offset_number addr) (byte ∷ []) in
      all_stored_rest (stored S own (offset_number addr) (byte ∷ [])) (addr + 1) bytes other
      ∙ ap (option_map (rest_of other)) (insert_same (set_bytes S c.holders new) (page_number addr)
      (record c { bytes = new; accessed = true; dirty = true }))
      ∙ set_bytes_rest S c.holders new other

-- ---- The bytes that a store reaches

-- a byte of a page that is not the one that is written
pub other_byte : (bytes : List ℕ) (at v place : ℕ) → at < length bytes → at ≢ place
    → slice_index (write_at bytes at (bytes_of 1 v)) place ≡ slice_index bytes place
other_byte bytes at v place inside differ = ap (λ xs. slice_index xs place) (sym (byte_is_write bytes at v inside))
    ∙ get_or-set_other bytes at place (v % 256) 0 (λ e. differ (sym e))

-- the byte that is written
pub own_byte : (bytes : List ℕ) (at v : ℕ) → at < length bytes → slice_index (write_at bytes at (bytes_of 1 v)) at ≡ v % 256
own_byte bytes at v inside = ap (λ xs. slice_index xs at) (sym (byte_is_write bytes at v inside))
    ∙ get_or-set_same bytes at (v % 256) 0 inside

-- of the k low bytes of v, stored from an address on, one goes to this place, through a slot of q in whose group this
-- slot is
pub record Reaches (S : Spaces) (q addr k v : ℕ) (slot : Slot) (place : ℕ) : Type 0 where
  pub byte : ℕ
  pub first : addr ≤ byte
  pub last : byte < addr + k
  pub there : offset_number byte ≡ place
  pub shared : set.contains (cell_or_fresh S (slot_at q byte)).holders slot ≡ true
  pub stored : slice_index (cell_or_fresh (all_stored S q addr (bytes_of k v)) slot).bytes place ≡ slice_index
      (bytes_of k v) (byte - addr)

-- one byte
module _ (s : State) (q addr v : ℕ) (w : IsWellFormed s) (own_there : map.contains_key s.spaces (slot_at q addr) ≡ true)
  where
    abbrev target : Slot
    target = slot_at q addr

    abbrev cell : Cell
    cell = cell_or_fresh s.spaces target

    abbrev new_bytes : List ℕ
    new_bytes = write_at cell.bytes (offset_number addr) (bytes_of 1 v)

    abbrev one_stored : Spaces
    one_stored = stored s.spaces target (offset_number addr) (bytes_of 1 v)

    pub own_cell : map.get s.spaces target ≡ Some cell
    own_cell = grind arith

    abbrev renew : Slot → Cell → Cell
    renew slot d = if set.contains cell.holders slot then with_bytes d new_bytes else d

    -- what stands at a slot has these bytes where it is in the group
    pub new_in : (slot : Slot) (d : Cell) → map.get s.spaces slot ≡ Some d → set.contains cell.holders slot ≡ true
        → (cell_or_fresh one_stored slot).bytes ≡ new_bytes
    new_in slot d at inside = elim (same_cases slot_order slot target) [
      | inl is ↦ ap (λ (x : Option Cell). (unwrap_or x (fresh slot true)).bytes)
          (ap (map.get one_stored) is.0 ∙ get-inserted (set_bytes s.spaces cell.holders new_bytes) target
          (record cell { bytes = new_bytes; accessed = true; dirty = true }))
      | inr other ↦
          ap (λ (x : Option Cell). (unwrap_or x (fresh slot true)).bytes)
          (get-inserted_other (set_bytes s.spaces cell.holders new_bytes) target
          (record cell { bytes = new_bytes; accessed = true; dirty = true }) slot other.0
          ∙ get-map_values slot_order renew s.spaces slot ∙ ap (option_map (renew slot)) at
          ∙ ap (λ b. Some (if b then with_bytes d new_bytes else d)) inside)
    ]

    same_out : (slot : Slot) (d : Cell) → map.get s.spaces slot ≡ Some d → set.contains cell.holders slot ≡ false
        → map.get one_stored slot ≡ Some d
    same_out slot d at outside =
        get-inserted_other (set_bytes s.spaces cell.holders new_bytes) target
        (record cell { bytes = new_bytes; accessed = true; dirty = true }) slot differs
        ∙ get-map_values slot_order renew s.spaces slot ∙ ap (option_map (renew slot)) at
        ∙ ap (λ b. Some (if b then with_bytes d new_bytes else d)) outside
      where
        differs : slot ≢ target
        differs e = grind arith

    pub one_byte : (slot : Slot) (d : Cell) (place : ℕ) → map.get s.spaces slot ≡ Some d
        → (slice_index (cell_or_fresh one_stored slot).bytes place ≡ slice_index d.bytes place)
        ⊎ ((offset_number addr ≡ place) × (set.contains cell.holders slot ≡ true)
        × (slice_index (cell_or_fresh one_stored slot).bytes place ≡ v % 256))
    one_byte slot d place at = by (set.contains cell.holders slot) refl
      where
        by : (b : Bool) → set.contains cell.holders slot ≡ b
            → (slice_index (cell_or_fresh one_stored slot).bytes place ≡ slice_index d.bytes place)
            ⊎ ((offset_number addr ≡ place) × (set.contains cell.holders slot ≡ true)
            × (slice_index (cell_or_fresh one_stored slot).bytes place ≡ v % 256))
        by false out = grind (arith, (same_out slot d at out))
        by true inside = elim (cases_eq (offset_number addr) place) [
          | inl is ↦ inr (
            is,
            inside,
            (let long : length cell.bytes ≡ 4096 = (w.cells target cell own_cell).long in
                let fits : offset_number addr < length cell.bytes = omega (arith, long) in
                ap (λ xs. slice_index xs place) (new_in slot d at inside) ∙ ap (λ n. slice_index new_bytes n) (sym is)
                ∙ own_byte cell.bytes (offset_number addr) v fits),
          )
          | inr differ ↦ inl (
              let was = w.cells target cell own_cell in
              let long : length cell.bytes ≡ 4096 = was.long in
              let fits : offset_number addr < length cell.bytes = omega (arith, long) in
              let o = was.alike slot inside in
              let same_bytes : d.bytes ≡ cell.bytes = ap (λ (x : Cell). x.bytes) (same_Some d o.0 (sym at ∙ o.1))
              ∙ o.3 in
              ap (λ xs. slice_index xs place) (new_in slot d at inside)
              ∙ other_byte cell.bytes (offset_number addr) v place fits differ
              ∙ ap (λ xs. slice_index xs place) (sym same_bytes))
        ]

    pub still_there : (slot : Slot) (d : Cell) → map.get s.spaces slot ≡ Some d
        → (e : Cell) × (map.get one_stored slot ≡ Some e)
    still_there slot d at = elim (same_cases slot_order slot target) [
      | inl is ↦ (
        _,
        ap (map.get one_stored) is.0 ∙ get-inserted (set_bytes s.spaces cell.holders new_bytes) target
            (record cell { bytes = new_bytes; accessed = true; dirty = true }),
      )
      | inr other ↦ (
        _,
        get-inserted_other (set_bytes s.spaces cell.holders new_bytes) target
            (record cell { bytes = new_bytes; accessed = true; dirty = true }) slot other.0
            ∙ get-map_values slot_order renew s.spaces slot ∙ ap (option_map (renew slot)) at,
      )
    ]

-- many
pub many_bytes : (s : State) (q addr k v : ℕ) → IsWellFormed s → AreThere s.spaces q addr k
    → (slot : Slot) (d : Cell) (place : ℕ) → map.get s.spaces slot ≡ Some d
    → (slice_index (cell_or_fresh (all_stored s.spaces q addr (bytes_of k v)) slot).bytes place ≡ slice_index d.bytes
    place) ⊎ Reaches s.spaces q addr k v slot place
many_bytes s q addr zero v w there slot d place at = grind arith
many_bytes s q addr (suc k) v w there slot d place at =
    let nothing : addr - addr ≡ 0 = omega arith in
    let T : Spaces = stored s.spaces (slot_at q addr) (offset_number addr) (bytes_of 1 v) in
    let first : map.contains_key s.spaces (slot_at q addr) ≡ true = first_there s.spaces q addr k there in
    let well : IsWellFormed (record s { spaces = T }) = well_formed-bytes s q addr 1 v w (λ i l. let z : i ≡ 0 = omega
    (arith, l) in ap (λ j. map.contains_key s.spaces (at_page q (page_number (addr + j)))) z ∙ there 0 (omega arith))
    in
    let next_cell : (e : Cell) × (map.get T slot ≡ Some e) = still_there s q addr v w first slot d at in
    let one : (slice_index (cell_or_fresh T slot).bytes place ≡ slice_index d.bytes place) ⊎ ((offset_number addr ≡
    place) × (set.contains (cell_or_fresh s.spaces (slot_at q addr)).holders slot ≡ true) × (slice_index (cell_or_fresh
    T slot).bytes place ≡ v % 256)) = one_byte s q addr v w first slot d place at in
    elim (many_bytes (record s { spaces = T }) q (addr + 1) k (v / 256) well
    (rest_there s.spaces q addr k (offset_number addr) (v % 256) there) slot next_cell.0 place next_cell.1) [
      | inl later ↦ (elim one [
        | inl same ↦ grind (arith, next_cell)
        | inr reached ↦ grind (arith, first, next_cell, nothing)
      ])
      | inr r ↦ grind (arith, first, holders_stored, one_less)
    ]
  where
    one_less : (byte : ℕ) → addr + 1 ≤ byte → byte - addr ≡ suc (byte - (addr + 1))
    one_less byte l = omega (arith, l)

-- where no number of a range passes a test
pub none_in : (t : ℕ → Bool) (a n : ℕ) → find t (range_with_len a n) ≡ None → (k : ℕ) → a ≤ k → k < a + n → t k ≡ false
none_in t a zero none k low high = absurd (omega (arith, low, high))
none_in t a (suc n) none k low high = by (t a) refl (λ later l h. none_in t (a + 1) n later k l h) none
  where
    by : (b : Bool) → t a ≡ b → (find t (range_with_len (a + 1) n) ≡ None → a + 1 ≤ k → k < a + 1 + n → t k ≡ false)
        → cond b (Some a) (find t (range_with_len (a + 1) n)) ≡ None → t k ≡ false
    by b is rest h = grind (arith, cases_eq)

-- what is mapped stays
pages_keep : (S : Spaces) (q : ℕ) (pages : List ℕ) (slot : Slot) → map.contains_key S slot ≡ true
    → map.contains_key (with_pages S q pages) slot ≡ true
pages_keep S q [] slot h = h
pages_keep S q (page ∷ pages) slot h = pages_keep (with_page S q page) q pages slot (with_page-keeps S q page slot h)

-- a store that goes on: each byte of a mapped page is as it was, or stored
module _ (s : State) (e : Event) (addr value : ℕ) (size : Size) (is : e.call ≡ call.Store addr size value)
    (w : IsWellFormed s) (live : is_live s e.pid ≡ true)
    (done : completes (answer_of s e.pid (call.Store addr size value)) ≡ true) where
  pub store_bytes : (slot : Slot) (d : Cell) (place : ℕ) → map.get s.spaces slot ≡ Some d
      → (byte_in (after_store s e.pid addr size value) slot place ≡ byte_in s slot place)
      ⊎ IsStoreInto s (after_store s e.pid addr size value) e slot place
  store_bytes slot d place at =
      let T : Spaces = with_pages s.spaces q (touched addr size) in
      let well : IsWellFormed (record s { spaces = T }) = well_formed-touched s q addr size w live (all_user addr size
      goes.outside) goes.room in
      let at_T : map.get T slot ≡ Some (cell_or_fresh T slot) = grind (arith, pages_keep) in
      elim (many_bytes (record s { spaces = T }) q addr (byte_count size) value well
      (bytes_there T q addr size (touched-there s.spaces q addr size)) slot (cell_or_fresh T slot) place at_T) [
        | inl same ↦ grind (arith, same_cells)
        | inr r ↦ inr (
            let first = r.first in
            let last = r.last in
            through r.byte first last r.there (grind (arith, same_cells)) r.stored
            (map.get s.spaces (slot_at q r.byte)) refl)
      ]
    where
      q : ℕ
      q = e.pid

      goes : Goes (step_of s q) s q addr size Write
      goes = ready (step_of s q) s q addr size Write (went-on (plan_of s q addr size Write) _ done)

      through : (byte : ℕ) → addr ≤ byte → byte < addr + byte_count size → offset_number byte ≡ place
          → set.contains (cell_or_fresh s.spaces (slot_at q byte)).holders slot ≡ true
          → byte_in (after_store s e.pid addr size value) slot place ≡ slice_index (bytes_of (byte_count size) value)
          (byte - addr)
          → (x : Option Cell) → map.get s.spaces (slot_at q byte) ≡ x
          → IsStoreInto s (after_store s e.pid addr size value) e slot place
      through byte first last there shared stored None none = grind arith
      through byte first last there shared stored (Some o) some = record {
        address = addr;
        size = size;
        value = value;
        store = is;
        byte = byte;
        covered = (first, last);
        there = there;
        own = o;
        through = some;
        right = may_write;
        shared = ap (λ (g : Set slot_order). set.contains g slot) (sym holders_is) ∙ shared;
        stored = stored;
      }
        where
          cell_is : cell_or_fresh s.spaces (slot_at q byte) ≡ o
          cell_is = ap (λ (x : Option Cell). unwrap_or x (fresh (slot_at q byte) true)) some

          holders_is : (cell_or_fresh s.spaces (slot_at q byte)).holders ≡ o.holders
          holders_is = ap (λ (x : Cell). x.holders) cell_is

          may_write : o.write ≡ true
          may_write =
              let none : is_read_only s (slot_at q byte) ≡ false =
              none_in (λ a. is_read_only s (slot_at q a)) addr (byte_count size) goes.allowed byte first last in
              not-false o.write (sym (λ i. is_some (some i) && not (cell_is i).write) ∙ none)
