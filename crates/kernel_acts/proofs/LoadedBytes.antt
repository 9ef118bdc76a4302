-- What stands where bytes were loaded: the bytes, and the right of each page.
use Rattle.kernel_acts.proofs.Prelude.{◌≡◌, ◌≢◌, ℕ, ◌+◌, ◌<◌, ◌≤◌, ◌||◌, Bool, true, false, length, List, refl, sym, ap, ◌∙◌, Option, Some, None, unwrap_or, inl, inr, arith, ◌⊎◌, if◌then◌else◌, slice_index, option_map, length-take-le, length-append, get_or_append_left, get_or-append-add, get_or-append_right, get_or-take, get_or-drop, offset_number, same, get-map_values, contains-insert, same_cases, same_apart, Slot, slot_order, Spaces, Cell, slot_at, fresh, cell_or_fresh, with_bytes, set_bytes, write_at, protected, stored, State, IsWellFormed, get-inserted, get-inserted_other, shares, installed, group_at, group_stored}
use Rattle.page_words.specs.FiniteMap as map
use Rattle.page_words.specs.FiniteSet as set

-- ---- Lists

pub written_inside : (xs new : List ℕ) (at k : ℕ) → at ≤ length xs → k < length new → slice_index (write_at xs at new) (at + k) ≡ slice_index new k
written_inside xs new at k long few =
    grind (arith, length-take-le, length-append, get_or_append_left, get_or-append-add)

-- a place outside of these
abbrev pub Outside : ℕ → ℕ → ℕ → Type 0
Outside at count place = (place < at) ⊎ (at + count ≤ place)

pub written_outside : (xs new : List ℕ) (at place : ℕ) → at ≤ length xs → Outside at (length new) place → slice_index (write_at xs at new) place ≡ slice_index xs place
written_outside xs new at place long x5 =
    grind (arith, length-take-le, length-append, get_or_append_left, get_or-take, get_or-append_right, get_or-drop)

-- ---- A slot after an install

abbrev pub bytes_in : Spaces → Slot → List ℕ
bytes_in S q = (cell_or_fresh S q).bytes

abbrev pub right_in : Spaces → Slot → Option Bool
right_in S q = option_map (λ (c : Cell). c.write) (map.get S q)

group_protected : (S : Spaces) (slot : Slot) (write : Bool) (q : Slot) → group_at (protected S slot write) q ≡ group_at S q
group_protected S slot write q = elim (same_cases slot_order q slot) [
  | inl here ↦ grind (arith, group_at, get-inserted)
  | inr other ↦ ap (λ (x : Option Cell). (unwrap_or x (fresh q true)).holders) (get-inserted_other S slot (record (cell_or_fresh S slot) { write = write }) q other.0)
]

bytes_protected : (S : Spaces) (slot : Slot) (write : Bool) (q : Slot) → bytes_in (protected S slot write) q ≡ bytes_in S q
bytes_protected S slot write q = elim (same_cases slot_order q slot) [
  | inl here ↦ grind (arith, get-inserted)
  | inr other ↦ ap (λ (x : Option Cell). (unwrap_or x (fresh q true)).bytes) (get-inserted_other S slot (record (cell_or_fresh S slot) { write = write }) q other.0)
]

right_protected : (S : Spaces) (slot : Slot) (write : Bool) (q : Slot) → q ≢ slot → right_in (protected S slot write) q ≡ right_in S q
right_protected S slot write q apart = grind (arith, get-inserted_other)

module _ (S : Spaces) (own : Slot) (at : ℕ) (new : List ℕ) where
  abbrev pub written : List ℕ
  written = write_at (bytes_in S own) at new

  abbrev cell : Cell
  cell = record (cell_or_fresh S own) { bytes = written; accessed = true; dirty = true }

  abbrev changes : Slot → Cell → Cell
  changes slot c = if set.contains (group_at S own) slot then with_bytes c written else c

  beside : (q : Slot) → q ≢ own → map.get (stored S own at new) q ≡ option_map (changes q) (map.get S q)
  beside q apart = get-inserted_other (set_bytes S (group_at S own) written) own cell q apart ∙ get-map_values slot_order changes S q

  right_stored : (q : Slot) → q ≢ own → right_in (stored S own at new) q ≡ right_in S q
  right_stored q apart = grind (arith, beside, group_at)

  own_right : right_in (stored S own at new) own ≡ Some (cell_or_fresh S own).write
  own_right = ap (option_map (λ (c : Cell). c.write)) (get-inserted (set_bytes S (group_at S own) written) own cell)

  pub own_bytes : bytes_in (stored S own at new) own ≡ written
  own_bytes = ap (λ (x : Option Cell). (unwrap_or x (fresh own true)).bytes) (get-inserted (set_bytes S (group_at S own) written) own cell)

  -- another slot keeps its bytes, or has those of the group
  pub beside_bytes : (q : Slot) → q ≢ own → (bytes_in (stored S own at new) q ≡ bytes_in S q) ⊎ ((set.contains (group_at S own) q ≡ true) × (bytes_in (stored S own at new) q ≡ written))
  beside_bytes q apart = grind (arith, beside, group_at)

module _ (s : State) (p a : ℕ) (part : List ℕ) where
  abbrev slot : Slot
  slot = slot_at p a

  abbrev writable : Spaces
  writable = protected s.spaces slot true

  abbrev full : Spaces
  full = stored writable slot (offset_number a) part

  pub installed_groups : (write : Bool) (q : Slot) → group_at (installed s p a part write).spaces q ≡ group_at s.spaces q
  installed_groups true q = group_stored writable slot q (offset_number a) part ∙ group_protected s.spaces slot true q
  installed_groups false q = group_protected full slot false q ∙ group_stored writable slot q (offset_number a) part ∙ group_protected s.spaces slot true q

  pub installed_rights : (write : Bool) (q : Slot) → q ≢ slot → right_in (installed s p a part write).spaces q ≡ right_in s.spaces q
  installed_rights true q apart = right_stored writable slot (offset_number a) part q apart ∙ right_protected s.spaces slot true q apart
  installed_rights false q apart = right_protected full slot false q apart ∙ right_stored writable slot (offset_number a) part q apart ∙ right_protected s.spaces slot true q apart

  pub installed_right : (write : Bool) → right_in (installed s p a part write).spaces slot ≡ Some write
  installed_right true =
      own_right writable slot (offset_number a) part
      ∙ ap (λ (x : Option Cell). Some (unwrap_or x (fresh slot true)).write) (get-inserted s.spaces slot (record (cell_or_fresh s.spaces slot) { write = true }))
  installed_right false = ap (option_map (λ (c : Cell). c.write)) (get-inserted full slot (record (cell_or_fresh full slot) { write = false }))

  installed_bytes : (write : Bool) (q : Slot) → bytes_in (installed s p a part write).spaces q ≡ bytes_in full q
  installed_bytes true q = refl
  installed_bytes false q = bytes_protected full slot false q

  -- those of the page itself
  pub own_written : (write : Bool) → bytes_in (installed s p a part write).spaces slot ≡ write_at (bytes_in s.spaces slot) (offset_number a) part
  own_written write =
      installed_bytes write slot ∙ own_bytes writable slot (offset_number a) part ∙ ap (λ xs. write_at xs (offset_number a) part) (bytes_protected s.spaces slot true slot)

  -- and those of another, which are of its group, or as before
  pub beside_written : (write : Bool) (q : Slot) → q ≢ slot → (bytes_in (installed s p a part write).spaces q ≡ bytes_in s.spaces q)
      ⊎ ((set.contains (group_at s.spaces slot) q ≡ true) × (bytes_in (installed s p a part write).spaces q ≡ write_at (bytes_in s.spaces slot) (offset_number a) part))
  beside_written write q apart = elim (beside_bytes writable slot (offset_number a) part q apart) [
    | inl same ↦ inl (installed_bytes write q ∙ same ∙ bytes_protected s.spaces slot true q)
    | inr in_group ↦ grind (arith, group_protected, installed_bytes, bytes_protected)
  ]

-- ---- Groups

pub lone : (own q : Slot) → q ≢ own → set.contains (fresh own true).holders q ≡ false
lone own q apart = contains-insert {o = slot_order} set.empty own q ∙ ap (λ b. b || false) (same_apart slot_order q own apart)

pub shares_group : (s : State) (own q : Slot) → q ≢ own → shares s own q ≡ set.contains (group_at s.spaces own) q
shares_group s own q apart = grind (arith, lone)

pub page_long : (s : State) (q : Slot) → IsWellFormed s → length (bytes_in s.spaces q) ≡ 4096
page_long s q w = by (map.get s.spaces q) refl
  where
    by : (x : Option Cell) → map.get s.spaces q ≡ x → length (unwrap_or x (fresh q true)).bytes ≡ 4096
    by None none = refl
    by (Some c) some = (w.cells q c some).long

-- slots of one group have the same bytes
pub alike : (s : State) (own q : Slot) → IsWellFormed s → q ≢ own → set.contains (group_at s.spaces own) q ≡ true → bytes_in s.spaces q ≡ bytes_in s.spaces own
alike s own q w apart together = by (map.get s.spaces own) refl together
  where
    by : (x : Option Cell) → map.get s.spaces own ≡ x → set.contains (unwrap_or x (fresh own true)).holders q ≡ true → bytes_in s.spaces q ≡ bytes_in s.spaces own
    by None none h = let f : true ≡ false = sym h ∙ lone own q apart in cc
    by (Some c) some h =
        let other = (w.cells own c some).alike q h in
        ap (λ (x : Option Cell). (unwrap_or x (fresh q true)).bytes) other.1 ∙ other.3
        ∙ sym (ap (λ (x : Option Cell). (unwrap_or x (fresh own true)).bytes) some)
