-- Address spaces: a finite map from slots to cells, and what they cost. No frame, word or count is in it.
use Rattle.std.specs.Prelude.{◌≡◌, ℕ, zero, suc, ◌+◌, ◌*◌, ◌/◌, ◌%◌, Bool, true, false, not, if◌then◌else◌, ◌==◌, List, [], ◌∷◌, ◌++◌, map, length, take, drop, replicate, refl, Option, unwrap_or, option_map, slice_index}
use Rattle.std.specs.declared.cmp.Ordering.{Ordering}
use Rattle.std.specs.declared.cmp.Ordering.TheVariants.{Less, Equal, Greater}
use Rattle.std.specs.Ordering.{nat_cmp, then_cmp, on, ordering_then}
use Rattle.std.specs.Cmp.{IsTotalOrder, nat_cmp_total, on_total, then_total}
use Rattle.std.specs.FinMap.{IsAntisymmetric, nat_cmp-IsAntisymmetric}
use Rattle.address_space.specs.Below.{slot_number, page_number, offset_number, touched, Size, Order, Map, nat_order, same, Set}
use Rattle.page_words.specs.FiniteMap as map
use Rattle.page_words.specs.FiniteSet as set

-- a page of a process
pub record Slot : Type 0 where
  pub pid : ℕ
  pub page : ℕ

-- the slot of a page of a process
abbrev pub at_page : ℕ → ℕ → Slot
at_page p page = record { pid = p; page = page }

-- the slot that an address of a process lies in
abbrev pub slot_at : ℕ → ℕ → Slot
slot_at p address = at_page p (page_number address)

-- by process, then by page
abbrev pub slot_cmp : Slot → Slot → Ordering
slot_cmp = then_cmp (on (λ s. s.pid) nat_cmp) (on (λ s. s.page) nat_cmp)

both_equal : (a b : Ordering) → ordering_then a b ≡ Equal → (a ≡ Equal) × (b ≡ Equal)
both_equal Less b e = cc
both_equal Equal b e = (refl, e)
both_equal Greater b e = cc

pub slot_same : IsAntisymmetric slot_cmp
slot_same x y e =
    let ps = both_equal (nat_cmp x.pid y.pid) _ e in
    let p = nat_cmp-IsAntisymmetric _ _ ps.0 in
    let q = nat_cmp-IsAntisymmetric _ _ ps.1 in
    λ i. record { pid = p i; page = q i }

pub slot_total : IsTotalOrder slot_cmp
slot_total = then_total (on_total (λ s. s.pid) nat_cmp_total) (on_total (λ s. s.page) nat_cmp_total)

-- the order of slots: by process, then by page
abbrev pub slot_order : Order Slot
slot_order = record { cmp = slot_cmp; total = slot_total; same = slot_same }

-- whether a slot is this page of this process
abbrev pub is_slot : ℕ → ℕ → Slot → Bool
is_slot p page slot = same slot_order (at_page p page) slot

-- whether a slot is of this process
abbrev pub is_of : ℕ → Slot → Bool
is_of p slot = slot.pid == p

-- ---- Cells

-- what a process has at a mapped page
pub record Cell : Type 0 where
  pub write : Bool
  -- the process may make the page writable
  pub may : Bool
  pub accessed : Bool
  pub dirty : Bool
  -- 4,096 bytes
  pub bytes : List ℕ
  -- the group: the slots that have these bytes in common, this one among them
  pub holders : Set slot_order

-- the address spaces of all processes: a map from slots to cells
abbrev pub Spaces : Type 0
Spaces = Map slot_order Cell

-- a page of zeros
abbrev pub zeros : List ℕ
zeros = replicate 4096 0

-- a page of zeros, in a group of its own
abbrev pub fresh : Slot → Bool → Cell
fresh slot write = record { write = write; may = true; accessed = false; dirty = false; bytes = zeros; holders = set.insert set.empty slot }

-- what stands at a slot, and a fresh page where nothing does
abbrev pub cell_or_fresh : Spaces → Slot → Cell
cell_or_fresh spaces slot = unwrap_or (map.get spaces slot) (fresh slot true)

-- a cell with these bytes
abbrev pub with_bytes : Cell → List ℕ → Cell
with_bytes cell bytes = record cell { bytes = bytes }

-- a cell with this group
abbrev pub with_holders : Cell → Set slot_order → Cell
with_holders cell holders = record cell { holders = holders }

-- the slots of a group have these bytes
abbrev pub set_bytes : Spaces → Set slot_order → List ℕ → Spaces
set_bytes spaces group bytes = map.map_values (λ slot cell. if set.contains group slot then with_bytes cell bytes else cell) spaces

-- the slots of a group are this group from now on
abbrev pub set_holders : Spaces → Set slot_order → Set slot_order → Spaces
set_holders spaces group holders = map.map_values (λ slot cell. if set.contains group slot then with_holders cell holders else cell) spaces

-- some slots leave their groups, and go
abbrev pub without : Spaces → (Slot → Bool) → Spaces
without spaces gone = map.map_values (λ slot cell. with_holders cell (set.retain cell.holders (λ s. not (gone s)))) (map.retain_keys spaces (λ s. not (gone s)))

-- ---- Costs

-- the pages that a process has mapped
abbrev pub pages_of : Spaces → ℕ → Set nat_order
pages_of spaces p = set.from_list (map (λ entry. entry.0.page) (map.retain_keys spaces (λ slot. slot.pid == p)).entries)

-- their regions, of 1,024 pages each
abbrev pub regions_of : Set nat_order → Set nat_order
regions_of pages = set.from_list (map slot_number (set.items pages))

-- one for the directory, one for each region with a page, one for each page
abbrev pub cost_of : Set nat_order → ℕ
cost_of pages = 1 + set.len (regions_of pages) + set.len pages

-- the cost of process p, in frames
abbrev pub cost : Spaces → ℕ → ℕ
cost spaces p = cost_of (pages_of spaces p)

-- what one more page costs
abbrev pub need : Spaces → ℕ → ℕ → ℕ
need spaces p page = if set.contains (regions_of (pages_of spaces p)) (slot_number page) then 1 else 2

-- what a process needs for a page: nothing where it is mapped
abbrev pub page_need : Spaces → ℕ → ℕ → ℕ
page_need spaces p page = if map.contains_key spaces (at_page p page) then 0 else need spaces p page

-- the pages of a list that a process has not mapped
abbrev pub missing : Spaces → ℕ → List ℕ → Set nat_order
missing spaces p pages = set.retain (set.from_list pages) (λ page. not (map.contains_key spaces (at_page p page)))

-- what a process needs to map these pages too: one for each, and one for each of their regions in which it has no page
abbrev pub need_of : Spaces → ℕ → Set nat_order → ℕ
need_of spaces p pages = set.len pages + set.len (set.retain (regions_of pages) (λ region. not (set.contains (regions_of (pages_of spaces p)) region)))

-- what a process needs for an access: to map the pages that it touches and that are not mapped
abbrev pub access_need : Spaces → ℕ → ℕ → Size → ℕ
access_need spaces p address size = need_of spaces p (missing spaces p (touched address size))

-- ---- Bytes and numbers

-- the low bytes of a number, the lowest first
abbrev pub bytes_of : ℕ → ℕ → List ℕ
bytes_of zero value = []
bytes_of (suc k) value = value % 256 ∷ bytes_of k (value / 256)

-- the number of these bytes, the lowest first
abbrev pub value_of : List ℕ → ℕ
value_of [] = 0
value_of (b ∷ bytes) = b + 256 * value_of bytes

-- the bytes at a place
abbrev pub bytes_at : List ℕ → ℕ → ℕ → List ℕ
bytes_at bytes at count = take count (drop at bytes)

-- these bytes with others written at a place
abbrev pub write_at : List ℕ → ℕ → List ℕ → List ℕ
write_at bytes at new = take at bytes ++ new ++ drop (at + length new) bytes

-- ---- Spaces after each kind of change

-- after an access that completes: accessed is set in the slot's own cell
abbrev pub accessed : Spaces → Slot → Spaces
accessed spaces slot = map.insert spaces slot (record (cell_or_fresh spaces slot) { accessed = true })

-- after a change of the right to write: it is set or cleared in the slot's own cell
abbrev pub protected : Spaces → Slot → Bool → Spaces
protected spaces slot write = map.insert spaces slot (record (cell_or_fresh spaces slot) { write = write })

-- the group of a slot's cell has these bytes, and the cell both flags
abbrev pub store_in : Spaces → Slot → Cell → List ℕ → Spaces
store_in spaces slot cell bytes = map.insert (set_bytes spaces cell.holders bytes) slot (record cell { bytes = bytes; accessed = true; dirty = true })

-- after a store of these bytes at this offset
abbrev pub stored : Spaces → Slot → ℕ → List ℕ → Spaces
stored spaces slot at new =
    let cell = cell_or_fresh spaces slot in
    store_in spaces slot cell (write_at cell.bytes at new)

-- ---- Accesses, which may touch two pages

-- the byte at an address of a process, 0 where nothing is mapped
abbrev pub byte_at : Spaces → ℕ → ℕ → ℕ
byte_at spaces p address = slice_index (cell_or_fresh spaces (slot_at p address)).bytes (offset_number address)

-- the number of the bytes at these addresses, the lowest first
abbrev pub number_of : Spaces → ℕ → List ℕ → ℕ
number_of spaces p addresses = value_of (map (byte_at spaces p) addresses)

-- a page of a process is mapped: it stays as it is, or is fresh
abbrev pub with_page : Spaces → ℕ → ℕ → Spaces
with_page spaces p page = if map.contains_key spaces (at_page p page) then spaces else map.insert spaces (at_page p page) (fresh (at_page p page) true)

-- each of these pages is mapped
abbrev pub with_pages : Spaces → ℕ → List ℕ → Spaces
with_pages spaces p [] = spaces
with_pages spaces p (page ∷ pages) = with_pages (with_page spaces p page) p pages

-- after a load through these pages: accessed is set in the slot of each
abbrev pub all_accessed : Spaces → ℕ → List ℕ → Spaces
all_accessed spaces p [] = spaces
all_accessed spaces p (page ∷ pages) = all_accessed (accessed spaces (at_page p page)) p pages

-- after a store of these bytes from an address on, one after the other
abbrev pub all_stored : Spaces → ℕ → ℕ → List ℕ → Spaces
all_stored spaces p address [] = spaces
all_stored spaces p address (byte ∷ bytes) = all_stored (stored spaces (slot_at p address) (offset_number address) (byte ∷ [])) p (address + 1) bytes

-- ---- Joins

-- a slot joins the group of a cell, with this right
abbrev pub join_in : Spaces → Cell → Slot → Bool → Spaces
join_in spaces cell slot right =
    let holders = set.insert cell.holders slot in
    map.insert (set_holders spaces cell.holders holders) slot (record { write = right; may = right; accessed = false; dirty = false; bytes = cell.bytes; holders = holders })

-- after a slot has joined the group of another, with this right
abbrev pub joined : Spaces → Slot → Slot → Bool → Spaces
joined spaces giver slot right = join_in spaces (cell_or_fresh spaces giver) slot right

-- a copy of a cell for a slot: the same bytes and rights, untouched, in a group of its own
abbrev pub copy_of : Slot → Cell → Cell
copy_of slot cell = record cell { accessed = false; dirty = false; holders = set.insert set.empty slot }

-- what stands at a slot after all pages of a process were copied to another: at the other's, copies of what the
-- process has at the same pages
abbrev pub copied_at : Spaces → ℕ → ℕ → Slot → Option Cell
copied_at spaces from to slot = if is_of to slot then option_map (copy_of slot) (map.get spaces (at_page from slot.page)) else map.get spaces slot

-- after all pages of a process were copied to the same pages of another, which had none
abbrev pub copied : Spaces → ℕ → ℕ → Spaces
copied spaces from to = map.collect (copied_at spaces from to) (map.keys spaces ++ map (λ slot. at_page to slot.page) (map.keys spaces))
