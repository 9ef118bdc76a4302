-- The spaces that a finite map from slots to page entries represents, given bytes for each frame.
use Rattle.std.specs.Prelude.{ℕ, Bool, false, ◌==◌, List, Option, Some, None, if◌then◌else◌}
use Rattle.address_space.specs.Below.{Order, Map, Set, PageEntry}
use Rattle.address_space.specs.Spaces.{Slot, slot_order, Cell, Spaces}
use Rattle.page_words.specs.FiniteMap as map
use Rattle.page_words.specs.FiniteSet as set

-- a map from slots to page entries
abbrev pub Entries : Type 0
Entries = Map slot_order PageEntry

-- whether an entry is there and names the frame
abbrev pub names : ℕ → Option PageEntry → Bool
names f None = false
names f (Some entry) = entry.frame == f

-- no value for an entry
abbrev pub nothing : Slot → PageEntry → Unit {0}
nothing slot entry = tt

-- the slots that name a frame
abbrev pub holders_of : Entries → ℕ → Set slot_order
holders_of entries f = map.retain_keys (map.map_values nothing entries) (λ slot. names f (map.get entries slot))

-- the group of a slot that names a frame: the slots that name it. Frame 0 is nobody's, and what names it is lazy
-- and in a group of its own
abbrev pub group_of : Entries → Slot → ℕ → Set slot_order
group_of entries slot f = if f == 0 then set.insert set.empty slot else holders_of entries f

-- the cell of an entry, given the bytes of each frame
abbrev pub cell_of : Entries → (ℕ → List ℕ) → Slot → PageEntry → Cell
cell_of entries bytes slot entry = record { write = entry.write; may = entry.may; accessed = entry.accessed; dirty = entry.dirty; bytes = bytes entry.frame; holders = group_of entries slot entry.frame }

-- the spaces that these entries and bytes represent
abbrev pub spaces_of : Entries → (ℕ → List ℕ) → Spaces
spaces_of entries bytes = map.map_values (cell_of entries bytes) entries

-- how many slots are lazy
abbrev pub lazy_count : Entries → ℕ
lazy_count entries = set.len (holders_of entries 0)
