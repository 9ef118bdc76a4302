-- What an event leaves of the slots that are mapped, and of other processes.
use Rattle.std.specs.Prelude.{◌≡◌, ◌≢◌, ℕ, ◌+◌, ◌-◌, ◌<◌, ◌≤◌, Bool, true, false, IsTrue, List, Option, Some, unwrap_or, ◌⊎◌, slice_index, option_map}
use Rattle.kernel_calls.specs.Below.{offset_number, byte_count, Size, Slot, Cell, cell_or_fresh, at_page, slot_at, bytes_of, Member, is_child, given, number_of_children, State, is_live, IsWellFormed}
use Rattle.kernel_calls.specs.Machine.{next}
use Rattle.kernel_calls.specs.declared.calls.Event.{Event}
use Rattle.page_words.specs.FiniteMap as map
use Rattle.page_words.specs.FiniteSet as set
use Rattle.kernel_calls.specs.declared.calls.Call.TheVariants as call

-- the flags of a page
pub record Flags : Type 0 where
  pub write : Bool
  pub may : Bool
  pub accessed : Bool
  pub dirty : Bool

-- the flags of a cell
abbrev pub flags_of : Cell → Flags
flags_of cell = record { write = cell.write; may = cell.may; accessed = cell.accessed; dirty = cell.dirty }

-- the flags of a slot, where it is mapped
abbrev pub flags_at : State → Slot → Option Flags
flags_at s slot = option_map flags_of (map.get s.spaces slot)

-- the byte at a place of a slot's page
abbrev pub byte_in : State → Slot → ℕ → ℕ
byte_in s slot place = slice_index (cell_or_fresh s.spaces slot).bytes place

-- a slot is mapped, and another is in its group
abbrev pub shares : State → Slot → Slot → Bool
shares s slot other = unwrap_or (option_map (λ (c : Cell). set.contains c.holders other) (map.get s.spaces slot)) false

-- q is a child of p
abbrev pub is_child_of : State → ℕ → ℕ → Bool
is_child_of s p q = unwrap_or (option_map (λ (m : Member). is_child p (q, m)) (map.get s.book q)) false

-- the event is a store of its process that covers this byte, through a writable slot of its own whose page this slot
-- shares, and the byte there is then that byte of the value
pub record IsStoreInto (s t : State) (e : Event) (slot : Slot) (place : ℕ) : Type 0 where
  pub address : ℕ
  pub size : Size
  pub value : ℕ
  pub store : e.call ≡ call.Store address size value
  pub byte : ℕ
  pub covered : (address ≤ byte) × (byte < address + byte_count size)
  pub there : offset_number byte ≡ place
  pub own : Cell
  pub through : map.get s.spaces (slot_at e.pid byte) ≡ Some own
  pub right : IsTrue own.write
  pub shared : IsTrue (set.contains own.holders slot)
  pub stored : byte_in t slot place ≡ slice_index (bytes_of (byte_count size) value) (byte - address)

-- What an event may change of a slot that is mapped before and after it, whichever process owns the slot. `may` stays,
-- and accessed and dirty, once set. The right to write stays, unless the event's process protects the slot, and so does
-- each byte that no store to the slot covers.
pub record IsRightfulChange (s t : State) (e : Event) (slot : Slot) (before after : Cell) : Type 0 where
  pub may : after.may ≡ before.may
  pub write : (after.write ≡ before.write) ⊎ ((slot.pid ≡ e.pid) × (e.call ≡ call.Protect slot.page after.write))
  pub marks : (IsTrue before.accessed → IsTrue after.accessed) × (IsTrue before.dirty → IsTrue after.dirty)
  pub bytes : (place : ℕ) → (slice_index after.bytes place ≡ slice_index before.bytes place)
      ⊎ IsStoreInto s t e slot place

-- an event changes slots that are mapped before and after it within these limits only
abbrev pub ChangesAreRightful : Type 0
ChangesAreRightful = (s : State) (e : Event) (slot : Slot) (before after : Cell) → IsWellFormed s
    → map.get s.spaces slot ≡ Some before → map.get (next s e).spaces slot ≡ Some after
    → IsRightfulChange s (next s e) e slot before after

-- What another's event leaves a live process. It leaves its place in the book, and its mapped pages with their flags,
-- so that they cost the same. It leaves what the process has given to how many children, unless the event is the exit
-- of one.
pub record IsUntouched (s t : State) (e : Event) (p : ℕ) : Type 0 where
  pub member : map.get t.book p ≡ map.get s.book p
  pub flags : (page : ℕ) → flags_at t (at_page p page) ≡ flags_at s (at_page p page)
  pub given : ((given t.book p ≡ given s.book p) × (number_of_children t.book p ≡ number_of_children s.book p))
      ⊎ ((is_child_of s p e.pid ≡ true) × (e.call ≡ call.Exit))

-- an event of another leaves a live process untouched
abbrev pub Integrity : Type 0
Integrity = (s : State) (e : Event) (p : ℕ) → IsWellFormed s → is_live s p ≡ true → p ≢ e.pid
    → IsUntouched s (next s e) e p

-- what a page shows, whichever process owns it: its bytes, and how many slots share it
pub record Shown : Type 0 where
  pub bytes : List ℕ
  pub holders : ℕ

-- what a cell shows: its bytes, and the size of its group
abbrev pub shown_of : Cell → Shown
shown_of cell = record { bytes = cell.bytes; holders = set.len cell.holders }

-- what the page of a slot shows
abbrev pub shown_at : State → Slot → Option Shown
shown_at s slot = option_map shown_of (map.get s.spaces slot)
