-- A processor's page fault as an event: the access of the byte at its address, which changes no byte.
use Rattle.std.proofs.Common.{◌≡◌, ℕ, true, false, if◌then◌else◌}
use Rattle.std.specs.Prelude.{nat_lt}
use Rattle.kernel_acts.specs.Below.{Access, Ended, Ends, Event, FramesStay, IsUserPage, Reply, Slot, Spaces, State, View, answer, byte_at, cell_or_fresh, completes, ended_by, finds_at, gone_by, is_write, memory_of, next, page_number, slot_at, takes_stores}
use Rattle.table_walk.specs.declared.Access.TheVariants.{Read, Write}
use Rattle.kernel_acts.specs.Transfers.{load_byte, store_byte}

-- an address of 32 bits, and the highest one in place of any above: it is outside the user range
abbrev pub near : ℕ → ℕ
near address = if nat_lt address 0x100000000 then address else 0xffffffff

-- the Load of a byte, or the Store of the byte that is there; 0 is there where nothing is mapped
abbrev pub access_of_byte : State → ℕ → ℕ → Access → Event
access_of_byte s p address Read = load_byte p address
access_of_byte s p address Write = store_byte p address (byte_at s.spaces p address)

-- the event that a processor's fault at an address of 64 bits is
abbrev pub touch_of : State → ℕ → ℕ → Access → Event
touch_of s p address access = access_of_byte s p (near address) access

-- accessed of a slot is set, and for a write dirty
pub record AreMarked (spaces : Spaces) (slot : Slot) (access : Access) : Type 0 where
  pub accessed : (cell_or_fresh spaces slot).accessed ≡ true
  pub dirty : is_write access ≡ true → (cell_or_fresh spaces slot).dirty ≡ true

-- an address's page is none of the user range that takes stores as memory is
abbrev pub TakesNoStore : View → ℕ → ℕ → Type 0
TakesNoStore v p address = IsUserPage (page_number address) → takes_stores v.state.spaces (memory_of v) (slot_at p address) ≡ false

-- an access of a byte was made as this event, which changed no byte
pub record Touches (v : View) (e : Event) (p address : ℕ) (access : Access) (told : Reply) (ended : Ended) (w : View) : Type 0 where
  pub reply : told ≡ answer v.state e
  pub ended_is : ended ≡ ended_by v e
  pub state : w.state ≡ next v.state e
  pub ends : Ends ended v w
  pub stay : FramesStay (gone_by v.state e) (memory_of v) (memory_of w)
  pub kept : completes told ≡ false → w ≡ v
  pub bytes : (q at : ℕ) → byte_at w.state.spaces q at ≡ byte_at v.state.spaces q at
  pub user : completes told ≡ true → IsUserPage (page_number address)
  pub finds : completes told ≡ true → finds_at (memory_of w) p access address ≡ true
  pub marked : completes told ≡ true → AreMarked w.state.spaces (slot_at p address) access
