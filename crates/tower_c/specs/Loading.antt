-- Bytes that are loaded into a process's pages, in numbers.
use Rattle.std.specs.Prelude.{◌≡◌, ◌+◌, ◌<◌, ℕ, Bool, true, Option, Some, None, List, length, slice_index}
use Rattle.address_space.specs.Spaces.{slot_at, byte_at}
use Rattle.process_table.specs.State.{State, is_mapped}
use Rattle.process_table.specs.View.{View}
use Rattle.process_table.specs.declared.causes.Cause.{Cause}
use Rattle.kernel_acts.specs.Installed.{is_writable_at}
use Rattle.kernel_acts.specs.Loaded.{pages_under, load_refusal, Loads, IsLastThere}
use Rattle.tower_c.specs.Border.{numbers, no_event, refused_numbers}
use Rattle.tower_c.specs.declared.numbers.TowerReply.{TowerReply}

-- a refusal where there is a cause, and else Done
abbrev pub done_or : Option Cause → TowerReply
done_or (Some cause) = refused_numbers cause
done_or None = numbers 0 0 0 0

-- the reply to a load of so many bytes from an address on
abbrev pub load_told : State → Option ℕ → ℕ → ℕ → TowerReply
load_told s (Some p) address count = done_or (load_refusal s p (pages_under address count))
load_told s None address count = no_event

-- the bytes were loaded, page after page, and stand there, in pages with this right
pub record IsLoaded (core : View) (p address : ℕ) (bytes : List ℕ) (write : Bool) (next : View) : Type 0 where
  pub loads : Loads p address write core bytes next
  pub there : (i : ℕ) → i < length bytes → IsLastThere core.state p address (length bytes) i
      → byte_at next.state.spaces p (address + i) ≡ slice_index bytes i
  pub right : (i : ℕ) → i < length bytes → is_writable_at next.state (slot_at p (address + i)) ≡ write
  pub mapped : (i : ℕ) → i < length bytes → is_mapped next.state (slot_at p (address + i)) ≡ true

-- of the process with that number
abbrev pub IsLoadedIn : View → Option ℕ → ℕ → List ℕ → Bool → View → Type 0
IsLoadedIn core (Some p) address bytes write next = IsLoaded core p address bytes write next
IsLoadedIn core None address bytes write next = ⊥
