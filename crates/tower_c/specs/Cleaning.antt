-- Dirty pages and bytes as they are, in numbers.
use Rattle.std.specs.Prelude.{◌≡◌, ◌+◌, ◌≤◌, ◌<◌, ◌++◌, ℕ, Bool, true, false, Option, Some, None, List, length, map, drop}
use Rattle.std.specs.List.{range_with_len}
use Rattle.address_space.specs.Spaces.{at_page, slot_at, byte_at}
use Rattle.process_table.specs.State.{State, is_mapped}
use Rattle.process_table.specs.View.{View}
use Rattle.kernel_calls.specs.Cleaned.{is_dirty_at, cleaned, EndsMarks}
use Rattle.kernel_calls.specs.declared.translations.Ended.TheVariants as end

-- whether the process with that number has mapped a page
abbrev pub mapped_by : State → Option ℕ → ℕ → Bool
mapped_by s (Some p) page = is_mapped s (at_page p page)
mapped_by s None page = false

-- and there is a core
abbrev pub mapped_in : Option View → Option ℕ → ℕ → Bool
mapped_in (Some core) pid page = mapped_by core.state pid page
mapped_in None pid page = false

-- accessed and dirty of a page were cleared; it was dirty or not
pub record IsCleaned (core : View) (p page : ℕ) (dirty : Bool) (next : View) : Type 0 where
  pub mapped : is_mapped core.state (at_page p page) ≡ true
  pub told : dirty ≡ is_dirty_at core.state (at_page p page)
  pub state : next.state ≡ cleaned core.state (at_page p page)
  pub marks : EndsMarks (end.Page p page) core next

-- of the process with that number
abbrev pub IsCleanedIn : View → Option ℕ → ℕ → Bool → View → Type 0
IsCleanedIn core (Some p) page dirty next = IsCleaned core p page dirty next
IsCleanedIn core None page dirty next = ⊥

-- the least page from there on that is dirty
pub record IsNextDirty (s : State) (p first page : ℕ) : Type 0 where
  pub from : first ≤ page
  pub here : is_dirty_at s (at_page p page) ≡ true
  pub least : (other : ℕ) → first ≤ other → other < page → is_dirty_at s (at_page p other) ≡ false

-- of the process with that number
abbrev pub IsNextDirtyIn : State → Option ℕ → ℕ → ℕ → Type 0
IsNextDirtyIn s (Some p) from page = IsNextDirty s p from page
IsNextDirtyIn s None from page = ⊥

-- no page is dirty from there on
abbrev pub HasNoDirty : State → Option ℕ → ℕ → Type 0
HasNoDirty s (Some p) from = (other : ℕ) → from ≤ other → is_dirty_at s (at_page p other) ≡ false
HasNoDirty s None from = Unit {0}

-- so many bytes from an address on were copied, all that are mapped before the first that is not; the rest is as it was
pub record Peeks (s : State) (p address : ℕ) (old new : List ℕ) (count : ℕ) : Type 0 where
  pub most : count ≤ length old
  pub bytes : new ≡ map (byte_at s.spaces p) (range_with_len address count) ++ drop count old
  pub mapped : (i : ℕ) → i < count → is_mapped s (slot_at p (address + i)) ≡ true
  pub stop : count < length old → is_mapped s (slot_at p (address + count)) ≡ false

-- of the process with that number, and none where there is no such process
abbrev pub PeeksIn : State → Option ℕ → ℕ → List ℕ → List ℕ → ℕ → Type 0
PeeksIn s (Some p) address old new count = Peeks s p address old new count
PeeksIn s None address old new count = (count ≡ 0) × (new ≡ old)
