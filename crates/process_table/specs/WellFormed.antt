-- Which states are well formed.
use Rattle.std.specs.Prelude.{◌≡◌, ℕ, ◌+◌, ◌<◌, ◌≤◌, ◌≢◌, Bool, IsTrue, length, Some, sum_by, All}
use Rattle.process_table.specs.Below.{IsUserPage, Slot, Cell, Spaces, cost, at_page, Member, given, quota_of, OfferKey, pending}
use Rattle.process_table.specs.State.{State, is_live}
use Rattle.page_words.specs.FiniteMap as map
use Rattle.page_words.specs.FiniteSet as set

-- a cell at its slot: 4,096 bytes, flags that agree, and a group in which each slot has the same bytes and the same
-- group
pub record IsCellAt (spaces : Spaces) (slot : Slot) (cell : Cell) : Type 0 where
  pub user : IsUserPage slot.page
  pub long : length cell.bytes ≡ 4096
  pub small : All (λ b. b < 256) cell.bytes
  pub write_may : IsTrue cell.write → IsTrue cell.may
  pub dirty_accessed : IsTrue cell.dirty → IsTrue cell.accessed
  pub own : IsTrue (set.contains cell.holders slot)
  pub alike : (other : Slot) → IsTrue (set.contains cell.holders other) → (c : Cell) × (map.get spaces other ≡ Some c) × (c.holders ≡ cell.holders) × (c.bytes ≡ cell.bytes)

-- an offer of a mapped slot to another live process, with no right that the slot lacks
pub record IsOfferIn (s : State) (key : OfferKey) (right : Bool) : Type 0 where
  pub target : IsTrue (is_live s key.target)
  pub another : key.target ≢ key.offerer
  pub offered : (c : Cell) × (map.get s.spaces (at_page key.offerer key.page) ≡ Some c) × (IsTrue right → IsTrue c.may)

-- a well-formed state
pub record IsWellFormed (s : State) : Type 0 where
  pub root : IsTrue (is_live s 0)
  -- the root is its own parent, so that a process that exits leaves none without one
  pub root_parent : (member : Member) → map.get s.book 0 ≡ Some member → member.parent ≡ 0
  pub processes : (p : ℕ) (member : Member) → map.get s.book p ≡ Some member → (p < 64) × IsTrue (is_live s member.parent)
  -- no process uses and gives more than its quota
  pub rooms : (p : ℕ) → IsTrue (is_live s p) → cost s.spaces p + given s.book p ≤ quota_of s.book p
  -- slots belong to live processes
  pub owners : (slot : Slot) (cell : Cell) → map.get s.spaces slot ≡ Some cell → IsTrue (is_live s slot.pid)
  pub cells : (slot : Slot) (cell : Cell) → map.get s.spaces slot ≡ Some cell → IsCellAt s.spaces slot cell
  pub offers : (key : OfferKey) (right : Bool) → map.get s.offers key ≡ Some right → IsOfferIn s key right
  pub few : (p : ℕ) → map.len (pending s.offers p) ≤ 32

-- what all live processes cost together
abbrev pub total : State → ℕ
total s = sum_by (λ entry. cost s.spaces entry.0) s.book.entries
