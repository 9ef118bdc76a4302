-- Bytes that the kernel puts into the pages of a process in which they lie: all of them, or none.
use Rattle.std.proofs.Common.{◌≡◌, ℕ, zero, suc, ◌+◌, ◌-◌, ◌<◌, ◌≤◌, Bool, false, not, if◌then◌else◌, length, List, [], ◌++◌, Option, Some, None}
use Rattle.std.specs.List.{list_all, range_with_len}
use Rattle.kernel_acts.specs.Below.{Cause, EndsMarks, IsCore, State, View, at_page, cell_or_fresh, is_live, is_user_page, offset_number, overdrawn, page_number, slot_at}
use Rattle.process_table.specs.declared.causes.Cause.TheVariants as cause
use Rattle.kernel_calls.specs.Integrity.{shares}
use Rattle.kernel_acts.specs.Installed.{installed, Installs}
use Rattle.kernel_calls.specs.declared.translations.Ended.TheVariants as end

-- the pages in which so many bytes from an address on lie, in order
abbrev pub pages_under : ℕ → ℕ → List ℕ
pages_under address zero = []
pages_under address (suc n) = range_with_len (page_number address) (page_number (address + n) + 1 - page_number address)

-- the process may make the page writable, or map it
abbrev pub may_at : State → ℕ → ℕ → Bool
may_at s p page = (cell_or_fresh s.spaces (at_page p page)).may

-- the refusals of a load into these pages, in order
abbrev pub load_refusal : State → ℕ → List ℕ → Option Cause
load_refusal s p pages =
    if not (is_live s p) then Some cause.NoProcess else
    if not (list_all is_user_page pages) then Some cause.BadPage else
    if not (list_all (may_at s p) pages) then Some cause.Rights else
    if overdrawn s p pages then Some cause.Quota else
    None

-- These bytes were loaded from an address on, page after page, which led from v to w. Each page got its part by an
-- install, whose run refuses nothing, and which ended the page's translation alone. Memory was a core's after each.
pub data Loads (p address : ℕ) (write : Bool) (v : View) : List ℕ → View → Type 0 where
  no_page : Loads p address write v [] v
  page_more : {before : List ℕ} (part : List ℕ) {u w : View} → Loads p address write v before u
      → 0 < length part → offset_number (address + length before) + length part ≤ 4096
      → Installs u.state p (address + length before) part write w.state
      → w.state ≡ installed u.state p (address + length before) part write
      → EndsMarks (end.Page p (page_number (address + length before))) u w
      → IsCore w
      → Loads p address write v (before ++ part) w

-- of so many bytes, none behind this one goes to the same place of the same page through another slot
abbrev pub IsLastThere : State → ℕ → ℕ → ℕ → ℕ → Type 0
IsLastThere s p address count i = (j : ℕ) → i < j → j < count → offset_number (address + j) ≡ offset_number (address + i)
    → shares s (slot_at p (address + j)) (slot_at p (address + i)) ≡ false
