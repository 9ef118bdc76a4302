-- What an event leaves of the memory of other processes.
use Rattle.std.specs.Prelude.{◌≡◌, ◌≢◌, ℕ, ◌<◌, true, false, Some}
use Rattle.phys_memory.specs.Bytes.{frame_bytes}
use Rattle.address_space.specs.Image.{directory_at, table_at, word_of, page_frame}
use Rattle.address_space.specs.Spaces.{Slot}
use Rattle.process_table.specs.Image.{memory_of}
use Rattle.process_table.specs.View.{View}
use Rattle.kernel_calls.specs.Machine.{next}
use Rattle.kernel_calls.specs.Processors.{IsCore}
use Rattle.kernel_calls.specs.Translations.{Ends, ended_by, ends_in_region}
use Rattle.kernel_calls.specs.declared.calls.Event.{Event}
use Rattle.kernel_calls.specs.Written.{HasNone, IsSameButAccessed, TakesLazy}

-- what an event from v to w leaves of frames that aren't its process's
pub record LeavesToOthers (v w : View) (e : Event) : Type 0 where
  -- each byte of frame 0, and of a page that its process doesn't have
  pub zero : frame_bytes w.bytes 0 ≡ frame_bytes v.bytes 0
  pub pages : (slot : Slot) (f : ℕ) → page_frame (memory_of v) slot ≡ Some f → HasNone (memory_of v) e.pid f
      → frame_bytes w.bytes f ≡ frame_bytes v.bytes f
  -- each word of another's table, which stays that of its region, unless the event ends a page in the region
  pub tables : (q region table index : ℕ) → q ≢ e.pid → ends_in_region (ended_by v e) q region ≡ false
      → table_at (memory_of v) q region ≡ Some table → index < 1024
      → (table_at (memory_of w) q region ≡ Some table) × (word_of (memory_of w) table index ≡ word_of (memory_of v) table index)
  -- each word of another's directory, which stays the process's, except accessed, and except the word of such a region
  pub directories : (q directory region : ℕ) → q ≢ e.pid → ends_in_region (ended_by v e) q region ≡ false
      → directory_at (memory_of v) q ≡ Some directory → region < 1024
      → (directory_at (memory_of w) q ≡ Some directory)
      × IsSameButAccessed (word_of (memory_of v) directory region) (word_of (memory_of w) directory region)
  -- another's page it ends only where it takes that, lazy
  pub ended : (q region : ℕ) → q ≢ e.pid → ends_in_region (ended_by v e) q region ≡ true → TakesLazy v e q region

-- so does each event that leads from a core to a core as `Core::step` says
abbrev pub EventsLeaveToOthers : Type 0
EventsLeaveToOthers = (v w : View) (e : Event) → IsCore v → IsCore w → w.state ≡ next v.state e → Ends (ended_by v e) v w
    → LeavesToOthers v w e
