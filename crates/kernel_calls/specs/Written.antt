-- What an event leaves of memory to every process but its own: what it may write.
use Rattle.std.specs.Prelude.{◌≡◌, ◌≢◌, ◌⊎◌, ℕ, ◌<◌, true, Option, Some, None, slice_get}
use Rattle.kernel_calls.specs.Below.{slot_number, frame_number, is_present, frame_bytes, Role, Reserved, Free, Directory, Table, Page, directory_at, table_at, word_of, page_frame, is_lazy_at, at_page, memory_of, View}
use Rattle.kernel_calls.specs.Machine.{next}
use Rattle.kernel_calls.specs.Processors.{IsCore}
use Rattle.kernel_calls.specs.Translations.{Ends, ended_by}
use Rattle.kernel_calls.specs.declared.calls.Event.{Event}
use Rattle.address_space.specs.Image as memory
use Rattle.kernel_calls.specs.declared.calls.Call.TheVariants as call

-- a process has no page on a frame
abbrev pub HasNone : memory.Image → ℕ → ℕ → Type 0
HasNone image p f = (page : ℕ) → page_frame image (at_page p page) ≢ Some f

-- the event takes a page of this region of a giver, which is lazy
pub record TakesLazy (v : View) (e : Event) (giver region : ℕ) : Type 0 where
  pub giver_page : ℕ
  pub page : ℕ
  pub call : e.call ≡ call.Accept giver giver_page page
  pub inside : slot_number giver_page ≡ region
  pub lazy : is_lazy_at (memory_of v) (at_page giver giver_page) ≡ true

-- two words that differ in accessed alone, where both are a directory's
pub record IsSameButAccessed (before after : ℕ) : Type 0 where
  pub frame : frame_number after ≡ frame_number before
  pub present : is_present after ≡ is_present before

-- ---- What stands in frames before an event, and it leaves

-- ---- By frames

-- the frame is a process's: its directory, a table of it, or that of a page which isn't lazy
abbrev pub IsOf : memory.Image → ℕ → ℕ → Type 0
IsOf image p f = (directory_at image p ≡ Some f) ⊎ (((region : ℕ) × (table_at image p region ≡ Some f))
    ⊎ ((page : ℕ) × (page_frame image (at_page p page) ≡ Some f)))

-- it leads to a lazy page that the event takes: it is the giver's directory, or the table of the page's region
pub record LeadsToTaken (v : View) (e : Event) (f : ℕ) : Type 0 where
  pub giver : ℕ
  pub region : ℕ
  pub takes : TakesLazy v e giver region
  pub leads : (directory_at (memory_of v) giver ≡ Some f) ⊎ (table_at (memory_of v) giver region ≡ Some f)

-- what an event may write: what was free, what is its process's, and what leads to a lazy page that it takes
abbrev pub MayWrite : View → Event → ℕ → Type 0
MayWrite v e f = (slice_get v.roles f ≡ Some Free) ⊎ (IsOf (memory_of v) e.pid f ⊎ LeadsToTaken v e f)

-- what a frame with such a role keeps: each byte of a page and of frame 0, each word of a table, and each word of a
-- directory except accessed
abbrev pub StandsAsBefore : View → View → ℕ → Option Role → Type 0
StandsAsBefore v w f (Some Reserved) = frame_bytes w.bytes f ≡ frame_bytes v.bytes f
StandsAsBefore v w f (Some (Page c)) = frame_bytes w.bytes f ≡ frame_bytes v.bytes f
StandsAsBefore v w f (Some (Table q s)) =
    (index : ℕ) → index < 1024 → word_of (memory_of w) f index ≡ word_of (memory_of v) f index
StandsAsBefore v w f (Some (Directory q)) =
    (index : ℕ) → index < 1024 → IsSameButAccessed (word_of (memory_of v) f index) (word_of (memory_of w) f index)
StandsAsBefore v w f (Some Free) = ⊥
StandsAsBefore v w f None = Unit {0}

-- all that an event may not write stands as before
abbrev pub WritesItsOwn : View → View → Event → Type 0
WritesItsOwn v w e = (f : ℕ) → (MayWrite v e f → ⊥) → StandsAsBefore v w f (slice_get v.roles f)

-- the law: an event writes only the frames that it may write
abbrev pub EventsWriteTheirOwn : Type 0
EventsWriteTheirOwn = (v w : View) (e : Event) → IsCore v → IsCore w → w.state ≡ next v.state e → Ends (ended_by v e) v w
    → WritesItsOwn v w e
