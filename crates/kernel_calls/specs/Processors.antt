-- What a core and any number of processors do with one memory, one step after another, and which events that is.
use Rattle.std.specs.Prelude.{◌≡◌, ℕ, ◌==◌, ◌≤◌, length, Bool, true, not, ◌&&◌, if◌then◌else◌, List, [], ◌∷◌, ◌++◌, Some, Result, Ok, Err, slice_get}
use Rattle.kernel_calls.specs.Below.{IsUserPage, EachTouched, page_number, slot_number, index_number, frame_number, is_present, is_writable, is_user, word_at, word_place, Access, Read, Write, WalkEnd, Outside, walk_of, first_that_applies, is_outside, is_write, not_present, not_allowed, with_walked, directory_at, at_page, WaysAgree, WalksAgree, StandsFor, image_of, memory_of, State, container_of, View, IsWellFormed, takes_no_frame}
use Rattle.kernel_calls.specs.Decisions.{plan_of_event}
use Rattle.kernel_calls.specs.Kept.{reply_kept, bytes_kept, ServesEvent, IsLoad, IsStore}
use Rattle.kernel_calls.specs.Machine.{answer, answers, next, end_of}
use Rattle.kernel_calls.specs.Translations.{Kept, translation, DirectoryEntry, directory_entry, IsRead, AreRead, Ends, ended_by, left_by}
use Rattle.kernel_calls.specs.Walked.{finds_event, reply_found, bytes_accessed}
use Rattle.kernel_calls.specs.declared.calls.Call.{Call}
use Rattle.kernel_calls.specs.declared.calls.Event.{Event}
use Rattle.kernel_calls.specs.declared.calls.Reply.{Reply}
use Rattle.kernel_calls.specs.declared.translations.Ended.{Ended}
use Rattle.kernel_calls.specs.declared.calls.Call.TheVariants as call
use Rattle.kernel_calls.specs.declared.translations.Ended.TheVariants as end

-- at most 1,048,576 frames, and a place for each process
pub record IsSized (v : View) : Type 0 where
  pub few : length v.roles ≤ 1048576
  pub pids : length v.directories ≡ 64

-- memory represents the state, as in each core (`Core::stands`)
pub record IsCore (v : View) : Type 0 where
  pub image : StandsFor (image_of v) v.state
  pub well_formed : IsWellFormed v.state
  pub sized : IsSized v

-- so each walk ends as the state says
abbrev pub CoresAreWalked : Type 0
CoresAreWalked = (v : View) → IsCore v → WalksAgree (memory_of v) v.state.spaces × WaysAgree (memory_of v)

-- ---- What each processor keeps

-- by the processor's number; one that isn't there keeps nothing
abbrev pub Processors : Type 0
Processors = ℕ → List Kept

-- one keeps this from then on, and each other what it kept
abbrev pub with_kept : Processors → ℕ → List Kept → Processors
with_kept keeps i kept j = if j == i then kept else keeps j

-- all invalidate these
abbrev pub all_left_by : Ended → Processors → Processors
all_left_by ended keeps i = left_by ended (keeps i)

-- walks read all that each processor keeps
abbrev pub AllAreRead : View → Processors → Type 0
AllAreRead v keeps = (i : ℕ) → AreRead v (keeps i)

-- each of these is one of those
abbrev pub AreAmong : List Kept → List Kept → Type 0
AreAmong left kept = (m : ℕ) (k : Kept) → slice_get left m ≡ Some k → (n : ℕ) × (slice_get kept n ≡ Some k)

-- one of these is of a page of a process and lets an access through, to this frame: a write where it lets writes
-- through and dirty was set
pub record LetsThrough (kept : List Kept) (p page frame : ℕ) (access : Access) : Type 0 where
  pub place : ℕ
  pub write : Bool
  pub dirty : Bool
  pub there : slice_get kept place
      ≡ Some (translation (record { slot = at_page p page; frame = frame; write = write; dirty = dirty }))
  pub right : access ≡ Write → (write ≡ true) × (dirty ≡ true)

-- so it is with each page that an access touches, to these frames of pages
abbrev pub LetCall : List Kept → ℕ → (ℕ → ℕ) → Call → Type 0
LetCall kept p frames (call.Load addr size) = EachTouched addr size (λ page. LetsThrough kept p page (frames page) Read)
LetCall kept p frames (call.Store addr size value) = EachTouched addr size (λ page. LetsThrough kept p page (frames page) Write)
LetCall kept p frames _ = ⊥

-- ---- Steps

-- the core carries out an event and returns the reply (`Core::step`)
pub record IsCarried (v : View) (e : Event) (r : Reply) (w : View) : Type 0 where
  pub reply : r ≡ answer v.state e
  pub state : w.state ≡ next v.state e
  pub ends : Ends (ended_by v e) v w
  pub core : IsCore w

-- these directories and roles, with this state and these bytes
abbrev pub with_bytes : View → State → List ℕ → View
with_bytes v s bytes = record { state = s; directories = v.directories; bytes = bytes; roles = v.roles }

-- a processor makes an access by its walk, which finds a frame for each page
pub record IsWalked (v : View) (e : Event) (r : Reply) (w : View) : Type 0 where
  pub finds : finds_event v e ≡ true
  pub directory : ℕ
  pub live : directory_at (memory_of v) e.pid ≡ Some directory
  pub found : r ≡ reply_found v.bytes directory e.call
  pub left : w ≡ with_bytes v (next v.state e) (bytes_accessed v.bytes directory e.call)

-- a processor loads by what it keeps, from the frames there; nothing changes
pub record IsLoaded (kept : List Kept) (v : View) (e : Event) (r : Reply) : Type 0 where
  pub load : IsLoad e.call
  pub frames : ℕ → ℕ
  pub through : LetCall kept e.pid frames e.call
  pub found : r ≡ reply_kept frames v.bytes e.call

-- a processor stores by what it keeps, into the frames there
pub record IsStored (kept : List Kept) (v : View) (e : Event) (r : Reply) (w : View) : Type 0 where
  pub store : IsStore e.call
  pub frames : ℕ → ℕ
  pub through : LetCall kept e.pid frames e.call
  pub found : r ≡ reply_kept frames v.bytes e.call
  pub left : w ≡ with_bytes v (next v.state e) (bytes_kept frames v.bytes e.call)

-- a processor sets or clears accessed in a word of a directory (`Core::set_walked`)
pub record IsMarked (v w : View) : Type 0 where
  pub pid : ℕ
  pub page : ℕ
  pub walked : Bool
  pub user : IsUserPage page
  pub directory : ℕ
  pub live : directory_at (memory_of v) pid ≡ Some directory
  pub left : w ≡ with_bytes v v.state (with_walked v.bytes directory page walked)

-- ---- What processors leave is a core's

-- memory is a core's afterwards, and no translation was ended
pub record IsLeft (v w : View) : Type 0 where
  pub ends : Ends end.Nothing v w
  pub core : IsCore w

-- an access by a walk that finds a frame for each page is the event, and leaves a core
abbrev pub WalksLeaveCores : Type 0
WalksLeaveCores = (v w : View) (e : Event) (r : Reply) → IsCore v → IsWalked v e r w
    → (r ≡ answer v.state e) × IsLeft v w

-- so is a store by translations that the walks give and that have dirty
abbrev pub StoresLeaveCores : Type 0
StoresLeaveCores = (v : View) (e : Event) (frames : ℕ → ℕ) → IsCore v → ServesEvent v frames e → IsStore e.call
    → IsLeft v (with_bytes v (next v.state e) (bytes_kept frames v.bytes e.call))

-- a mark of a directory's word is no event, and leaves a core
abbrev pub MarksLeaveCores : Type 0
MarksLeaveCores = (v w : View) → IsCore v → IsMarked v w → IsLeft v w

-- the plan of such an access maps no page and fills none, and its containers stay
abbrev pub WalksTakeNoFrame : Type 0
WalksTakeNoFrame = (v : View) (e : Event) → IsCore v → finds_event v e ≡ true → takes_no_frame (plan_of_event v e) ≡ true

abbrev pub WalksKeepContainers : Type 0
WalksKeepContainers = (v : View) (e : Event) → IsCore v → finds_event v e ≡ true
    → (p : ℕ) → container_of (next v.state e) p ≡ container_of v.state p

-- One step, by its rule, with the event that it is, if any, and the reply or the value read. The core carries out an
-- event, and before anything else all processors invalidate what it ended. Or a processor makes an access by its walk
-- or by what it keeps, marks a directory's word, begins to keep what a walk reads then, or forgets some of what it
-- keeps.
pub data Step : View → Processors → List Event → List Reply → View → Processors → Type 0 where
  carried : {v w : View} {keeps : Processors} {e : Event} {r : Reply} → IsCarried v e r w
      → Step v keeps (e ∷ []) (r ∷ []) w (all_left_by (ended_by v e) keeps)
  walked : {v w : View} {keeps : Processors} {e : Event} {r : Reply} → IsWalked v e r w
      → Step v keeps (e ∷ []) (r ∷ []) w keeps
  loaded : {v : View} {keeps : Processors} {e : Event} {r : Reply} (i : ℕ) → IsLoaded (keeps i) v e r
      → Step v keeps (e ∷ []) (r ∷ []) v keeps
  stored : {v w : View} {keeps : Processors} {e : Event} {r : Reply} (i : ℕ) → IsStored (keeps i) v e r w
      → Step v keeps (e ∷ []) (r ∷ []) w keeps
  marked : {v w : View} {keeps : Processors} → IsMarked v w → Step v keeps [] [] w keeps
  refilled : {v : View} {keeps : Processors} (i : ℕ) (k : Kept) → IsRead v k
      → Step v keeps [] [] v (with_kept keeps i (k ∷ keeps i))
  forgotten : {v : View} {keeps : Processors} (i : ℕ) (left : List Kept) → AreAmong left (keeps i)
      → Step v keeps [] [] v (with_kept keeps i left)

-- steps, one after another, in any order
pub data Steps : View → Processors → List Event → List Reply → View → Processors → Type 0 where
  none : {v : View} {keeps : Processors} → Steps v keeps [] [] v keeps
  first : {v w x : View} {keeps between last : Processors} {es events : List Event} {rs replies : List Reply}
      → Step v keeps es rs w between → Steps w between events replies x last
      → Steps v keeps (es ++ events) (rs ++ replies) x last

-- ---- What they come to

-- replies and values read are the answers to the events in sequence, memory is a core's in their last state, and the
-- walks read all that any processor keeps
pub record AreTheEvents (v : View) (events : List Event) (told : List Reply) (x : View) (last : Processors) : Type 0 where
  pub replies : told ≡ answers v.state events
  pub state : x.state ≡ end_of v.state events
  pub core : IsCore x
  pub kept : AllAreRead x last

-- so it is at the end of all steps from a core, where the walks read all that is kept: at each moment, since each is
-- the end of the steps until then
abbrev pub ProcessorsMakeEvents : Type 0
ProcessorsMakeEvents = (v x : View) (keeps last : Processors) (events : List Event) (replies : List Reply) → IsCore v
    → AllAreRead v keeps → Steps v keeps events replies x last → AreTheEvents v events replies x last

-- how a walk ends that begins at a table which is kept by itself: by the table word alone
abbrev pub walk_from : List ℕ → ℕ → ℕ → Access → Result ℕ WalkEnd
walk_from bytes table address access =
    let t = word_at bytes (word_place table (index_number (page_number address))) in
    first_that_applies (
    (not (is_present t), not_present address access)
    ∷ (not (is_user t), not_allowed address access)
    ∷ (is_write access && not (is_writable t), not_allowed address access)
    ∷ (is_outside bytes (frame_number t), Err Outside)
    ∷ []) (Ok (frame_number t))

-- it ends as the walk of its process's directory does, if walks read all that is kept
abbrev pub EntriesLeadThere : Type 0
EntriesLeadThere = (v : View) (e : DirectoryEntry) (directory address : ℕ) (access : Access) → IsCore v
    → IsRead v (directory_entry e) → directory_at (memory_of v) e.pid ≡ Some directory
    → slot_number (page_number address) ≡ e.region
    → walk_from v.bytes e.table address access ≡ walk_of v.bytes directory address access
