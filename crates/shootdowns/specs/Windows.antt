-- Shootdowns as they happen: the core carries out an event, and each processor uses what it keeps until it invalidates
-- what the event ended. Which events such steps are, and in which order.
use Rattle.std.specs.Option.{option_map, unwrap_or}
use Rattle.std.specs.Prelude.{◌≡◌, ◌⊎◌, ◌≤◌, ◌^◌, ℕ, ◌==◌, Bool, true, false, not, if◌then◌else◌, List, [], ◌∷◌, ◌++◌, Some, length, slice_get}
use Rattle.page_words.specs.Addresses.{EachTouched, page_number, slot_number, index_number, second_page}
use Rattle.page_words.specs.Words.{with_flag}
use Rattle.phys_memory.specs.Bytes.{word_at, with_word, word_place}
use Rattle.address_space.specs.Image.{table_at}
use Rattle.address_space.specs.Spaces.{at_page}
use Rattle.address_space.specs.Stays.{FramesStay, LooseStay}
use Rattle.process_table.specs.Image.{memory_of}
use Rattle.process_table.specs.State.{State}
use Rattle.process_table.specs.View.{View}
use Rattle.kernel_calls.specs.Gone.{gone_by, gives_back}
use Rattle.kernel_calls.specs.Kept.{reply_kept, bytes_kept, IsStore}
use Rattle.kernel_calls.specs.Machine.{answer, answers, next, end_of}
use Rattle.kernel_calls.specs.Processors as base
use Rattle.kernel_calls.specs.Processors.{IsCore, Processors, with_kept, AllAreRead, AreAmong, LetCall, IsCarried, IsWalked, IsLoaded, IsMarked}
use Rattle.kernel_calls.specs.Translations.{Kept, translation, IsRead, ended_by, is_invalidated, left_by}
use Rattle.kernel_calls.specs.declared.calls.Call.{Call}
use Rattle.kernel_calls.specs.declared.calls.Call.TheVariants as call
use Rattle.kernel_calls.specs.declared.calls.Event.{Event}
use Rattle.kernel_calls.specs.declared.calls.Reply.{Reply}
use Rattle.kernel_calls.specs.declared.translations.Ended.{Ended}
use Rattle.kernel_calls.specs.declared.translations.Ended.TheVariants as end

-- ---- What the core does

-- an event of this call only takes away: what a walk gives after it, a walk gave before it
abbrev pub only_takes : Call → Bool
only_takes (call.Unmap page) = true
only_takes (call.Protect page write) = not write
only_takes call.Exit = true
only_takes _ = false

-- an event of this call takes at most the right to write: each page stays mapped, on its frame
abbrev pub takes_right : Call → Bool
takes_right (call.Protect page write) = not write
takes_right _ = false

-- The core carries out an event, and its reply is not yet returned (`Core::step_ending`). Each way that the event doesn't
-- take leads where it led. One that gives frames back leaves their bytes: a frame is cleared when it is given.
pub record Begins (v : View) (e : Event) (r : Reply) (w : View) : Type 0 where
  pub carried : IsCarried v e r w
  pub stay : FramesStay (gone_by v.state e) (memory_of v) (memory_of w)
  pub loose : gives_back e.call ≡ true → LooseStay (memory_of v) (memory_of w)

-- ---- Moments

-- which processors have invalidated what the event ended whose window is open
abbrev pub Acknowledged : Type 0
Acknowledged = ℕ → Bool

abbrev pub nobody : Acknowledged
nobody i = false

abbrev pub with_one : Acknowledged → ℕ → Acknowledged
with_one done i j = if j == i then true else done j

-- what each processor may use: all that it keeps, once it has invalidated, and until then what wasn't ended
abbrev pub usable : Ended → Acknowledged → Processors → Processors
usable x done keeps i = if done i then keeps i else left_by x (keeps i)

-- what is under way: the memory, with the state after all events that the core carried out
pub data Moment : Type 0 where
  -- all of them are in the order; a processor that hasn't invalidated uses nothing of what the window's event ended
  settled : Ended → Acknowledged → View → Moment
  -- all but this one, which ends these and is answered so, are in the order, whose state this is
  under_way : Ended → Acknowledged → Event → Reply → State → View → Moment

-- the memory then
abbrev pub memory_in : Moment → View
memory_in (settled x done w) = w
memory_in (under_way x done e r s w) = w

-- what the window's event ended, and a processor that has invalidated it
abbrev pub ended_in : Moment → Ended
ended_in (settled x done w) = x
ended_in (under_way x done e r s w) = x

abbrev pub acknowledged : Moment → ℕ → Moment
acknowledged (settled x done w) i = settled x (with_one done i) w
acknowledged (under_way x done e r s w) i = under_way x (with_one done i) e r s w

-- a processor stores by what it keeps, ended or not, and makes memory this; that it is a core's isn't assumed
pub record IsStale (kept : List Kept) (w : View) (a : Event) (q : Reply) (bytes : List ℕ) : Type 0 where
  pub store : IsStore a.call
  pub frames : ℕ → ℕ
  pub through : LetCall kept a.pid frames a.call
  pub found : q ≡ reply_kept frames w.bytes a.call
  pub left : bytes ≡ bytes_kept frames w.bytes a.call

-- one of these is of a page of a process and lets writes through to this frame, whether dirty was set or not
pub record LetsWrite (kept : List Kept) (p page frame : ℕ) : Type 0 where
  pub place : ℕ
  pub dirty : Bool
  pub there : slice_get kept place
      ≡ Some (translation (record { slot = at_page p page; frame = frame; write = true; dirty = dirty }))

-- so it is with each page that a store touches, to these frames of pages
abbrev pub LetStore : List Kept → ℕ → (ℕ → ℕ) → Call → Type 0
LetStore kept p frames (call.Store addr size value) = EachTouched addr size (λ page. LetsWrite kept p page (frames page))
LetStore kept p frames _ = ⊥

-- memory with dirty set in the word of a page of a process, in the table of its region
abbrev pub with_dirty : View → ℕ → ℕ → List ℕ
with_dirty w p page = unwrap_or (option_map (λ table.
    let place = word_place table (index_number page) in
    with_word w.bytes place (with_flag (word_at w.bytes place) 6 true)) (table_at (memory_of w) p (slot_number page))) w.bytes

-- memory with dirty set in the word of each page that a store touches
abbrev pub all_dirty : View → ℕ → Call → List ℕ
all_dirty w p (call.Store addr size value) =
    let first = with_dirty w p (page_number addr) in
    unwrap_or (option_map (with_dirty (record w { bytes = first }) p) (second_page addr size)) first
all_dirty w p _ = w.bytes

-- A processor stores by what it keeps, ended or not, also where dirty wasn't set: it sets dirty in the words of the
-- pages, whatever right these have by then, and makes memory this.
pub record IsStaleClean (kept : List Kept) (w : View) (a : Event) (q : Reply) (bytes : List ℕ) : Type 0 where
  -- a word names a frame in 32 bits
  pub size : length w.bytes ≤ 2 ^ 32
  pub frames : ℕ → ℕ
  pub through : LetStore kept a.pid frames a.call
  pub found : q ≡ reply_kept frames w.bytes a.call
  pub left : bytes ≡ bytes_kept frames (all_dirty w a.pid a.call) a.call

-- nothing of these is kept
abbrev pub KeepsNone : Ended → List Kept → Type 0
KeepsNone x kept = (n : ℕ) (k : Kept) → slice_get kept n ≡ Some k → is_invalidated x k ≡ false

-- ---- Steps

-- One step, with the events that come next in the order, and their replies or the values read. A window begins when
-- the core carries out an event. The event comes in the order later. Until it does, and only if it takes away,
-- processors make accesses by all that they keep or by their walks, and mark directories' words. If it takes at most the
-- right to write, they also store by what lets writes through without dirty, and set that. After it, processors
-- do what they do outside windows, except that none uses what it ended until it has invalidated that. The window ends
-- when all have, or keep nothing of it: then the event is replied to, and the next window may begin. At any time a
-- processor may begin to keep what a walk reads then, forget some of what it keeps, or invalidate.
pub data Step : Moment → Processors → List Event → List Reply → Moment → Processors → Type 0 where
  begun : {v w : View} {done : Acknowledged} {keeps : Processors} {e : Event} {r : Reply} → Begins v e r w
      → Step (settled end.Nothing done v) keeps [] [] (under_way (ended_by v e) nobody e r v.state w) keeps
  loaded : {x : Ended} {done : Acknowledged} {w : View} {s : State} {keeps : Processors} {e a : Event} {r q : Reply} (i : ℕ)
      → only_takes e.call ≡ true → IsLoaded (keeps i) w a q
      → Step (under_way x done e r s w) keeps (a ∷ []) (q ∷ []) (under_way x done e r s w) keeps
  stored : {x : Ended} {done : Acknowledged} {w : View} {s : State} {keeps : Processors} {e a : Event} {r q : Reply} {bytes : List ℕ} (i : ℕ)
      → only_takes e.call ≡ true → IsStale (keeps i) w a q bytes
      → Step (under_way x done e r s w) keeps (a ∷ []) (q ∷ [])
      (under_way x done e r (next s a) (record w { bytes = bytes; state = next (next s a) e })) keeps
  stored_clean : {x : Ended} {done : Acknowledged} {w : View} {s : State} {keeps : Processors} {e a : Event} {r q : Reply} {bytes : List ℕ} (i : ℕ)
      → takes_right e.call ≡ true → IsStaleClean (keeps i) w a q bytes
      → Step (under_way x done e r s w) keeps (a ∷ []) (q ∷ []) (under_way x done e r (next s a)
      (record w { state = next (next s a) e; bytes = bytes })) keeps
  walked : {x : Ended} {done : Acknowledged} {w u : View} {s : State} {keeps : Processors} {e a : Event} {r q : Reply}
      → only_takes e.call ≡ true → IsWalked w a q u
      → Step (under_way x done e r s w) keeps (a ∷ []) (q ∷ []) (under_way x done e r (next s a) u) keeps
  marked : {x : Ended} {done : Acknowledged} {w u : View} {s : State} {keeps : Processors} {e : Event} {r : Reply}
      → only_takes e.call ≡ true → IsMarked w u
      → Step (under_way x done e r s w) keeps [] [] (under_way x done e r s u) keeps
  ordered : {x : Ended} {done : Acknowledged} {w : View} {s : State} {keeps : Processors} {e : Event} {r : Reply}
      → Step (under_way x done e r s w) keeps (e ∷ []) (r ∷ []) (settled x done w) keeps
  usual : {x : Ended} {done : Acknowledged} {v w : View} {keeps : Processors} {es : List Event} {rs : List Reply}
      → base.Step v (usable x done keeps) es rs w (usable x done keeps)
      → Step (settled x done v) keeps es rs (settled x done w) keeps
  refilled : {m : Moment} {keeps : Processors} (i : ℕ) (k : Kept) → IsRead (memory_in m) k
      → Step m keeps [] [] m (with_kept keeps i (k ∷ keeps i))
  forgotten : {m : Moment} {keeps : Processors} (i : ℕ) (left : List Kept) → AreAmong left (keeps i)
      → Step m keeps [] [] m (with_kept keeps i left)
  invalidated : {m : Moment} {keeps : Processors} (i : ℕ)
      → Step m keeps [] [] (acknowledged m i) (with_kept keeps i (left_by (ended_in m) (keeps i)))
  told : {x : Ended} {done : Acknowledged} {v : View} {keeps : Processors}
      → ((i : ℕ) → (done i ≡ true) ⊎ KeepsNone x (keeps i))
      → Step (settled x done v) keeps [] [] (settled end.Nothing nobody v) keeps

-- steps, one after another
pub data Steps : Moment → Processors → List Event → List Reply → Moment → Processors → Type 0 where
  none : {m : Moment} {keeps : Processors} → Steps m keeps [] [] m keeps
  first : {m n o : Moment} {keeps between last : Processors} {es events : List Event} {rs replies : List Reply}
      → Step m keeps es rs n between → Steps n between events replies o last
      → Steps m keeps (es ++ events) (rs ++ replies) o last

-- ---- What they come to

-- the state of the order
abbrev pub state_of : Moment → State
state_of (settled x done w) = w.state
state_of (under_way x done e r s w) = s

-- memory is a core's, and walks read all that any processor may use. Of an event under way, the state and
-- the reply are what it has where it comes next.
abbrev pub Stands : Moment → Processors → Type 0
Stands (settled x done w) keeps = IsCore w × AllAreRead w (usable x done keeps)
Stands (under_way x done e r s w) keeps =
    IsCore w × AllAreRead w (usable x done keeps) × (w.state ≡ next s e) × (r ≡ answer s e)

-- replies and values read are the answers to the events in the order, and so it stands at each moment
pub record AreInOrder (v : View) (events : List Event) (told : List Reply) (m : Moment) (last : Processors) : Type 0 where
  pub replies : told ≡ answers v.state events
  pub state : state_of m ≡ end_of v.state events
  pub stands : Stands m last

-- so it is at the end of all steps from a core, where the walks read all that is kept
abbrev pub ShootdownsMakeEvents : Type 0
ShootdownsMakeEvents = (v : View) (m : Moment) (keeps last : Processors) (events : List Event) (replies : List Reply)
    → IsCore v → AllAreRead v keeps → Steps (settled end.Nothing nobody v) keeps events replies m last
    → AreInOrder v events replies m last

-- Take a store by what a processor keeps, ended or not, made after an event that only takes away. It is answered as if
-- made before the event, and the event as if carried out after it. Memory is a core's after both.
abbrev pub StaleStoresComeFirst : Type 0
StaleStoresComeFirst = (v w : View) (keeps : Processors) (i : ℕ) (e a : Event) (r q : Reply) (bytes : List ℕ) → IsCore v
    → AllAreRead v keeps → Begins v e r w → only_takes e.call ≡ true → IsStale (keeps i) w a q bytes
    → (q ≡ answer v.state a) × (r ≡ answer (next v.state a) e)
    × IsCore (record w { bytes = bytes; state = next (next v.state a) e })

-- So it is with a store by what was kept before dirty was set, if the event takes at most the right to write.
abbrev pub CleanStoresComeFirst : Type 0
CleanStoresComeFirst = (v w : View) (keeps : Processors) (i : ℕ) (e a : Event) (r q : Reply) (bytes : List ℕ) → IsCore v
    → AllAreRead v keeps → Begins v e r w → takes_right e.call ≡ true → IsStaleClean (keeps i) w a q bytes
    → (q ≡ answer v.state a) × (r ≡ answer (next v.state a) e)
    × IsCore (record w { bytes = bytes; state = next (next v.state a) e })

-- So it is with a load by what a processor keeps.
abbrev pub StaleLoadsComeFirst : Type 0
StaleLoadsComeFirst = (v w : View) (keeps : Processors) (i : ℕ) (e a : Event) (r q : Reply) → IsCore v
    → AllAreRead v keeps → Begins v e r w → only_takes e.call ≡ true → IsLoaded (keeps i) w a q
    → (q ≡ answer v.state a) × (r ≡ answer (next v.state a) e) × (w.state ≡ next (next v.state a) e)

-- and with an access by a walk, which finds what the event left
abbrev pub WalksComeFirst : Type 0
WalksComeFirst = (v w u : View) (e a : Event) (r q : Reply) → IsCore v → Begins v e r w → only_takes e.call ≡ true
    → IsWalked w a q u
    → (q ≡ answer v.state a) × (r ≡ answer (next v.state a) e) × (u.state ≡ next (next v.state a) e) × IsCore u

-- After any event, walks read all that was kept and isn't invalidated for it.
abbrev pub OthersAreRead : Type 0
OthersAreRead = (v w : View) (keeps : Processors) (e : Event) (r : Reply) → IsCore v → AllAreRead v keeps → Begins v e r w
    → AllAreRead w (usable (ended_by v e) nobody keeps)

-- a call of this kind may end translations
abbrev pub may_end : Call → Bool
may_end (call.Store addr size value) = true
may_end (call.Unmap page) = true
may_end (call.Protect page write) = not write
may_end (call.Accept giver giver_page page) = true
may_end call.Exit = true
may_end _ = false

-- An event of any other kind ends nothing.
abbrev pub OthersEndNothing : Type 0
OthersEndNothing = (v : View) (e : Event) → may_end e.call ≡ false → ended_by v e ≡ end.Nothing
