-- The translations that an event ends: those that a walk gave before it and gives no longer, so that a processor that
-- keeps them has to invalidate them. A translation is what a walk gives for a page of a process: a frame, and whether
-- it allows writes.
use Rattle.std.specs.Prelude.{◌⊎◌, ◌≡◌, ◌==◌, ◌<◌, ◌^◌, ℕ, Bool, true, false, not, ◌&&◌, ◌||◌, if◌then◌else◌, List, [], ◌∷◌, Option, Some, None, Ok, option_and_then}
use Rattle.kernel_calls.specs.Below.{page_number, slot_number, second_page, Size, Access, Read, Write, walk_of, directory_at, table_at, is_lazy_at, takes_stores, Slot, Cell, at_page, slot_at, is_slot, is_of, memory_of, image_of, StandsFor, State, View}
use Rattle.kernel_calls.specs.Machine.{answer, next, completes}
use Rattle.kernel_calls.specs.declared.calls.Call.{Call}
use Rattle.kernel_calls.specs.declared.calls.Event.{Event}
use Rattle.kernel_calls.specs.declared.translations.Ended.{Ended}
use Rattle.page_words.specs.FiniteMap as map
use Rattle.address_space.specs.Image as memory
use Rattle.kernel_calls.specs.declared.calls.Call.TheVariants as call
use Rattle.kernel_calls.specs.declared.translations.Ended.TheVariants as end

-- whether the translation of a slot is one of them
abbrev pub is_ended : Ended → Slot → Bool
is_ended end.Nothing slot = false
is_ended (end.Page p page) slot = is_slot p page slot
is_ended (end.Pages p first second) slot = is_slot p first slot || is_slot p second slot
is_ended (end.Space p) slot = is_of p slot

-- ---- By the event

-- a page of a process, if it is lazy
abbrev pub if_lazy : memory.Image → ℕ → ℕ → Option ℕ
if_lazy image p page = if is_lazy_at image (at_page p page) then Some page else None

-- the end of the translations of at most two pages
abbrev pub of_pages : ℕ → Option ℕ → Option ℕ → Ended
of_pages p None None = end.Nothing
of_pages p (Some page) None = end.Page p page
of_pages p None (Some page) = end.Page p page
of_pages p (Some first) (Some second) = end.Pages p first second

-- What a call that completes ends: an Unmap its page's translation, a Protect one that allowed writes and no longer
-- does. A Store ends those of its lazy pages, which were read from frame 0 and get frames of their own. An Accept ends
-- that of a page that was lazy, and an Exit all of its process.
abbrev pub of_call : View → ℕ → Call → Ended
of_call v p (call.Store addr size value) =
    of_pages p (if_lazy (memory_of v) p (page_number addr)) (option_and_then (if_lazy (memory_of v) p) (second_page addr size))
of_call v p (call.Unmap page) = end.Page p page
of_call v p (call.Protect page write) = if not write && takes_stores v.state.spaces (memory_of v) (at_page p page) then end.Page p page else end.Nothing
of_call v p (call.Accept giver giver_page page) = of_pages giver (if_lazy (memory_of v) giver giver_page) None
of_call v p call.Exit = end.Space p
of_call v p _ = end.Nothing

-- a refusal or a fault ends none
abbrev pub ended_by : View → Event → Ended
ended_by v e = if completes (answer v.state e) then of_call v e.pid e.call else end.Nothing

-- ---- What an event ends, and what it leaves

-- all translations of a process are ended
abbrev pub is_all_of : Ended → ℕ → Bool
is_all_of (end.Space p) q = p == q
is_all_of _ q = false

-- the walk of a process's directory finds this frame for an access to an address
abbrev pub WalkGives : memory.Image → ℕ → ℕ → ℕ → Access → ℕ → Type 0
WalkGives image p directory address access frame =
    (directory_at image p ≡ Some directory) × (walk_of image.bytes directory address access ≡ Ok frame)

-- what a walk gives for a slot that isn't one of these, it gives afterwards too, from the same directory
abbrev pub TranslationsStay : Ended → memory.Image → memory.Image → Type 0
TranslationsStay ended old new = (p directory address frame : ℕ) (access : Access) → address < 2 ^ 32
    → is_ended ended (slot_at p address) ≡ false
    → WalkGives old p directory address access frame → WalkGives new p directory address access frame

-- None is ended for nothing. If a walk gave a frame for a read of a slot that is one of these, some walk, for a read
-- or for a write, gave the frame and no longer does.
abbrev pub EndsNoMore : Ended → memory.Image → memory.Image → Type 0
EndsNoMore ended old new = (p directory address frame : ℕ) → address < 2 ^ 32
    → is_ended ended (slot_at p address) ≡ true → WalkGives old p directory address Read frame
    → (access : Access) × WalkGives old p directory address access frame
    × ((d : ℕ) → WalkGives new p d address access frame → ⊥)

-- a walk gives a frame for a read of an address
abbrev pub FindsFrame : memory.Image → ℕ → ℕ → Type 0
FindsFrame image p address = (directory frame : ℕ) × WalkGives image p directory address Read frame

-- each page that is named had such a walk, at each of its addresses; a process that exits is named as a whole, with its
-- directory
abbrev pub EndsFound : Ended → memory.Image → Type 0
EndsFound ended image = (p address : ℕ) → address < 2 ^ 32 → is_ended ended (slot_at p address) ≡ true
    → (is_all_of ended p ≡ true) ⊎ FindsFrame image p address

-- each mapped slot that isn't one of these is mapped afterwards
abbrev pub SlotsStay : Ended → State → State → Type 0
SlotsStay ended s t = (slot : Slot) → is_ended ended slot ≡ false → map.contains_key s.spaces slot ≡ true → map.contains_key t.spaces slot ≡ true

-- a process keeps its directory, whether it has a mapped page or none, unless all of its translations are ended
abbrev pub DirectoriesStay : Ended → memory.Image → memory.Image → Type 0
DirectoriesStay ended old new = (p directory : ℕ) → is_all_of ended p ≡ false
    → directory_at old p ≡ Some directory → directory_at new p ≡ Some directory

-- the table that leads to a mapped slot which isn't one of these stays that of its region of 1,024 pages
abbrev pub TablesStay : Ended → View → View → Type 0
TablesStay ended v w = (slot : Slot) (table : ℕ) → is_ended ended slot ≡ false
    → map.contains_key v.state.spaces slot ≡ true
    → table_at (memory_of v) slot.pid (slot_number slot.page) ≡ Some table
    → table_at (memory_of w) slot.pid (slot_number slot.page) ≡ Some table

-- a slot of a region of a process that is mapped
pub record MapsInRegion (s : State) (p region : ℕ) : Type 0 where
  pub page : ℕ
  pub inside : slot_number page ≡ region
  pub mapped : map.contains_key s.spaces (at_page p page) ≡ true

-- and no table is linked for nothing: each leads to a mapped slot
abbrev pub TablesMap : View → Type 0
TablesMap v = (p region table : ℕ) → table_at (memory_of v) p region ≡ Some table → MapsInRegion v.state p region

-- neither accessed nor dirty was cleared in a slot that is mapped before and afterwards, ended or not
abbrev pub FlagsStay : State → State → Type 0
FlagsStay s t = (slot : Slot) (c d : Cell) → map.get s.spaces slot ≡ Some c → map.get t.spaces slot ≡ Some d
    → (c.accessed ≡ true → d.accessed ≡ true) × (c.dirty ≡ true → d.dirty ≡ true)

-- what an event leaves of all that a processor may keep, where it ends these
pub record Ends (ended : Ended) (v w : View) : Type 0 where
  pub translations : TranslationsStay ended (memory_of v) (memory_of w)
  pub no_more : EndsNoMore ended (memory_of v) (memory_of w)
  pub found : EndsFound ended (memory_of v)
  pub slots : SlotsStay ended v.state w.state
  pub flags : FlagsStay v.state w.state
  pub directories : DirectoriesStay ended (memory_of v) (memory_of w)
  pub tables : TablesStay ended v w
  pub linked : TablesMap v

-- ---- What a processor keeps

-- a translation that is kept: a page of a process, its frame, whether writes are allowed, and whether dirty was set
pub record Translation : Type 0 where
  pub slot : Slot
  pub frame : ℕ
  pub write : Bool
  pub dirty : Bool

-- the walks give it, at each address of its page, and its flags are set: accessed, and dirty where that is kept
pub record IsGiven (v : View) (t : Translation) : Type 0 where
  pub page : t.slot.page < 2 ^ 20
  pub directory : ℕ
  pub live : directory_at (memory_of v) t.slot.pid ≡ Some directory
  pub read : (address : ℕ) → address < 2 ^ 32 → page_number address ≡ t.slot.page → walk_of v.bytes directory address Read ≡ Ok t.frame
  pub written : t.write ≡ true → (address : ℕ) → address < 2 ^ 32 → page_number address ≡ t.slot.page → walk_of v.bytes directory address Write ≡ Ok t.frame
  pub cell : Cell
  pub mapped : map.get v.state.spaces t.slot ≡ Some cell
  pub accessed : cell.accessed ≡ true
  pub dirty : t.dirty ≡ true → cell.dirty ≡ true

-- an entry of a directory that is kept by itself: the table of a region of 1,024 pages of a process
pub record DirectoryEntry : Type 0 where
  pub pid : ℕ
  pub region : ℕ
  pub table : ℕ

-- what a processor may keep: a translation, or an entry of a directory
pub data Kept : Type 0 where
  translation : Translation → Kept
  directory_entry : DirectoryEntry → Kept

-- what is kept is what a walk reads: the place of the walk and what it finds, or the table that it uses
abbrev pub IsRead : View → Kept → Type 0
IsRead v (translation t) = IsGiven v t
IsRead v (directory_entry e) = table_at (memory_of v) e.pid e.region ≡ Some e.table

-- walks read all that is kept
abbrev pub AreRead : View → List Kept → Type 0
AreRead v [] = Unit {0}
AreRead v (k ∷ kept) = IsRead v k × AreRead v kept

-- whether a page of a region of a process is one of these
abbrev pub ends_in_region : Ended → ℕ → ℕ → Bool
ends_in_region end.Nothing p region = false
ends_in_region (end.Page q page) p region = (q == p) && (slot_number page == region)
ends_in_region (end.Pages q first second) p region = (q == p) && ((slot_number first == region) || (slot_number second == region))
ends_in_region (end.Space q) p region = q == p

-- a processor that invalidates a translation drops the entry of the page's region too
abbrev pub is_invalidated : Ended → Kept → Bool
is_invalidated ended (translation t) = is_ended ended t.slot
is_invalidated ended (directory_entry e) = ends_in_region ended e.pid e.region

-- what is left once these are invalidated
abbrev pub left_by : Ended → List Kept → List Kept
left_by ended [] = []
left_by ended (k ∷ kept) = if is_invalidated ended k then left_by ended kept else k ∷ left_by ended kept

-- what is left once those of several events, one after the other, are invalidated
abbrev pub left_by_all : List Ended → List Kept → List Kept
left_by_all [] kept = kept
left_by_all (ended ∷ more) kept = left_by_all more (left_by ended kept)

-- What processors do in one step, by what a change leaves of what they keep. A change ends some, which all of them
-- invalidate before anything else, or one of them keeps one more, which a walk reads then.
pub data Keeps (Leaves : Ended → View → View → Type 0) : View → List Kept → View → List Kept → Type 0 where
  change : {v w : View} {kept : List Kept} {ended : Ended} → Leaves ended v w → Keeps Leaves v kept w (left_by ended kept)
  walk : {v : View} {kept : List Kept} {k : Kept} → IsRead v k → Keeps Leaves v kept v (k ∷ kept)

-- such steps between two moments, one after another
pub data Keeping (Leaves : Ended → View → View → Type 0) : View → List Kept → View → List Kept → Type 0 where
  nothing : {v : View} {kept : List Kept} → Keeping Leaves v kept v kept
  onward : {v w x : View} {kept between last : List Kept} → Keeps Leaves v kept w between
      → Keeping Leaves w between x last → Keeping Leaves v kept x last

-- If the changes are events, all that is kept is what the walks of the last moment read, as it was at the first. So it
-- is at each moment, since each is the last of what came until then.
abbrev pub KeptAreGiven : Type 0
KeptAreGiven = (v x : View) (kept last : List Kept) → Keeping Ends v kept x last → AreRead v kept → AreRead x last
