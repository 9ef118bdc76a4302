-- Shadow tables of a core, in numbers.
use Rattle.std.specs.Prelude.{◌≡◌, ℕ, ◌+◌, ◌*◌, ◌%◌, ◌^◌, ◌≤◌, ◌↔◌, ◌==◌, if◌then◌else◌, Bool, true, false, List, Option, Some, None, length, slice_index}
use Rattle.std.specs.Option.{option_map}
use Rattle.page_words.specs.Addresses.{page_number}
use Rattle.page_words.specs.FiniteMap as map
use Rattle.address_space.specs.Spaces.{byte_at}
use Rattle.address_space.specs.Stays.{FramesStay}
use Rattle.process_table.specs.Image.{memory_of}
use Rattle.process_table.specs.View.{View}
use Rattle.kernel_calls.specs.Gone.{gone_by}
use Rattle.kernel_calls.specs.Machine.{answer, next}
use Rattle.kernel_calls.specs.Translations.{Ends, ended_by, is_all_of}
use Rattle.kernel_calls.specs.declared.translations.Ended.{Ended}
use Rattle.kernel_calls.specs.declared.translations.Ended.TheVariants as end
use Rattle.kernel_acts.specs.Touched.{touch_of}
use Rattle.shadow_tables.specs.Shadow.{Shadow, at_page, root_frame, root_of, IsFixed}
use Rattle.shadow_tables.specs.Kernel.{AreKernelWords}
use Rattle.shadow_tables.specs.Needs.{frames_needed, TablesStay}
use Rattle.shadow_tables.specs.declared.tables.Translation.{Translation}
use Rattle.shadow_core.specs.Paired.{IsShadowed, lacks_frames, HasFilled, HasNothing, RootsStay, handled_of, left_by}
use Rattle.shadow_core.specs.declared.pairs.Handled.{Handled}
use Rattle.shadow_core.specs.declared.pairs.Handled.TheVariants.{Filled, Full, Fault, Refused}
use Rattle.tower_c.specs.Border.{pid_of, access_of, numbers, no_event, refused_numbers, ended_numbers}
use Rattle.tower_c.specs.declared.numbers.TowerReply.{TowerReply}
use Rattle.tower_c.specs.declared.numbers.TowerEnded.{TowerEnded}
use Rattle.tower_c.specs.declared.shadows.TowerTranslation.{TowerTranslation}

-- numbers of a pool with these frames at a physical address, and of a block at another; it has what one processor needs
pub record AreNumbers (frames pool block : ℕ) : Type 0 where
  pub least : 11 ≤ frames
  pub most : frames ≤ 1048576
  pub pool_begin : pool % 4096 ≡ 0
  pub pool_end : pool + 4096 * frames ≤ 2 ^ 52
  pub block_begin : block % 4096 ≡ 0
  pub block_end : block + 2 ^ 32 ≤ 2 ^ 52

-- half a root, of words that no processor writes, and through which no process reaches anything
pub record IsHalf (half : List ℕ) : Type 0 where
  pub long : length half ≡ 2048
  pub words : AreKernelWords half

-- tables, where there are any, are shadow tables of a core: its walks give each of their translations
abbrev pub AreShadowed : Option View → Option Shadow → Type 0
AreShadowed (Some v) (Some s) = IsShadowed v s
AreShadowed (Some v) None = Unit {0}
AreShadowed None s = Unit {0}

-- the number of how a fault was handled
abbrev pub status_of : Handled → ℕ
status_of Filled = 0
status_of Full = 1
status_of (Fault addr code) = 2
status_of (Refused cause) = 2

-- the reply that stopped a fault
abbrev pub told_of : Handled → TowerReply
told_of (Fault addr code) = numbers 5 addr code 0
told_of (Refused cause) = refused_numbers cause
told_of _ = numbers 0 0 0 0

-- a fault of a process was handled
pub record Handles (v : View) (s : Shadow) (p address : ℕ) (write : Bool) (status : ℕ) (told : TowerReply) (ended : TowerEnded) (w : View) (u : Shadow) : Type 0 where
  -- nothing changed, exactly if the fill needs more frames of the pool than were free
  pub full : (status ≡ 1) ↔ (lacks_frames s p address ≡ true)
  pub unchanged : lacks_frames s p address ≡ true → (w ≡ v) × (u ≡ s) × (ended ≡ ended_numbers end.Nothing)
  -- otherwise the core made the event
  pub status_is : lacks_frames s p address ≡ false → status ≡ status_of (handled_of (answer v.state (touch_of v.state p address (access_of write))))
  pub reply : lacks_frames s p address ≡ false → told ≡ told_of (handled_of (answer v.state (touch_of v.state p address (access_of write))))
  pub ended_is : lacks_frames s p address ≡ false → ended ≡ ended_numbers (ended_by v (touch_of v.state p address (access_of write)))
  pub state : lacks_frames s p address ≡ false → w.state ≡ next v.state (touch_of v.state p address (access_of write))
  pub ends : lacks_frames s p address ≡ false → Ends (ended_by v (touch_of v.state p address (access_of write))) v w
  -- each way that it doesn't take leads where it led
  pub stay : lacks_frames s p address ≡ false → FramesStay (gone_by v.state (touch_of v.state p address (access_of write))) (memory_of v) (memory_of w)
  pub bytes : (q at : ℕ) → byte_at w.state.spaces q at ≡ byte_at v.state.spaces q at
  pub stopped : status ≡ 2 → (w ≡ v) × (u ≡ s)
  -- the page's translation is there, and a processor's walk completes the access
  pub filled : status ≡ 0 → HasFilled w (left_by (ended_by v (touch_of v.state p address (access_of write))) s.translations) u p address (access_of write)
  -- and no more frames are taken than it needs
  pub spent : status ≡ 0 → s.free ≡ u.free + frames_needed s p (page_number address)
  pub roots : RootsStay s p u
  pub tables : (q : ℕ) → TablesStay s q u
  pub fixed : IsFixed s u

-- a fault of the process with that number; of any other number nothing changes
abbrev pub HandlesIn : View → Shadow → Option ℕ → ℕ → Bool → ℕ → TowerReply → TowerEnded → View → Shadow → Type 0
HandlesIn v s (Some p) address write status told ended w u = Handles v s p address write status told ended w u
HandlesIn v s None address write status told ended w u = (status ≡ 2) × (told ≡ no_event) × (ended ≡ ended_numbers end.Nothing) × (w ≡ v) × (u ≡ s)

-- the translations that are left where these numbers ended some, and the roots and tables where no process is gone; one
-- that is gone has neither a root nor a frame
pub record Forgets (s : Shadow) (ended : Ended) (u : Shadow) : Type 0 where
  pub translations : u.translations ≡ left_by ended s.translations
  pub roots : (p : ℕ) → is_all_of ended p ≡ false → root_frame u p ≡ root_frame s p
  pub tables : (p : ℕ) → is_all_of ended p ≡ false → TablesStay s p u
  pub gone : (p : ℕ) → is_all_of ended p ≡ true → HasNothing u p
  pub free : s.free ≤ u.free
  pub fixed : IsFixed s u

-- ---- Queries

-- the root of the process with that number
abbrev pub root_at : Shadow → Option ℕ → Option ℕ
root_at s (Some p) = root_of s p
root_at s None = None

-- where there are tables
abbrev pub root_in : Option Shadow → ℕ → Option ℕ
root_in (Some s) pid = root_at s (pid_of pid)
root_in None pid = None

-- a translation in numbers
abbrev pub translation_numbers : Translation → TowerTranslation
translation_numbers t = record { frame = t.frame; write = t.write }

-- the translation of a page of the process with that number
abbrev pub translation_at : Shadow → Option ℕ → ℕ → Option TowerTranslation
translation_at s (Some p) page = option_map translation_numbers (map.get s.translations (at_page p page))
translation_at s None page = None

-- where there are tables
abbrev pub translation_in : Option Shadow → ℕ → ℕ → Option TowerTranslation
translation_in (Some s) pid page = translation_at s (pid_of pid) page
translation_in None pid page = None

-- how many frames of the pool are free; 0 without tables
abbrev pub free_in : Option Shadow → ℕ
free_in (Some s) = s.free
free_in None = 0

-- how many frames the tables of the process with that number take
abbrev pub taken_at : Shadow → Option ℕ → ℕ
taken_at s (Some p) = slice_index s.taken p
taken_at s None = 0

-- 0 without tables
abbrev pub taken_in : Option Shadow → ℕ → ℕ
taken_in (Some s) pid = taken_at s (pid_of pid)
taken_in None pid = 0

-- how many bytes the pool has
abbrev pub pool_in : Option Shadow → Option ℕ
pool_in s = option_map (λ (s : Shadow). length s.bytes) s

-- what these numbers say was ended, where they say it
abbrev pub ended_with : TowerEnded → Option ℕ → Option Ended
ended_with e (Some p) =
    if e.kind == 0 then Some end.Nothing else
    if e.kind == 1 then Some (end.Page p e.first) else
    if e.kind == 2 then Some (end.Pages p e.first e.second) else
    if e.kind == 3 then Some (end.Space p) else None
ended_with e None = None

-- of these numbers
abbrev pub ended_from : TowerEnded → Option Ended
ended_from e = ended_with e (pid_of e.pid)
