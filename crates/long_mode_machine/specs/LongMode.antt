-- Processors in long mode, which walk shadow tables of a core: what each has in CR3 and caches, and what an access reaches.
use Rattle.std.specs.Prelude.{◌≡◌, ℕ, ◌+◌, ◌-◌, ◌*◌, ◌/◌, ◌<◌, ◌≤◌, ◌^◌, ◌%◌, ◌==◌, Bool, true, false, if◌then◌else◌, List, Option, Some, Result, Ok, slice_get}
use Rattle.page_words.specs.Addresses.{IsUserPage, EachTouched, start_number}
use Rattle.page_words.specs.FiniteMap as map
use Rattle.table_walk.specs.declared.Access.{Access}
use Rattle.table_walk.specs.declared.Access.TheVariants.{Read, Write}
use Rattle.address_space.specs.Spaces as spaces
use Rattle.kernel_calls.specs.Translations.{is_ended}
use Rattle.kernel_calls.specs.declared.calls.Call.{Call}
use Rattle.kernel_calls.specs.declared.calls.Call.TheVariants as call
use Rattle.kernel_calls.specs.declared.translations.Ended.{Ended}
use Rattle.shadow_tables.specs.Laws.{WalksAgree, LinksAreExact, PagesAreExact}
use Rattle.shadow_tables.specs.LongWalk.{long_walk, from_pointers, from_directory, from_table}
use Rattle.shadow_tables.specs.Needs.{table_at, TablesStay}
use Rattle.shadow_tables.specs.Shadow.{Shadow, at_page, frame_address, root_frame}
use Rattle.shadow_tables.specs.declared.tables.Translation.{Translation}
use Rattle.shadow_tables.specs.declared.walk.LongEnd.{LongEnd}

-- ---- What a processor has

-- the process that a processor runs, and the frame of the pool that CR3 has as its root
pub record Home : Type 0 where
  pub pid : ℕ
  pub root : ℕ

-- a translation that is cached
pub record PageEntry : Type 0 where
  pub pid : ℕ
  pub page : ℕ
  pub translation : Translation

-- a word above the last table that is cached: so many tables lead to this frame of the pool, for a user page
pub record TableEntry : Type 0 where
  pub pid : ℕ
  pub page : ℕ
  pub depth : ℕ
  pub frame : ℕ

-- what a processor may cache
pub data Cached : Type 0 where
  page_entry : PageEntry → Cached
  table_entry : TableEntry → Cached

-- A processor in user mode. With no process, it has a root that leads to the kernel's half alone.
pub record Processor : Type 0 where
  pub home : Option Home
  pub caches : List Cached

-- the shadow, whether it may still have what the core ended, and each processor, by its number
pub record LongMode : Type 0 where
  pub shadow : Shadow
  pub stale : Bool
  pub processors : ℕ → Processor

-- one processor is another from then on
abbrev pub with_processor : LongMode → ℕ → Processor → LongMode
with_processor b i processor = record b { processors = λ j. if j == i then processor else b.processors j }

-- it caches this from then on
abbrev pub with_caches : LongMode → ℕ → List Cached → LongMode
with_caches b i caches = with_processor b i (record { home = (b.processors i).home; caches = caches })

-- ---- Walks

-- how the walk of an address ends that begins at a table which is cached by itself
abbrev pub walk_on : Shadow → TableEntry → ℕ → Access → Result ℕ LongEnd
walk_on s e address access =
    if e.depth == 1 then from_pointers s.bytes s.pool address access (frame_address s.pool e.frame) else
    if e.depth == 2 then from_directory s.bytes s.pool address access (frame_address s.pool e.frame) else
    from_table s.bytes s.pool address access (frame_address s.pool e.frame)

-- a cached word leads to a table for this page too
pub record LeadsOn (e : TableEntry) (page : ℕ) : Type 0 where
  pub least : 1 ≤ e.depth
  pub most : e.depth ≤ 3
  pub lower : page < 2 ^ 35
  pub same : page / 2 ^ (36 - 9 * e.depth) ≡ e.page / 2 ^ (36 - 9 * e.depth)

-- A processor that runs a process reaches a frame of the core's for an access to a page, in one of three ways. Its walk
-- from the root in CR3 ends there now, or its walk from a table that it cached. Or it cached the page's translation.
pub data Reaches (s : Shadow) (processor : Processor) (p page frame : ℕ) (access : Access) : Type 0 where
  walked : (h : Home) → processor.home ≡ Some h → h.pid ≡ p → page < 2 ^ 35
      → long_walk s.bytes s.pool (frame_address s.pool h.root) (start_number page) access ≡ Ok (s.block + 4096 * frame)
      → Reaches s processor p page frame access
  walked_on : (place : ℕ) (e : TableEntry) → slice_get processor.caches place ≡ Some (table_entry e) → e.pid ≡ p → LeadsOn e page
      → walk_on s e (start_number page) access ≡ Ok (s.block + 4096 * frame)
      → Reaches s processor p page frame access
  cached : (place : ℕ) (t : Translation) → slice_get processor.caches place ≡ Some (page_entry (record { pid = p; page = page; translation = t }))
      → t.frame ≡ frame → (access ≡ Write → t.write ≡ true)
      → Reaches s processor p page frame access

-- the tables translate a page to the frame at this physical address
abbrev pub IsInFrame : Shadow → ℕ → ℕ → ℕ → Type 0
IsInFrame s p page physical = (t : Translation) × (map.get s.translations (at_page p page) ≡ Some t) × (physical ≡ s.block + 4096 * t.frame)

-- A processor's walk for a page of the lower half, from the root in CR3 or from a table that it cached, ends in a frame of
-- the core's, if it ends well. The tables translate the page to that frame. So it reaches what each such access reaches.
pub record WalksEndInFrames (s : Shadow) (processor : Processor) : Type 0 where
  pub root : (h : Home) (page physical : ℕ) (access : Access) → processor.home ≡ Some h → page < 2 ^ 35
      → long_walk s.bytes s.pool (frame_address s.pool h.root) (start_number page) access ≡ Ok physical → IsInFrame s h.pid page physical
  pub table : (place : ℕ) (e : TableEntry) (page physical : ℕ) (access : Access) → slice_get processor.caches place ≡ Some (table_entry e)
      → LeadsOn e page → walk_on s e (start_number page) access ≡ Ok physical → IsInFrame s e.pid page physical

-- so it is with each page that a load or a store touches, to these frames of pages
abbrev pub ReachesCall : Shadow → Processor → ℕ → (ℕ → ℕ) → Call → Type 0
ReachesCall s processor p frames (call.Load addr size) = EachTouched addr size (λ page. Reaches s processor p page (frames page) Read)
ReachesCall s processor p frames (call.Store addr size value) = EachTouched addr size (λ page. Reaches s processor p page (frames page) Write)
ReachesCall s processor p frames _ = ⊥

-- a table on the way to a user page of the process that a processor runs: so many tables lead to it
pub record IsLinked (s : Shadow) (processor : Processor) (e : TableEntry) : Type 0 where
  pub home : Home
  pub runs : processor.home ≡ Some home
  pub own : home.pid ≡ e.pid
  pub user : IsUserPage e.page
  pub least : 1 ≤ e.depth
  pub most : e.depth ≤ 3
  pub there : table_at s e.pid e.page e.depth ≡ Some e.frame

-- What a processor may begin to cache: a translation that it reaches now, with a right that it has there; and a word that
-- leads to a table.
abbrev pub IsCacheable : Shadow → Processor → Cached → Type 0
IsCacheable s processor (page_entry e) =
    Reaches s processor e.pid e.page e.translation.frame Read
    × (e.translation.write ≡ true → Reaches s processor e.pid e.page e.translation.frame Write)
IsCacheable s processor (table_entry e) = IsLinked s processor e

-- none of the pages that a call touches was ended, or the processor has invalidated
abbrev pub MayUse : Ended → Bool → ℕ → Call → Type 0
MayUse x true p c = Unit {0}
MayUse x false p (call.Load addr size) = EachTouched addr size (λ page. is_ended x (spaces.at_page p page) ≡ false)
MayUse x false p (call.Store addr size value) = EachTouched addr size (λ page. is_ended x (spaces.at_page p page) ≡ false)
MayUse x false p _ = ⊥

-- ---- What a call does to the shadow

-- the pool and the translated frames lie at addresses of frames, as `ShadowTables::new` requires
pub record IsAligned (s : Shadow) : Type 0 where
  pub pool : s.pool % 4096 ≡ 0
  pub block : s.block % 4096 ≡ 0

-- as in each `ShadowTables` (`ShadowTables::walks`)
pub record IsTabled (s : Shadow) : Type 0 where
  pub walks : WalksAgree s
  pub links : LinksAreExact s
  pub pages : PagesAreExact s
  pub aligned : IsAligned s

-- each translation is one that there was; the processes that weren't freed have their roots and tables where they were
pub record IsLeft (old : Shadow) (freed : ℕ → Bool) (new : Shadow) : Type 0 where
  pub less : (p page : ℕ) (t : Translation) → map.get new.translations (at_page p page) ≡ Some t → map.get old.translations (at_page p page) ≡ Some t
  pub roots : (p : ℕ) → freed p ≡ false → root_frame new p ≡ root_frame old p
  pub tables : (p : ℕ) → freed p ≡ false → TablesStay old p new
  pub stands : IsTabled new

-- nothing is left of what was ended
abbrev pub HasForgotten : Ended → Shadow → Type 0
HasForgotten x s = (p page : ℕ) (t : Translation) → map.get s.translations (at_page p page) ≡ Some t → is_ended x (spaces.at_page p page) ≡ false

-- nothing that is cached is a translation of a page that was ended
abbrev pub CachesNone : Ended → List Cached → Type 0
CachesNone x caches = (place : ℕ) (e : PageEntry) → slice_get caches place ≡ Some (page_entry e) → is_ended x (spaces.at_page e.pid e.page) ≡ false

-- each of these is one of those
abbrev pub AreAmong : List Cached → List Cached → Type 0
AreAmong left caches = (m : ℕ) (k : Cached) → slice_get left m ≡ Some k → (n : ℕ) × (slice_get caches n ≡ Some k)

-- no processor's CR3 has a root of these processes
abbrev pub NobodyRuns : ℕ → LongMode → (ℕ → Bool) → Type 0
NobodyRuns count b freed = (i : ℕ) (h : Home) → i < count → (b.processors i).home ≡ Some h → freed h.pid ≡ false
