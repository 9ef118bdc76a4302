-- A core and shadow tables of it: each translation of the shadow is one that the core's walk gives now.
use Rattle.std.specs.Prelude.{nat_lt, slice_index}
use Rattle.std.proofs.Common.{◌≡◌, ◌≢◌, ℕ, ◌+◌, ◌*◌, ◌^◌, ◌<◌, ◌≤◌, ◌⊎◌, Bool, not, ◌==◌, ◌&&◌, List, length, Option, Some, None, Ok, refl}
use Rattle.std.specs.Coded.{Coded, code_by, coded×}
use Rattle.std.specs.Option.{unwrap_or}
use Rattle.page_words.specs.Addresses.{is_user_page, page_number, offset_number, start_number, EachTouched}
use Rattle.page_words.specs.FiniteMap as map
use Rattle.table_walk.specs.declared.Access.{Access}
use Rattle.table_walk.specs.declared.Access.TheVariants.{Read, Write}
use Rattle.address_space.specs.ByWalk.{finds_at}
use Rattle.address_space.specs.Spaces as spaces
use Rattle.process_table.specs.Image.{memory_of}
use Rattle.process_table.specs.View.{View, view_code}
use Rattle.kernel_calls.specs.Cleaned.{is_dirty_at}
use Rattle.kernel_calls.specs.declared.calls.Reply.{Reply}
use Rattle.kernel_calls.specs.declared.calls.Reply.TheVariants as reply
use Rattle.kernel_calls.specs.Kept.{ServesEvent}
use Rattle.kernel_calls.specs.declared.calls.Call.{Call}
use Rattle.kernel_calls.specs.Translations as kept
use Rattle.kernel_calls.specs.Translations.{Kept, IsGiven, WalkGives, AreRead}
use Rattle.kernel_calls.specs.Processors.{LetCall}
use Rattle.kernel_calls.specs.declared.calls.Call.TheVariants as call
use Rattle.kernel_calls.specs.declared.calls.Event.{Event}
use Rattle.kernel_calls.specs.declared.translations.Ended.{Ended}
use Rattle.kernel_calls.specs.declared.translations.Ended.TheVariants as end
use Rattle.shadow_tables.specs.Kernel.{IsCanonical}
use Rattle.shadow_tables.specs.LongWalk.{long_walk}
use Rattle.shadow_tables.specs.Needs.{frames_needed}
use Rattle.shadow_tables.specs.Shadow.{Shadow, shadow_code, Translations, at_page, frame_address, root_frame}
use Rattle.shadow_tables.specs.declared.tables.Translation.{Translation}
use Rattle.shadow_core.specs.declared.pairs.Handled.{Handled}
use Rattle.shadow_core.specs.declared.pairs.Handled.TheVariants.{Filled, Fault, Refused}

-- a core, and the shadow of its tables
pub record Paired : Type 0 where
  pub core : View
  pub shadow : Shadow

-- the code of a core and its shadow
abbrev pub paired_code : Coded Paired
paired_code = code_by (View × Shadow) (coded× view_code shadow_code) (λ w. (w.core, w.shadow)) (λ p. record { core = p.0; shadow = p.1 }) (λ _. refl)

-- what the shadow keeps of a page: its frame, and dirty was set where it lets writes through
abbrev pub kept_at : ℕ → ℕ → Translation → kept.Translation
kept_at p page t = record { slot = spaces.at_page p page; frame = t.frame; write = t.write; dirty = t.write }

-- The core's walks give each translation of the shadow, at each address of its page, and its flags are set. The pool
-- has the frames that one processor needs.
pub record IsShadowed (v : View) (s : Shadow) : Type 0 where
  pub given : (p page : ℕ) (t : Translation) → map.get s.translations (at_page p page) ≡ Some t → IsGiven v (kept_at p page t)
  pub enough : 4096 * 11 ≤ length s.bytes

-- a process has neither a root nor a frame of the pool
abbrev pub HasNothing : Shadow → ℕ → Type 0
HasNothing s p = (root_frame s p ≡ None) × (slice_index s.taken p ≡ 0)

-- whether a fault at an address of the user range needs more frames of the pool than are free
abbrev pub lacks_frames : Shadow → ℕ → ℕ → Bool
lacks_frames s p address = is_user_page (page_number address) && nat_lt s.free (frames_needed s p (page_number address))

-- the translations that are left where an event ended these
abbrev pub left_by : Ended → Translations → Translations
left_by end.Nothing translations = translations
left_by (end.Page p page) translations = map.remove translations (at_page p page)
left_by (end.Pages p first second) translations = map.remove (map.remove translations (at_page p first)) (at_page p second)
left_by (end.Space p) translations = map.retain_keys translations (λ slot. not (slot.pid == p))

-- a translation is entered, and any other that there is then was there before
pub record HasEntered (old : Translations) (p page : ℕ) (t : Translation) (new : Translations) : Type 0 where
  pub is : map.get new (at_page p page) ≡ Some t
  pub others : (q at : ℕ) (u : Translation) → map.get new (at_page q at) ≡ Some u → ((q ≡ p) × (at ≡ page) × (u ≡ t)) ⊎ (map.get old (at_page q at) ≡ Some u)

-- where a processor's walk of the shadow reaches a page, the core's walk gives the frame there
abbrev pub WalksAreTheCores : Paired → Type 0
WalksAreTheCores w = (p root address physical : ℕ) (access : Access) → root_frame w.shadow p ≡ Some root → IsCanonical address
    → long_walk w.shadow.bytes w.shadow.pool (frame_address w.shadow.pool root) address access ≡ Ok physical
    → (directory frame : ℕ) × WalkGives (memory_of w.core) p directory address access frame
    × (physical ≡ w.shadow.block + 4096 * frame + offset_number address)

-- the frames of the pool and those of the core lie apart
abbrev pub AreApart : Paired → Type 0
AreApart w = (w.shadow.pool + length w.shadow.bytes ≤ w.shadow.block) ⊎ (w.shadow.block + length w.core.bytes ≤ w.shadow.pool)

-- then no address leads a process into the pool
abbrev pub PoolIsOutOfReach : Paired → Type 0
PoolIsOutOfReach w = AreApart w → (p root address physical : ℕ) (access : Access) → root_frame w.shadow p ≡ Some root → IsCanonical address
    → long_walk w.shadow.bytes w.shadow.pool (frame_address w.shadow.pool root) address access ≡ Ok physical
    → (physical < w.shadow.pool) ⊎ (w.shadow.pool + length w.shadow.bytes ≤ physical)

-- walks of the core read each translation that the shadow keeps
abbrev pub TranslationsAreRead : Paired → Type 0
TranslationsAreRead w = (p page : ℕ) (t : Translation) → map.get w.shadow.translations (at_page p page) ≡ Some t → kept.IsRead w.core (kept.translation (kept_at p page t))

-- a processor completes an access through the shadow
abbrev pub IsServed : Paired → ℕ → ℕ → Access → Type 0
IsServed w p address access = (root physical : ℕ) × (root_frame w.shadow p ≡ Some root)
    × (long_walk w.shadow.bytes w.shadow.pool (frame_address w.shadow.pool root) address access ≡ Ok physical)

-- a processor's walk of the shadow reaches a frame of the core's, for an access to a page of the lower half
pub record Reaches (w : Paired) (p page frame : ℕ) (access : Access) : Type 0 where
  pub lower : page < 2 ^ 35
  pub root : ℕ
  pub rooted : root_frame w.shadow p ≡ Some root
  pub walk : long_walk w.shadow.bytes w.shadow.pool (frame_address w.shadow.pool root) (start_number page) access ≡ Ok (w.shadow.block + 4096 * frame)

-- so it is with each page that a load or a store touches, to these frames of pages
abbrev pub ReachesCall : Paired → ℕ → (ℕ → ℕ) → Call → Type 0
ReachesCall w p frames (call.Load addr size) = EachTouched addr size (λ page. Reaches w p page (frames page) Read)
ReachesCall w p frames (call.Store addr size value) = EachTouched addr size (λ page. Reaches w p page (frames page) Write)
ReachesCall w p frames _ = ⊥

-- translations that were kept serve each access that a processor completes through the shadow
abbrev pub AccessesAreServed : Paired → Type 0
AccessesAreServed w = (frames : ℕ → ℕ) (e : Event) → ReachesCall w e.pid frames e.call → ServesEvent w.core frames e

-- Walks of the core read translations now that let each such access through: the processor may begin to keep them, and
-- then makes the access by what it keeps.
abbrev pub AccessesAreKept : Paired → Type 0
AccessesAreKept w = (frames : ℕ → ℕ) (e : Event) → ReachesCall w e.pid frames e.call → (kept : List Kept) × AreRead w.core kept × LetCall kept e.pid frames e.call

-- how a fault ends at a reply of the core's that stops the access
abbrev pub stop_of : Reply → Option Handled
stop_of (reply.Fault addr code) = Some (Fault addr code)
stop_of (reply.Refused cause) = Some (Refused cause)
stop_of _ = None

-- how a fault ends at a reply of the core's
abbrev pub handled_of : Reply → Handled
handled_of r = unwrap_or (stop_of r) Filled

-- a fault that ends so leaves all as it is
abbrev pub IsStopped : Handled → Type 0
IsStopped (Fault addr code) = Unit {0}
IsStopped (Refused cause) = Unit {0}
IsStopped _ = ⊥

-- The page of an address has its translation, which the core's walk gives, in place of any other. It allows writes if the
-- walk does and the page is dirty. A processor's walk of the shadow completes the access.
pub record HasFilled (w : View) (before : Translations) (u : Shadow) (p address : ℕ) (access : Access) : Type 0 where
  pub translation : Translation
  pub is : u.translations ≡ map.insert before (at_page p (page_number address)) translation
  pub given : IsGiven w (kept_at p (page_number address) translation)
  pub write : translation.write ≡ (finds_at (memory_of w) p Write address && is_dirty_at w.state (spaces.slot_at p address))
  pub served : IsServed (record { core = w; shadow = u }) p address access

-- each translation is one that there was
abbrev pub IsLess : Shadow → Shadow → Type 0
IsLess old new = (p page : ℕ) (t : Translation) → map.get new.translations (at_page p page) ≡ Some t → map.get old.translations (at_page p page) ≡ Some t

-- each root stays, and only this process may get one
pub record RootsStay (old : Shadow) (pid : ℕ) (new : Shadow) : Type 0 where
  pub stay : (p frame : ℕ) → root_frame old p ≡ Some frame → root_frame new p ≡ Some frame
  pub others : (p : ℕ) → p ≢ pid → root_frame new p ≡ root_frame old p
