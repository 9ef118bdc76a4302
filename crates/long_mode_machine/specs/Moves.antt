-- Moves of a core with shadow tables and processors in long mode, and which steps of a machine with processors
-- (shootdowns) they are.
use Rattle.std.specs.Prelude.{◌≡◌, ℕ, ◌<◌, ◌≤◌, Bool, true, false, List, [], ◌∷◌, ◌++◌, Option, Some, None}
use Rattle.page_words.specs.FiniteMap as map
use Rattle.process_table.specs.View.{View}
use Rattle.process_table.specs.State.{State}
use Rattle.kernel_calls.specs.Kept.{reply_kept, bytes_kept, IsLoad, IsStore}
use Rattle.kernel_calls.specs.Machine.{next}
use Rattle.kernel_calls.specs.Processors.{IsCore, Processors, with_bytes}
use Rattle.kernel_calls.specs.Translations.{IsGiven, ended_by, is_all_of}
use Rattle.kernel_calls.specs.declared.calls.Event.{Event}
use Rattle.kernel_calls.specs.declared.calls.Reply.{Reply}
use Rattle.kernel_calls.specs.declared.translations.Ended.{Ended}
use Rattle.kernel_calls.specs.declared.translations.Ended.TheVariants as end
use Rattle.shadow_tables.specs.Needs.{TablesStay}
use Rattle.shadow_tables.specs.Shadow.{Shadow, root_frame}
use Rattle.shadow_tables.specs.declared.tables.Translation.{Translation}
use Rattle.shadow_core.specs.Paired.{HasEntered, kept_at, left_by, TranslationsAreRead}
use Rattle.shootdowns.specs.Windows.{Begins, only_takes, Acknowledged, nobody, Moment, settled, under_way, memory_in, ended_in, acknowledged, Steps, AreInOrder}
use Rattle.shootdowns.specs.Worked.{none_kept}
use Rattle.long_mode_machine.specs.LongMode.{Home, Cached, LongMode, with_processor, with_caches, ReachesCall, IsCacheable, MayUse, IsTabled, IsLeft, HasForgotten, CachesNone, AreAmong, NobodyRuns, WalksEndInFrames}

-- ---- Accesses

-- a processor loads by what it reaches
pub record IsLoaded (b : LongMode) (i : ℕ) (w : View) (a : Event) (q : Reply) : Type 0 where
  pub load : IsLoad a.call
  pub frames : ℕ → ℕ
  pub through : ReachesCall b.shadow (b.processors i) a.pid frames a.call
  pub found : q ≡ reply_kept frames w.bytes a.call

-- a processor stores by what it reaches, and makes memory this
pub record IsStored (b : LongMode) (i : ℕ) (w : View) (a : Event) (q : Reply) (bytes : List ℕ) : Type 0 where
  pub store : IsStore a.call
  pub frames : ℕ → ℕ
  pub through : ReachesCall b.shadow (b.processors i) a.pid frames a.call
  pub found : q ≡ reply_kept frames w.bytes a.call
  pub left : bytes ≡ bytes_kept frames w.bytes a.call

-- The tables forget what a fault's event ended, and get the page's translation, which the core's walk gives now. Tables and
-- roots that there were stay.
pub record IsFilled (x : Ended) (w : View) (old : Shadow) (p page : ℕ) (t : Translation) (new : Shadow) : Type 0 where
  pub entered : HasEntered (left_by x old.translations) p page t new.translations
  pub given : IsGiven w (kept_at p page t)
  pub roots : (q frame : ℕ) → root_frame old q ≡ Some frame → root_frame new q ≡ Some frame
  pub tables : (q : ℕ) → TablesStay old q new
  pub stands : IsTabled new

-- so it is with some translation
abbrev pub FillsOne : Ended → View → Shadow → ℕ → ℕ → Shadow → Type 0
FillsOne x w old p page new = (t : Translation) × IsFilled x w old p page t new

-- what a processor's CR3 may get: the root of a process
abbrev pub HasRoot : Shadow → Option Home → Type 0
HasRoot s None = Unit {0}
HasRoot s (Some h) = root_frame s h.pid ≡ Some h.root

-- ---- Moves

-- One move, by its rule, with the event that comes next in the order, if any, and its reply or the value read. There are
-- `count` processors; the tables acknowledge as one more, of that number.
pub data Move (count : ℕ) : Moment → LongMode → List Event → List Reply → Moment → LongMode → Type 0 where
  -- under the lock, the core carries out an event: that of a call, or of a page fault
  begun : {v w : View} {done : Acknowledged} {b : LongMode} {e : Event} {r : Reply} → b.stale ≡ false → Begins v e r w
      → Move count (settled end.Nothing done v) b [] [] (under_way (ended_by v e) nobody e r v.state w) (record b { stale = true })
  -- until its point, and only if it takes away, processors make accesses by all that they reach
  loaded : {x : Ended} {done : Acknowledged} {w : View} {s : State} {b : LongMode} {e a : Event} {r q : Reply} (i : ℕ) → i < count
      → only_takes e.call ≡ true → IsLoaded b i w a q
      → Move count (under_way x done e r s w) b (a ∷ []) (q ∷ []) (under_way x done e r s w) b
  stored : {x : Ended} {done : Acknowledged} {w : View} {s : State} {b : LongMode} {e a : Event} {r q : Reply} {bytes : List ℕ} (i : ℕ) → i < count
      → only_takes e.call ≡ true → IsStored b i w a q bytes
      → Move count (under_way x done e r s w) b (a ∷ []) (q ∷ [])
      (under_way x done e r (next s a) (record w { bytes = bytes; state = next (next s a) e })) b
  ordered : {x : Ended} {done : Acknowledged} {w : View} {s : State} {b : LongMode} {e : Event} {r : Reply}
      → Move count (under_way x done e r s w) b (e ∷ []) (r ∷ []) (settled x done w) b
  -- after it, and between windows, none makes one by what was ended until it has invalidated that
  loaded_after : {x : Ended} {done : Acknowledged} {v : View} {b : LongMode} {a : Event} {q : Reply} (i : ℕ) → i < count
      → MayUse x (done i) a.pid a.call → IsLoaded b i v a q
      → Move count (settled x done v) b (a ∷ []) (q ∷ []) (settled x done v) b
  stored_after : {x : Ended} {done : Acknowledged} {v : View} {b : LongMode} {a : Event} {q : Reply} {bytes : List ℕ} (i : ℕ) → i < count
      → MayUse x (done i) a.pid a.call → IsStored b i v a q bytes
      → Move count (settled x done v) b (a ∷ []) (q ∷ []) (settled x done (with_bytes v (next v.state a) bytes)) b
  -- the tables forget what was ended; no processor has a root that this frees
  forgot : {m : Moment} {b : LongMode} {u : Shadow} → b.stale ≡ true → IsLeft b.shadow (is_all_of (ended_in m)) u
      → HasForgotten (ended_in m) u → NobodyRuns count b (is_all_of (ended_in m))
      → Move count m b [] [] (acknowledged m count) (record b { shadow = u; stale = false })
  -- or they do at a page fault, and get its translation
  filled : {m : Moment} {b : LongMode} {u : Shadow} (p page : ℕ) (t : Translation) → b.stale ≡ true
      → IsFilled (ended_in m) (memory_in m) b.shadow p page t u
      → Move count m b [] [] (acknowledged m count) (record b { shadow = u; stale = false })
  -- they forget more, to have room; no processor has a root that this frees
  made_room : {m : Moment} {b : LongMode} {u : Shadow} (freed : ℕ → Bool) → IsLeft b.shadow freed u → NobodyRuns count b freed
      → Move count m b [] [] m (record b { shadow = u })
  -- a processor begins to cache what its walk reads now
  cached : {m : Moment} {b : LongMode} (i : ℕ) (k : Cached) → i < count → IsCacheable b.shadow (b.processors i) k
      → Move count m b [] [] m (with_caches b i (k ∷ (b.processors i).caches))
  -- or forgets some
  dropped : {m : Moment} {b : LongMode} (i : ℕ) (left : List Cached) → i < count → AreAmong left (b.processors i).caches
      → Move count m b [] [] m (with_caches b i left)
  -- it gets another root, and none of what it cached is left: it runs another process, or none
  switched : {m : Moment} {b : LongMode} (i : ℕ) (home : Option Home) → i < count → HasRoot b.shadow home
      → Move count m b [] [] m (with_processor b i (record { home = home; caches = [] }))
  -- once the tables have forgotten, it invalidates what was ended, or caches nothing of it
  invalidated : {m : Moment} {b : LongMode} (i : ℕ) (left : List Cached) → i < count → b.stale ≡ false
      → AreAmong left (b.processors i).caches → CachesNone (ended_in m) left
      → Move count m b [] [] (acknowledged m i) (with_caches b i left)
  -- once all have, and the tables, the reply is returned and the lock released
  told : {x : Ended} {done : Acknowledged} {v : View} {b : LongMode} → ((i : ℕ) → i ≤ count → done i ≡ true)
      → Move count (settled x done v) b [] [] (settled end.Nothing nobody v) b

-- moves, one after another
pub data Moves (count : ℕ) : Moment → LongMode → List Event → List Reply → Moment → LongMode → Type 0 where
  none : {m : Moment} {b : LongMode} → Moves count m b [] [] m b
  first : {m n o : Moment} {b between last : LongMode} {es events : List Event} {rs replies : List Reply}
      → Move count m b es rs n between → Moves count n between events replies o last
      → Moves count m b (es ++ events) (rs ++ replies) o last

-- ---- What they come to

-- shadow tables without a translation, and no processor has a root
pub record IsOpening (b : LongMode) : Type 0 where
  pub empty : b.shadow.translations ≡ map.empty
  pub stands : IsTabled b.shadow
  pub stale : b.stale ≡ false
  pub idle : (i : ℕ) → b.processors i ≡ record { home = None; caches = [] }

-- the moves of a machine in long mode are steps of a machine whose processors walk the core's tables, with the same
-- events, replies and values read
pub record AreSteps (count : ℕ) (v : View) (events : List Event) (replies : List Reply) (m : Moment) (b : LongMode) : Type 0 where
  pub keeps : Processors
  pub steps : Steps (settled end.Nothing nobody v) none_kept events replies m keeps
  -- so these are the answers in the order, and memory is a core's in the state after it
  pub order : AreInOrder v events replies m keeps
  -- and walks of the core read each translation that the tables have, once they have forgotten
  pub read : b.stale ≡ false → TranslationsAreRead (record { core = memory_in m; shadow = b.shadow })
  -- and no processor's walk ends anywhere else
  pub ends : (i : ℕ) → i < count → WalksEndInFrames b.shadow (b.processors i)

-- so it is with all moves from a core and shadow tables without a translation
abbrev pub LongModeMakesSteps : Type 0
LongModeMakesSteps = (count : ℕ) (v : View) (b last : LongMode) (m : Moment) (events : List Event) (replies : List Reply)
    → IsCore v → IsOpening b → Moves count (settled end.Nothing nobody v) b events replies m last
    → AreSteps count v events replies m last
