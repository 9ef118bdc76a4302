-- The moves of the worked run.
use Rattle.std.proofs.Common.{◌≡◌, ℕ, zero, suc, ◌+◌, ◌*◌, ◌≤◌, Bool, true, false, List, [], ◌∷◌, Option, Some, None, Ok, refl, ap, subst, ◌∙◌, arith}
use Rattle.std.specs.Prelude.{slice_get, if◌then◌else◌}
use Rattle.page_words.specs.FiniteMap as map
use Rattle.page_words.specs.Addresses.{start_number}
use Rattle.table_walk.specs.declared.Access.TheVariants.{Read}
use Rattle.process_table.specs.State.{State, open_with}
use Rattle.process_table.specs.View.{View}
use Rattle.kernel_calls.specs.Kept.{reply_kept}
use Rattle.kernel_calls.specs.Machine.{answer, answers, completes}
use Rattle.kernel_calls.specs.Processors.{IsCore}
use Rattle.kernel_calls.specs.Translations.{ended_by, is_all_of, of_call}
use Rattle.kernel_calls.specs.declared.calls.Reply.{Reply}
use Rattle.kernel_calls.specs.declared.calls.Reply.TheVariants as reply
use Rattle.kernel_calls.specs.declared.translations.Ended.{Ended}
use Rattle.kernel_calls.specs.declared.translations.Ended.TheVariants as end
use Rattle.shadow_tables.specs.LongWalk.{long_walk}
use Rattle.shadow_tables.specs.Shadow.{Shadow, frame_address, root_frame, shadow_end}
use Rattle.shadow_tables.specs.declared.tables.Translation.{Translation}
use Rattle.shootdowns.specs.Windows.{Begins, nobody, settled, with_one}
use Rattle.long_mode_machine.specs.LongMode.{Home, PageEntry, Cached, page_entry, Processor, LongMode, walked, cached, IsTabled, IsLeft, HasForgotten, CachesNone, IsCacheable}
use Rattle.long_mode_machine.specs.Moves as moves
use Rattle.long_mode_machine.specs.Moves.{IsLoaded, FillsOne, IsOpening, Moves}
use Rattle.long_mode_machine.specs.WorkedRun.{WorkedRun, touch_it, load_it, unmap_it}
use Rattle.long_mode_machine.proofs.Law.{long_mode_makes_steps}

none_there : (n : ℕ) (k : Cached) → slice_get {X = Cached} [] n ≡ Some k → ⊥
none_there n k h = grind arith

caches_none : (x : Ended) → CachesNone x []
caches_none x place e there = absurd (none_there place (page_entry e) there)

-- an Unmap frees no root
frees_none : (v : View) (p : ℕ) → is_all_of (ended_by v unmap_it) p ≡ false
frees_none v p = by (completes (answer v.state unmap_it))
  where
    by : (b : Bool) → is_all_of (if b then of_call v 0 unmap_it.call else end.Nothing) p ≡ false
    by true = refl
    by false = refl

all_three : (i : ℕ) → i ≤ 2 → with_one (with_one (with_one nobody 2) 0) 1 i ≡ true
all_three zero below = refl
all_three (suc zero) below = refl
all_three (suc (suc zero)) below = refl
all_three (suc (suc (suc n))) below = absurd (omega (arith, below))

-- what the calls of a core that boots ensure
pub record Called (before between after : View) (old filled left : Shadow) : Type 0 where
  pub opening : before.state ≡ open_with 16
  pub core : IsCore before
  pub empty : old.translations ≡ map.empty
  pub tabled : IsTabled old
  pub touches : Begins before touch_it (answer before.state touch_it) between
  pub fills : FillsOne (ended_by before touch_it) between old 0 0x40000 filled
  pub root : ℕ
  pub rooted : root_frame filled 0 ≡ Some root
  pub unmaps : Begins between unmap_it (answer between.state unmap_it) after
  pub leaves : IsLeft filled (is_all_of (ended_by between unmap_it)) left
  pub forgets : HasForgotten (ended_by between unmap_it) left

module _ (before between after : View) (old full left : Shadow) (k : Called before between after old full left) where
  abbrev t : Translation
  t = k.fills.0

  abbrev home : Home
  home = record { pid = 0; root = k.root }

  abbrev entry : PageEntry
  entry = record { pid = 0; page = 0x40000; translation = record { frame = t.frame; write = false } }

  abbrev opens : LongMode
  opens = record { shadow = old; stale = false; processors = λ i. record { home = None; caches = [] } }

  abbrev runs : Processor
  runs = record { home = Some home; caches = [] }

  walk : long_walk full.bytes full.pool (frame_address full.pool k.root) (start_number 0x40000) Read ≡ Ok (full.block + 4096 * t.frame)
  walk = k.fills.1.stands.walks 0 k.root (start_number 0x40000) Read k.rooted (omega arith)
      ∙ ap (λ (o : Option Translation). shadow_end full.block o (start_number 0x40000) Read) k.fills.1.entered.is
      ∙ ap Ok (omega arith)

  reads : IsCacheable full runs (page_entry entry)
  reads = (walked home refl refl (omega arith) walk, λ w. cc)

  -- the value that is there
  abbrev q : Reply
  q = reply_kept (λ _. t.frame) after.bytes load_it.call

  loads : (b : LongMode) → (b.processors 0).caches ≡ page_entry entry ∷ [] → IsLoaded b 0 after load_it q
  loads b is = record {
    load = tt;
    frames = λ _. t.frame;
    through = (cached 0 entry.translation (ap (λ (l : List Cached). slice_get l 0) is) refl (λ w. cc), tt);
    found = refl;
  }

  all_moves : (last : LongMode) × Moves 2 (settled end.Nothing nobody before) opens (touch_it ∷ load_it ∷ unmap_it ∷ [])
      (answer before.state touch_it ∷ q ∷ answer between.state unmap_it ∷ []) (settled end.Nothing nobody after) last
  all_moves = (
    _,
    moves.first (moves.begun refl k.touches) (moves.first moves.ordered (moves.first (moves.filled 0 0x40000 t refl k.fills.1)
        (moves.first (moves.invalidated 0 [] (omega arith) refl (λ place k there. absurd (none_there place k there)) (caches_none _)) (moves.first (moves.invalidated 1 [] (omega arith) refl (λ place k there. absurd (none_there place k there)) (caches_none _))
        (moves.first (moves.told all_three) (moves.first (moves.switched 0 (Some home) (omega arith) k.rooted) (moves.first (moves.cached 0 (page_entry entry) (omega arith) reads)
        (moves.first (moves.begun refl k.unmaps) (moves.first (moves.loaded 0 (omega arith) refl (loads _ refl))
        (moves.first (moves.forgot refl k.leaves k.forgets (λ i h below is. frees_none between h.pid))
        (moves.first (moves.invalidated 0 [] (omega arith) refl (λ place k there. absurd (none_there place k there)) (caches_none _)) (moves.first (moves.invalidated 1 [] (omega arith) refl (λ place k there. absurd (none_there place k there)) (caches_none _))
        (moves.first moves.ordered (moves.first (moves.told all_three) moves.none)))))))))))))),
  )

  is_opening : IsOpening opens
  is_opening = record { empty = k.empty; stands = k.tabled; stale = refl; idle = λ i. refl }

  answered : (answer before.state touch_it ∷ q ∷ answer between.state unmap_it ∷ []) ≡ (reply.Done ∷ reply.Value 0 ∷ reply.Done ∷ [])
  answered = (long_mode_makes_steps 2 before opens all_moves.0 (settled end.Nothing nobody after) (touch_it ∷ load_it ∷ unmap_it ∷ []) _ k.core is_opening all_moves.1).order.replies
      ∙ ap (λ (s : State). answers s (touch_it ∷ load_it ∷ unmap_it ∷ [])) k.opening

  pub worked : WorkedRun after
  worked = record {
    start = before;
    opened = k.opening;
    tables = opens;
    opening = is_opening;
    last = all_moves.0;
    moves = subst (λ (l : List Reply). Moves 2 (settled end.Nothing nobody before) opens (touch_it ∷ load_it ∷ unmap_it ∷ []) l (settled end.Nothing nobody after) all_moves.0) answered all_moves.1;
  }
