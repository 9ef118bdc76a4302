-- Steps of a core and its processors are the events that they represent.
use Rattle.kernel_calls.proofs.Prelude.{◌≡◌, ℕ, zero, suc, List, [], ◌∷◌, ◌++◌, refl, ap, sym, ◌∙◌, subst, Some, arith, slice_get, Access, directory_at, memory_of, View, each_page, answer, answers, next, end_of, IsCore, Processors, all_left_by, Step, walked, marked, none, first, Kept, translation, directory_entry, IsRead, AreRead, Ends, ended_by, left_by, Call, Event, Reply, Serves, ServesCall, ServesEvent, reply_kept, with_kept, AllAreRead, AreAmong, LetsThrough, LetCall, carried, IsLeft, refilled, forgotten, Steps, AreTheEvents, ProcessorsMakeEvents}
use Rattle.kernel_calls.specs.Processors.{loaded, stored}
use Rattle.kernel_calls.proofs.KeptAccesses.{live, kept_find, kept_reply, kept_loads}
use Rattle.kernel_calls.proofs.Leaving.{left_read}
use Rattle.kernel_calls.proofs.LeftByProcessors.{walks_leave_cores, stores_leave_cores, marks_leave_cores}
use Rattle.kernel_calls.proofs.WalkedReplies.{answered}
use Rattle.kernel_calls.specs.declared.translations.Ended.TheVariants as end

-- ---- What is kept

-- each of what is kept is read
pub read_at : (v : View) (kept : List Kept) (n : ℕ) (k : Kept) → AreRead v kept → slice_get kept n ≡ Some k → IsRead v k
read_at v [] n k all there = absurd (none_there n k there)
  where
    none_there : (n : ℕ) (k : Kept) → slice_get {X = Kept} [] n ≡ Some k → ⊥
    none_there n k h = grind arith
read_at v (x ∷ kept) zero k all there = let e : x ≡ k = cc in subst (IsRead v) e all.0
read_at v (x ∷ kept) (suc n) k all there = read_at v kept n k all.1 there

-- and what is among it
pub among_read : (v : View) (left kept : List Kept) → AreAmong left kept → AreRead v kept → AreRead v left
among_read v [] kept among all = tt
among_read v (x ∷ left) kept among all =
    let m = among 0 x refl in
    (read_at v kept m.0 x all m.1, among_read v left kept (λ n k there. among (suc n) k there) all)

-- one processor keeps something else
pub read_with : (v : View) (keeps : Processors) (i : ℕ) (kept : List Kept) → AllAreRead v keeps → AreRead v kept
    → AllAreRead v (with_kept keeps i kept)
read_with v keeps i kept all new j = grind arith

-- and still is, where nothing was ended
all_stay : (v w : View) (keeps : Processors) → Ends end.Nothing v w → AllAreRead v keeps → AllAreRead w keeps
all_stay v w keeps ends all i = subst (AreRead w) (none_left (keeps i)) (left_read end.Nothing v w (keeps i) ends (all i))
  where
    none_left : (kept : List Kept) → left_by end.Nothing kept ≡ kept
    none_left [] = refl
    none_left (translation t ∷ kept) = ap (λ (l : List Kept). translation t ∷ l) (none_left kept)
    none_left (directory_entry e ∷ kept) = ap (λ (l : List Kept). directory_entry e ∷ l) (none_left kept)

-- ---- Accesses by what is kept

serves : (v : View) (kept : List Kept) (p page frame : ℕ) (access : Access) → AreRead v kept
    → LetsThrough kept p page frame access → Serves v p page frame access
serves v kept p page frame access all lets = record {
  kept = record { slot = record { pid = p; page = page }; frame = frame; write = lets.write; dirty = lets.dirty };
  given = read_at v kept lets.place _ all lets.there;
  of_page = refl;
  on_frame = refl;
  written = lets.right;
}

pub serves_call : (v : View) (kept : List Kept) (p : ℕ) (frames : ℕ → ℕ) (c : Call) → AreRead v kept → LetCall kept p frames c
    → ServesCall v p frames c
serves_call v kept p frames c all lets = grind (arith, each_page, serves)

-- the process has a directory
home : (v : View) (frames : ℕ → ℕ) (p : ℕ) (c : Call) → ServesCall v p frames c
    → (d : ℕ) × (directory_at (memory_of v) p ≡ Some d)
home v frames p c served = grind (arith, live)

-- what is found by what is kept is the answer
kept_answered : (v : View) (frames : ℕ → ℕ) (e : Event) → IsCore v → ServesEvent v frames e
    → answer v.state e ≡ reply_kept frames v.bytes e.call
kept_answered v frames e core served =
    let d = home v frames e.pid e.call served in
    answered v e d.0 core (kept_find v frames e served) d.1 ∙ kept_reply v frames e d.0 served d.1

-- ---- One step

-- what a step makes of whatever comes after it
pub record IsOne (v : View) (es : List Event) (rs : List Reply) (w : View) (between : Processors) : Type 0 where
  pub replies : (events : List Event) → rs ++ answers w.state events ≡ answers v.state (es ++ events)
  pub state : (events : List Event) → end_of w.state events ≡ end_of v.state (es ++ events)
  pub core : IsCore w
  pub kept : AllAreRead w between

-- a step that is an event
pub is_event : (v w : View) (e : Event) (r : Reply) (between : Processors) → r ≡ answer v.state e → w.state ≡ next v.state e
    → IsCore w → AllAreRead w between → IsOne v (e ∷ []) (r ∷ []) w between
is_event v w e r between told state core kept = grind arith

-- and one that is none
pub is_none : (v w : View) (between : Processors) → w.state ≡ v.state → IsCore w → AllAreRead w between
    → IsOne v [] [] w between
is_none v w between state core kept = grind arith

pub one : {v w : View} {keeps between : Processors} {es : List Event} {rs : List Reply} → Step v keeps es rs w between → IsCore v
    → AllAreRead v keeps → IsOne v es rs w between
one (carried {v = v} {w = w} {keeps = keeps} {e = e} {r = r} c) core all =
    is_event v w e r (all_left_by (ended_by v e) keeps) c.reply c.state c.core
    (λ i. left_read (ended_by v e) v w (keeps i) c.ends (all i))
one (walked {v = v} {w = w} {keeps = keeps} {e = e} {r = r} c) core all =
    let left = walks_leave_cores v w e r core c in
    is_event v w e r keeps left.0 (ap (λ (u : View). u.state) c.left) left.1.core (all_stay v w keeps left.1.ends all)
one (loaded {v = v} {keeps = keeps} {e = e} {r = r} i c) core all =
    let served = serves_call v (keeps i) e.pid c.frames e.call (all i) c.through in
    is_event v v e r keeps (c.found ∙ sym (kept_answered v c.frames e core served))
    (sym (kept_loads v c.frames e served c.load)) core all
one (stored {v = v} {w = w} {keeps = keeps} {e = e} {r = r} i c) core all =
    let served = serves_call v (keeps i) e.pid c.frames e.call (all i) c.through in
    let left : IsLeft v w = subst (IsLeft v) (sym c.left) (stores_leave_cores v e c.frames core served c.store) in
    is_event v w e r keeps (c.found ∙ sym (kept_answered v c.frames e core served)) (ap (λ (u : View). u.state) c.left) left.core
    (all_stay v w keeps left.ends all)
one (marked {v = v} {w = w} {keeps = keeps} c) core all =
    let left = marks_leave_cores v w core c in
    is_none v w keeps (ap (λ (u : View). u.state) c.left) left.core (all_stay v w keeps left.ends all)
one (refilled {v = v} {keeps = keeps} i k read) core all =
    is_none v v (with_kept keeps i (k ∷ keeps i)) refl core (read_with v keeps i (k ∷ keeps i) all (read, all i))
one (forgotten {v = v} {keeps = keeps} i left among) core all =
    is_none v v (with_kept keeps i left) refl core
    (read_with v keeps i left all (among_read v left (keeps i) among (all i)))

-- ---- All steps

pub all_steps : {v x : View} {keeps last : Processors} {events : List Event} {replies : List Reply}
    → Steps v keeps events replies x last → IsCore v → AllAreRead v keeps → AreTheEvents v events replies x last
all_steps none core all = record { replies = refl; state = refl; core = core; kept = all }
all_steps (first {v = v} {x = x} {es = es} {events = events} {rs = rs} {replies = replies} step more) core all =
    let now = one step core all in
    let later = all_steps more now.core now.kept in
    record {
      replies = ap (λ (l : List Reply). rs ++ l) later.replies ∙ now.replies events;
      state = later.state ∙ now.state events;
      core = later.core;
      kept = later.kept;
    }

pub processors_make_events : ProcessorsMakeEvents
processors_make_events v x keeps last events replies core all steps = all_steps steps core all
