-- What stands at each moment of a window, and what a step makes of what comes after it.
use Rattle.shootdowns.proofs.Prelude.{◌≡◌, ℕ, true, List, [], ◌∷◌, ◌++◌, length, ap, Some, ◌⊎◌, slice_get, frame_number, Free, Page, directory_at, table_at, page_word, Slot, memory_of, State, View, IsWellFormed, answer, answers, next, end_of, IsCore, Processors, AllAreRead, Event, Reply, Ended, only_takes, Acknowledged, Moment, settled, under_way, state_of, Stands}
use Rattle.shootdowns.proofs.Accesses.{frame_at}
use Rattle.shootdowns.proofs.Alike.{Alike, with_state}
use Rattle.shootdowns.proofs.Filled.{filled_state}

-- An event under way only takes away. The order's state is that when it began but for bytes and flags, and its cells
-- have the bytes that memory has now in their frames then.
pub record Behind (v : View) (e : Event) (s : State) (w : View) : Type 0 where
  pub before : IsCore v
  pub well : IsWellFormed s
  pub alike : Alike v.state s
  pub state : s ≡ filled_state (frame_at v) w.bytes s
  pub names : (slot : Slot) (word : ℕ) → page_word (memory_of w) slot ≡ Some word → frame_at v slot ≡ frame_number word
  pub homes : (slot : Slot) (word d : ℕ) → page_word (memory_of w) slot ≡ Some word → directory_at (memory_of w) slot.pid ≡ Some d → directory_at (memory_of v) slot.pid ≡ Some d
  pub tables : (p region t : ℕ) → table_at (memory_of w) p region ≡ Some t → table_at (memory_of v) p region ≡ Some t
  pub pages : (f c : ℕ) → slice_get v.roles f ≡ Some (Page c) → (slice_get w.roles f ≡ Some Free) ⊎ ((d : ℕ) × (slice_get w.roles f ≡ Some (Page d)))
  pub long : length w.bytes ≡ length v.bytes

-- and all that is kept was read then, with the flags of now
pub record Taken (v : View) (e : Event) (s : State) (w : View) (keeps : Processors) : Type 0 where
  pub behind : Behind v e s w
  pub open behind use *
  pub read : AllAreRead (with_state v s) keeps

-- and so it stands
pub record Going (x : Ended) (done : Acknowledged) (e : Event) (r : Reply) (s : State) (w : View) (keeps : Processors) (v : View) : Type 0 where
  pub stands : Stands (under_way x done e r s w) keeps
  pub taken : Taken v e s w keeps

-- what holds at each moment
abbrev pub IsTaken : Moment → Processors → Type 0
IsTaken (settled x done w) keeps = Unit {0}
IsTaken (under_way x done e r s w) keeps = only_takes e.call ≡ true → (v : View) × Taken v e s w keeps

pub record Good (m : Moment) (keeps : Processors) : Type 0 where
  pub stands : Stands m keeps
  pub taken : IsTaken m keeps

-- what a step makes of whatever comes after it
pub record IsOne (m : Moment) (es : List Event) (rs : List Reply) (n : Moment) (between : Processors) : Type 0 where
  pub replies : (events : List Event) → rs ++ answers (state_of n) events ≡ answers (state_of m) (es ++ events)
  pub state : (events : List Event) → end_of (state_of n) events ≡ end_of (state_of m) (es ++ events)
  pub good : Good n between

pub is_event : (m n : Moment) (e : Event) (r : Reply) (between : Processors) → r ≡ answer (state_of m) e → state_of n ≡ next (state_of m) e
    → Good n between → IsOne m (e ∷ []) (r ∷ []) n between
is_event m n e r between same state good = record {
  replies = λ events i. same i ∷ answers (state i) events;
  state = λ events. ap (λ (s : State). end_of s events) state;
  good = good;
}

pub is_none : (m n : Moment) (between : Processors) → state_of n ≡ state_of m → Good n between → IsOne m [] [] n between
is_none m n between state good = record {
  replies = λ events. ap (λ (s : State). answers s events) state;
  state = λ events. ap (λ (s : State). end_of s events) state;
  good = good;
}
