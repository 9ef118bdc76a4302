-- What runs of events write of memory: only what was free, and what is of the processes whose events they are.
use Rattle.std.specs.Prelude.{◌≡◌, ◌≢◌, ◌⊎◌, ℕ, Bool, true, List, [], ◌∷◌, Option, Some, slice_get}
use Rattle.alloc_table.specs.declared.Role.{Role}
use Rattle.alloc_table.specs.declared.Role.TheVariants.{Free, Page}
use Rattle.kernel_calls.specs.Along.{EndAlong, EndsInOrder}
use Rattle.kernel_calls.specs.Processors.{IsCore}
use Rattle.kernel_calls.specs.Written.{IsOf, StandsAsBefore}
use Rattle.kernel_calls.specs.declared.calls.Event.{Event}
use Rattle.kernel_calls.specs.declared.translations.Ended.{Ended}
use Rattle.process_table.specs.Image.{memory_of}
use Rattle.process_table.specs.View.{View}
use Rattle.kernel_calls.specs.declared.calls.Call.TheVariants as call

-- the event is of one of these processes, and no Accept, which may take a lazy page of another
pub record IsOwn (own : ℕ → Bool) (e : Event) : Type 0 where
  pub mine : own e.pid ≡ true
  pub takes_none : (giver giver_page page : ℕ) → e.call ≢ call.Accept giver giver_page page

-- so are all of these
abbrev pub AreOwn : (ℕ → Bool) → List Event → Type 0
AreOwn own [] = Unit {0}
AreOwn own (e ∷ events) = IsOwn own e × AreOwn own events

-- what such a run may write: a frame that is free before it, or is of one of these processes
abbrev pub MayWriteAlong : View → (ℕ → Bool) → ℕ → Type 0
MayWriteAlong v own f = (slice_get v.roles f ≡ Some Free) ⊎ ((p : ℕ) × (own p ≡ true) × IsOf (memory_of v) p f)

-- a frame serves as it did: with the same role, except for the number of a page's slots
abbrev pub ServesAlike : Option Role → Option Role → Type 0
ServesAlike (Some (Page c)) after = (d : ℕ) × (after ≡ Some (Page d))
ServesAlike before after = after ≡ before

-- what such a run leaves of a frame that it may not write: all in it stands as before, and it serves as it did. It is
-- still neither free nor of one of these processes
pub record Leaves (v w : View) (own : ℕ → Bool) (f : ℕ) : Type 0 where
  pub stands : StandsAsBefore v w f (slice_get v.roles f)
  pub serves : ServesAlike (slice_get v.roles f) (slice_get w.roles f)
  pub stays : MayWriteAlong w own f → ⊥

-- so of each such frame
abbrev pub WriteTheirOwn : View → View → (ℕ → Bool) → Type 0
WriteTheirOwn v w own = (f : ℕ) → (MayWriteAlong v own f → ⊥) → Leaves v w own f

-- the law, of one event and of runs
abbrev pub RunsWriteTheirOwn : Type 0
RunsWriteTheirOwn = (v w : View) (own : ℕ → Bool) (events : List Event) → IsCore v → AreOwn own events → EndsInOrder events v w → WriteTheirOwn v w own

-- and of acts that are runs, such as `end_family` and `take_back`
abbrev pub ActsWriteTheirOwn : Type 0
ActsWriteTheirOwn = (v w : View) (own : ℕ → Bool) (events : List Event) (ended : List Ended) → IsCore v → AreOwn own events → EndAlong events ended v w → WriteTheirOwn v w own

-- two changes that leave others so leave them so together, and no change does
pub record LeavingComposes : Type 0 where
  pub none : (v : View) (own : ℕ → Bool) → WriteTheirOwn v v own
  pub both : (v u w : View) (own : ℕ → Bool) → WriteTheirOwn v u own → WriteTheirOwn u w own → WriteTheirOwn v w own
