-- Runs of events that a core carries out: what each leaves, one after another.
use Rattle.std.specs.Prelude.{◌≡◌, List, [], ◌∷◌}
use Rattle.kernel_calls.specs.Below.{View}
use Rattle.kernel_calls.specs.Machine.{next}
use Rattle.kernel_calls.specs.Processors.{IsCore}
use Rattle.kernel_calls.specs.Translations.{Kept, AreRead, Ends, ended_by, left_by_all}
use Rattle.kernel_calls.specs.Written.{WritesItsOwn}
use Rattle.kernel_calls.specs.declared.calls.Event.{Event}
use Rattle.kernel_calls.specs.declared.translations.Ended.{Ended}

-- the core carries out an event: memory is a core's in the next state, the event ended what `ended_by` says, and it wrote
-- only what it may write
pub record CarriesOut (v : View) (e : Event) (w : View) : Type 0 where
  pub state : w.state ≡ next v.state e
  pub ends : Ends (ended_by v e) v w
  pub core : IsCore w
  pub writes : WritesItsOwn v w e

-- events that were carried out one after another, and what each of them ended
abbrev pub EndAlong : List Event → List Ended → View → View → Type 0
EndAlong [] [] v w = v ≡ w
EndAlong (e ∷ events) (x ∷ ended) v w = (u : View) × (x ≡ ended_by v e) × CarriesOut v e u × EndAlong events ended u w
EndAlong [] (x ∷ ended) v w = ⊥
EndAlong (e ∷ events) [] v w = ⊥

-- each of these events was carried out, one after another
abbrev pub EndsInOrder : List Event → View → View → Type 0
EndsInOrder [] v w = v ≡ w
EndsInOrder (e ∷ events) v w = (u : View) × CarriesOut v e u × EndsInOrder events u w

-- what was read before a run, and was ended by none of its events, is read after it
abbrev pub KeptThroughRuns : Type 0
KeptThroughRuns = (v w : View) (events : List Event) (ended : List Ended) (kept : List Kept) → EndAlong events ended v w
    → AreRead v kept → AreRead w (left_by_all ended kept)
