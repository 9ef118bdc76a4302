-- Dirty and accessed of a slot: which slots have them, and what clearing them would change.
use Rattle.std.specs.Prelude.{◌≡◌, ℕ, Bool, true, false, Some, unwrap_or, option_map}
use Rattle.kernel_calls.specs.Below.{Slot, Cell, cell_or_fresh, memory_of, State, View}
use Rattle.kernel_calls.specs.Translations.{TranslationsStay, SlotsStay, DirectoriesStay, TablesStay, TablesMap, Ends, is_ended}
use Rattle.kernel_calls.specs.declared.calls.Event.{Event}
use Rattle.kernel_calls.specs.declared.translations.Ended.{Ended}
use Rattle.page_words.specs.FiniteMap as map
use Rattle.kernel_calls.specs.declared.calls.Call.TheVariants as call

-- the Info of a page
abbrev pub info_of_page : ℕ → ℕ → Event
info_of_page p page = record { cpu = 0; pid = p; call = call.Info page }

-- whether dirty of a slot is set; a slot that is not mapped has none
abbrev pub is_dirty_at : State → Slot → Bool
is_dirty_at s slot = unwrap_or (option_map (λ (c : Cell). c.dirty) (map.get s.spaces slot)) false

-- the state with accessed and dirty of a slot clear
abbrev pub cleaned : State → Slot → State
cleaned s slot = record s { spaces = map.insert s.spaces slot (record (cell_or_fresh s.spaces slot) { accessed = false; dirty = false }) }

-- ---- What clearing them leaves

-- what a change leaves of the translations that processors keep, as `Ends` says it, except the marks of slots that are
-- ended
pub record EndsMarks (ended : Ended) (v w : View) : Type 0 where
  pub translations : TranslationsStay ended (memory_of v) (memory_of w)
  pub slots : SlotsStay ended v.state w.state
  pub flags : (slot : Slot) (c d : Cell) → is_ended ended slot ≡ false → map.get v.state.spaces slot ≡ Some c → map.get w.state.spaces slot ≡ Some d
      → (c.accessed ≡ true → d.accessed ≡ true) × (c.dirty ≡ true → d.dirty ≡ true)
  pub directories : DirectoriesStay ended (memory_of v) (memory_of w)
  pub tables : TablesStay ended v w
  pub linked : TablesMap v

-- each event is such a change, and after one all that is kept and isn't invalidated is what the walks read
abbrev pub EventsEndMarks : Type 0
EventsEndMarks = (ended : Ended) (v w : View) → Ends ended v w → EndsMarks ended v w

-- ---- What it breaks
