-- What clearing accessed and dirty of a slot would change.
use Rattle.std.proofs.Common.{◌≡◌, ◌≢◌, ℕ, Bool, true, false, List, Some}
use Rattle.address_space.specs.Spaces.{Slot, Cell}
use Rattle.process_table.specs.State.{State, is_mapped}
use Rattle.process_table.specs.View.{View}
use Rattle.process_table.specs.WellFormed.{IsWellFormed}
use Rattle.authority_laws.specs.Authority.{LooksSame}
use Rattle.kernel_calls.specs.Machine.{answer}
use Rattle.kernel_calls.specs.Translations.{Ends, Kept, Keeping, AreRead, left_by}
use Rattle.kernel_calls.specs.declared.translations.Ended.{Ended}
use Rattle.kernel_calls.specs.Cleaned.{EndsMarks, cleaned, info_of_page}
use Rattle.page_words.specs.FiniteMap as map

-- it leaves states well formed
abbrev pub CleaningKeepsStates : Type 0
CleaningKeepsStates = (s : State) (slot : Slot) → IsWellFormed s → is_mapped s slot ≡ true → IsWellFormed (cleaned s slot)

-- members of a set see nothing of it, unless the slot is a member's own
abbrev pub CleaningIsUnseen : Type 0
CleaningIsUnseen = (s : State) (slot : Slot) (Q : ℕ → Bool) → is_mapped s slot ≡ true → Q slot.pid ≡ false → LooksSame s (cleaned s slot) Q

-- what is kept stays read through a change of marks
abbrev pub KeptThroughMarks : Type 0
KeptThroughMarks = (ended : Ended) (v w : View) (kept : List Kept) → EndsMarks ended v w → AreRead v kept → AreRead w (left_by ended kept)

-- where changes are events or clear marks of slots that they end, too, all that is kept is what the walks of the last
-- moment read
abbrev pub KeptAmongMarks : Type 0
KeptAmongMarks = (v x : View) (kept last : List Kept) → Keeping EndsMarks v kept x last → AreRead v kept → AreRead x last

-- of a slot that was accessed it is what no event does, whatever that ends
abbrev pub CleaningIsNoEvent : Type 0
CleaningIsNoEvent = (s : State) (slot : Slot) (cell : Cell) (ended : Ended) (v w : View) → map.get s.spaces slot ≡ Some cell → cell.accessed ≡ true
    → v.state ≡ s → w.state ≡ cleaned s slot → Ends ended v w → ⊥

-- an Info of its own process shows it
abbrev pub CleaningShows : Type 0
CleaningShows = (s : State) (p page : ℕ) (cell : Cell) → IsWellFormed s → map.get s.spaces (record { pid = p; page = page }) ≡ Some cell → cell.accessed ≡ true
    → answer (cleaned s (record { pid = p; page = page })) (info_of_page p page) ≢ answer s (info_of_page p page)
