-- The other slots of a slot's group, and their Unmaps.
use Rattle.std.proofs.Common.{◌≡◌, ℕ, ◌+◌, ◌*◌, ◌≤◌, Bool, true, not, ◌&&◌, List, map, length, Some}
use Rattle.std.specs.List.{All, list_any}
use Rattle.std.specs.Option.{option_map}
use Rattle.kernel_acts.specs.Below.{CarriesOut, EndAlong, Ended, Event, Slot, State, View, answers, at_page, cell_or_fresh, end_of, ended_by, frame_bytes, is_mapped, is_slot, memory_of, way_of, without}
use Rattle.page_words.specs.FiniteMap as map
use Rattle.kernel_acts.specs.Acts.{all_done, ungrouped}
use Rattle.kernel_calls.specs.Integrity.{shares}
use Rattle.kernel_calls.specs.declared.calls.Call.TheVariants as call
use Rattle.kernel_acts.specs.declared.taking.Holder.{Holder}
use Rattle.kernel_calls.specs.declared.translations.Ended.TheVariants as end

-- a page leads to a frame: it is mapped, and the frame lies in memory and has its bytes
pub record Leads (v : View) (p page frame : ℕ) : Type 0 where
  pub way : (directory : ℕ) × (way_of (memory_of v) (at_page p page) ≡ Some (directory, frame))
  pub mapped : is_mapped v.state (at_page p page) ≡ true
  pub inside : 4096 * frame + 4096 ≤ length v.bytes
  pub bytes : frame_bytes v.bytes frame ≡ (cell_or_fresh v.state.spaces (at_page p page)).bytes

-- the Unmap of a slot
abbrev pub unmap_of : Holder → Event
unmap_of h = record { cpu = 0; pid = h.pid; call = call.Unmap h.page }

-- the Unmaps of these slots, in order
abbrev pub unmaps : List Holder → List Event
unmaps holders = map unmap_of holders

-- the translations of these slots
abbrev pub pages_of_all : List Holder → List Ended
pages_of_all holders = map (λ (h : Holder). end.Page h.pid h.page) holders

-- a slot is another than a slot, and is in its group
abbrev pub is_beside : State → Slot → Slot → Bool
is_beside s slot other = not (is_slot slot.pid slot.page other) && shares s slot other

-- a slot is one of these
abbrev pub is_held : List Holder → Slot → Bool
is_held holders slot = list_any (λ (h : Holder). is_slot h.pid h.page slot) holders

-- the state without these slots and their offers
abbrev pub without_slots : State → (Slot → Bool) → State
without_slots s gone = record s {
  spaces = without s.spaces gone;
  offers = map.retain_keys s.offers (λ key. not (gone (at_page key.offerer key.page)));
}

-- these slots, each another one of the group, were unmapped in this order, which led from s to t
pub record TakesBack (s : State) (own : Slot) (holders : List Holder) (t : State) : Type 0 where
  pub beside : All (λ (h : Holder). is_beside s own (at_page h.pid h.page) ≡ true) holders
  -- the run of their Unmaps, of which each is done
  pub done : answers s (unmaps holders) ≡ all_done (unmaps holders)
  pub after : end_of s (unmaps holders) ≡ t
  -- it leaves the state without them
  pub left : t ≡ without_slots s (is_held holders)
  -- the slot itself has its flags and its bytes
  pub kept : option_map ungrouped (map.get t.spaces own) ≡ option_map ungrouped (map.get s.spaces own)

-- the Unmap of another slot of the group, and what it ends
pub record Unmapped (w u : View) (own : Slot) (h : Holder) : Type 0 where
  pub beside : is_beside w.state own (at_page h.pid h.page) ≡ true
  pub ended : end.Page h.pid h.page ≡ ended_by w (unmap_of h)
  pub carried : CarriesOut w (unmap_of h) u

-- and so from one view to another, with what each of them ended
pub record Taking (v w : View) (own : Slot) (holders : List Holder) : Type 0 where
  pub taken : TakesBack v.state own holders w.state
  pub along : EndAlong (unmaps holders) (pages_of_all holders) v w
