-- Bytes that the kernel puts into one page of a process, whatever right the process has there.
use Rattle.std.proofs.Common.{◌≡◌, ℕ, Bool, true, false, if◌then◌else◌, List, [], ◌∷◌, ◌++◌, unwrap_or}
use Rattle.std.specs.Option.{option_map}
use Rattle.kernel_acts.specs.Below.{Cell, Event, Reply, Slot, State, View, after_protect, after_stores, answer, at_page, completes, end_of, ended_by, is_mapped, next, page_number}
use Rattle.page_words.specs.FiniteMap as map
use Rattle.kernel_acts.specs.Transfers.{stores, carried}
use Rattle.kernel_calls.specs.declared.calls.Call.TheVariants as call
use Rattle.kernel_calls.specs.declared.translations.Ended.TheVariants as end

-- the Map and the Protect of a page
abbrev pub map_of : ℕ → ℕ → Bool → Event
map_of p page write = record { cpu = 0; pid = p; call = call.Map page write }

-- a Protect of process p's page
abbrev pub protect_of : ℕ → ℕ → Bool → Event
protect_of p page write = record { cpu = 0; pid = p; call = call.Protect page write }

-- a slot is mapped, with the right to write
abbrev pub is_writable_at : State → Slot → Bool
is_writable_at s slot = unwrap_or (option_map (λ (c : Cell). c.write) (map.get s.spaces slot)) false

-- what makes a page writable, where it isn't: a Map, or a Protect where it is mapped
abbrev pub opening : State → ℕ → ℕ → List Event
opening s p page =
    if is_writable_at s (at_page p page) then [] else
    if is_mapped s (at_page p page) then protect_of p page true ∷ [] else
    map_of p page true ∷ []

-- what takes the right to write from a page that is not to have it
abbrev pub closing : ℕ → ℕ → Bool → List Event
closing p page write = if write then [] else protect_of p page false ∷ []

-- the bytes are stored one after the other, and the page gets the right that it is to have
abbrev pub store_run : ℕ → ℕ → List ℕ → Bool → List Event
store_run p address bytes write = stores p address bytes ++ closing p (page_number address) write

-- the page is made writable before
abbrev pub install_run : State → ℕ → ℕ → List ℕ → Bool → List Event
install_run s p address bytes write = opening s p (page_number address) ++ store_run p address bytes write

-- these events, of which none is refused or faults, lead from s to t
pub record IsRunTo (s : State) (events : List Event) (t : State) : Type 0 where
  pub all : carried s events ≡ events
  pub after : end_of s events ≡ t

-- the run of an install leads from s to t
abbrev pub Installs : State → ℕ → ℕ → List ℕ → Bool → State → Type 0
Installs s p address bytes write t = IsRunTo s (install_run s p address bytes write) t

-- the event that was to make the page writable got this reply, which is a refusal
pub record IsNotOpened (s : State) (p page : ℕ) (told : Reply) : Type 0 where
  pub event : Event
  pub first : opening s p page ≡ event ∷ []
  pub reply : told ≡ answer s event
  pub stops : completes told ≡ false

-- the event that makes the page writable, which makes no translation stale
pub record IsOpening (s : State) (p page : ℕ) (event : Event) : Type 0 where
  pub first : opening s p page ≡ event ∷ []
  pub after : completes (answer s event) ≡ true → next s event ≡ after_protect s p page true
  pub ends : (v : View) → ended_by v event ≡ end.Nothing

-- the page was made writable, which led from s to t: it is mapped, with the right to write
pub record IsOpened (s : State) (p page : ℕ) (t : State) : Type 0 where
  pub run : IsRunTo s (opening s p page) t
  pub state : t ≡ after_protect s p page true

-- the state in which a page has its right to write, or has it no longer
abbrev pub closed : State → ℕ → ℕ → Bool → State
closed s p page write = if write then s else after_protect s p page false

-- the state after an install
abbrev pub installed : State → ℕ → ℕ → List ℕ → Bool → State
installed s p address bytes write =
    closed (after_stores (after_protect s p (page_number address) true) p address bytes) p (page_number address) write
