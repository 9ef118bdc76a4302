-- Accesses of any number of bytes, such as those of 8 bytes, and instructions that load and store with nothing between.
use Rattle.std.specs.Prelude.{◌≡◌, ℕ, zero, suc, ◌+◌, ◌<◌, Bool, true, false, List, [], ◌∷◌, ◌++◌, length, slice_index}
use Rattle.page_words.specs.Addresses.{page_number}
use Rattle.table_walk.specs.declared.Access.{Access}
use Rattle.table_walk.specs.declared.Access.TheVariants.{Read, Write}
use Rattle.address_space.specs.Kept.{kept_place, written_at}
use Rattle.address_space.specs.Spaces as spaces
use Rattle.process_table.specs.View.{View}
use Rattle.process_table.specs.State.{State}
use Rattle.kernel_acts.specs.Transfers.{loads, stores}
use Rattle.kernel_calls.specs.Machine.{next, end_of}
use Rattle.kernel_calls.specs.Translations.{is_ended}
use Rattle.kernel_calls.specs.declared.calls.Event.{Event}
use Rattle.kernel_calls.specs.declared.calls.Reply.{Reply}
use Rattle.kernel_calls.specs.declared.calls.Reply.TheVariants as reply
use Rattle.kernel_calls.specs.declared.translations.Ended.{Ended}
use Rattle.shootdowns.specs.Windows.{Acknowledged, Moment, settled, under_way, only_takes}
use Rattle.long_mode_machine.specs.LongMode.{LongMode, Reaches}
use Rattle.long_mode_machine.specs.Moves.{Moves}

-- a processor reaches each of so many bytes from an address on, at the frames of their pages
abbrev pub ReachesBytes : LongMode → ℕ → ℕ → ℕ → ℕ → (ℕ → ℕ) → Access → Type 0
ReachesBytes b i p address count frames access = (k : ℕ) → k < count
    → Reaches b.shadow (b.processors i) p (page_number (address + k)) (frames (page_number (address + k))) access

-- none of their pages was ended, or the processor has invalidated
abbrev pub MayUseBytes : Ended → Bool → ℕ → ℕ → ℕ → Type 0
MayUseBytes x true p address count = Unit {0}
MayUseBytes x false p address count = (k : ℕ) → k < count → is_ended x (spaces.at_page p (page_number (address + k))) ≡ false

-- the bytes that are there
abbrev pub bytes_there : (ℕ → ℕ) → List ℕ → ℕ → ℕ → List ℕ
bytes_there frames bytes address zero = []
bytes_there frames bytes address (suc n) = slice_index bytes (kept_place frames address) ∷ bytes_there frames bytes (address + 1) n

-- each as a value
abbrev pub values_of : List ℕ → List Reply
values_of [] = []
values_of (byte ∷ bytes) = reply.Value byte ∷ values_of bytes

-- Done for each
abbrev pub dones : List ℕ → List Reply
dones [] = []
dones (byte ∷ bytes) = reply.Done ∷ dones bytes

-- each is a byte
abbrev pub AreBytes : List ℕ → Type 0
AreBytes [] = Unit {0}
AreBytes (byte ∷ bytes) = (byte < 256) × AreBytes bytes

-- A load of so many bytes, in any pages, is as many moves next to one another, each the load of a byte. They are made
-- before the point of an event that only takes away, after it, or between windows.
abbrev pub WideLoadsAreMoves : Type 0
WideLoadsAreMoves = (count i : ℕ) (b : LongMode) (p address n : ℕ) (frames : ℕ → ℕ) → i < count → ReachesBytes b i p address n frames Read
    → ((x : Ended) (done : Acknowledged) (e : Event) (r : Reply) (s : State) (w : View) → only_takes e.call ≡ true
    → Moves count (under_way x done e r s w) b (loads p address n) (values_of (bytes_there frames w.bytes address n)) (under_way x done e r s w) b)
    × ((x : Ended) (done : Acknowledged) (v : View) → MayUseBytes x (done i) p address n
    → Moves count (settled x done v) b (loads p address n) (values_of (bytes_there frames v.bytes address n)) (settled x done v) b)

-- memory with these bytes, in the state after these events
abbrev pub after_stores : View → ℕ → (ℕ → ℕ) → ℕ → List ℕ → View
after_stores v p frames address bytes = record v { bytes = written_at frames v.bytes address bytes; state = end_of v.state (stores p address bytes) }

-- So it is with a store of bytes, which writes all of them and nothing else.
abbrev pub WideStoresAreMoves : Type 0
WideStoresAreMoves = (count i : ℕ) (b : LongMode) (p address : ℕ) (bytes : List ℕ) (frames : ℕ → ℕ) → i < count → AreBytes bytes
    → ReachesBytes b i p address (length bytes) frames Write
    → ((x : Ended) (done : Acknowledged) (e : Event) (r : Reply) (s : State) (w : View) → only_takes e.call ≡ true → w.state ≡ next s e
    → Moves count (under_way x done e r s w) b (stores p address bytes) (dones bytes)
    (under_way x done e r (end_of s (stores p address bytes))
    (record w { bytes = written_at frames w.bytes address bytes; state = next (end_of s (stores p address bytes)) e })) b)
    × ((x : Ended) (done : Acknowledged) (v : View) → MayUseBytes x (done i) p address (length bytes)
    → Moves count (settled x done v) b (stores p address bytes) (dones bytes) (settled x done (after_stores v p frames address bytes)) b)

-- Moves that follow one another are next to one another in the order. So an instruction that loads and stores with nothing
-- between, as one with a lock does, is the loads and then the stores.
abbrev pub MovesFollow : Type 0
MovesFollow = (count : ℕ) (m n o : Moment) (b c d : LongMode) (es fs : List Event) (rs qs : List Reply)
    → Moves count m b es rs n c → Moves count n c fs qs o d → Moves count m b (es ++ fs) (rs ++ qs) o d
