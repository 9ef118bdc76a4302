-- A process's memory in and out: the accesses of one byte each that it represents, up to the first that stops.
use Rattle.std.proofs.Common.{◌≡◌, ℕ, zero, suc, ◌+◌, ◌-◌, if◌then◌else◌, ◌&&◌, ◌==◌, List, [], ◌∷◌, ◌++◌, length, drop, map, Option, Some, None}
use Rattle.std.specs.Prelude.{nat_le}
use Rattle.kernel_acts.specs.Below.{Event, Gone, Reply, State, answer, answers, completes, end_of, is_of, next, page_number}
use Rattle.page_words.specs.declared.addresses.Size.TheVariants.{One}
use Rattle.kernel_acts.specs.declared.transfers.Transfer.{Transfer}
use Rattle.kernel_calls.specs.declared.calls.Call.TheVariants as call
use Rattle.kernel_calls.specs.declared.calls.Reply.TheVariants as reply

-- ---- The accesses

-- the load of the byte at an address
abbrev pub load_byte : ℕ → ℕ → Event
load_byte p address = record { cpu = 0; pid = p; call = call.Load address One }

-- a store to the byte at an address
abbrev pub store_byte : ℕ → ℕ → ℕ → Event
store_byte p address value = record { cpu = 0; pid = p; call = call.Store address One value }

-- the loads of so many bytes from an address on, in order
abbrev pub loads : ℕ → ℕ → ℕ → List Event
loads p address zero = []
loads p address (suc n) = load_byte p address ∷ loads p (address + 1) n

-- the stores of these bytes from an address on, in order
abbrev pub stores : ℕ → ℕ → List ℕ → List Event
stores p address [] = []
stores p address (byte ∷ bytes) = store_byte p address byte ∷ stores p (address + 1) bytes

-- ---- Runs that stop

-- the events of a list that are carried out before the first that is refused or faults
abbrev pub carried : State → List Event → List Event
carried s [] = []
carried s (e ∷ events) = if completes (answer s e) then e ∷ carried (next s e) events else []

-- the reply to that first one
abbrev pub stop_of : State → List Event → Option Reply
stop_of s [] = None
stop_of s (e ∷ events) = if completes (answer s e) then stop_of (next s e) events else Some (answer s e)

-- the value that a load returns
abbrev pub value_in : Reply → ℕ
value_in (reply.Value value) = value
value_in _ = 0

-- the values that loads return, in order
abbrev pub values : List Reply → List ℕ
values replies = map value_in replies

-- the walks to the lazy pages of a process in which so many bytes from an address on lie
abbrev pub of_lazy_pages : ℕ → ℕ → ℕ → Gone
of_lazy_pages p address count slot frame =
    (is_of p slot && (nat_le (page_number address) slot.page && nat_le slot.page (page_number (address + count - 1)))) && (frame == 0)

-- ---- Transfers that go on to their end

-- so many bytes from an address on were loaded one after the other, these, which led to this state
pub record AreLoaded (s : State) (p address count : ℕ) (bytes : List ℕ) (later : State) : Type 0 where
  pub all : carried s (loads p address count) ≡ loads p address count
  pub told : values (answers s (loads p address count)) ≡ bytes
  pub after : end_of s (loads p address count) ≡ later

-- these bytes were stored one after the other from an address on, which led to this state
pub record AreStored (s : State) (p address : ℕ) (bytes : List ℕ) (later : State) : Type 0 where
  pub all : carried s (stores p address bytes) ≡ stores p address bytes
  pub after : end_of s (stores p address bytes) ≡ later

-- ---- Transfers up to the access that stops them

-- bytes were loaded over these, from an address on, which led to this state
pub record Reads (s : State) (p address : ℕ) (old new : List ℕ) (made : Transfer) (later : State) : Type 0 where
  pub count : made.count ≡ length (carried s (loads p address (length old)))
  pub stop : made.stop ≡ stop_of s (loads p address (length old))
  pub bytes : new ≡ values (answers s (carried s (loads p address (length old)))) ++ drop made.count old
  pub state : later ≡ end_of s (carried s (loads p address (length old)))

-- these bytes were stored from an address on, which led to this state
pub record Writes (s : State) (p address : ℕ) (bytes : List ℕ) (made : Transfer) (later : State) : Type 0 where
  pub count : made.count ≡ length (carried s (stores p address bytes))
  pub stop : made.stop ≡ stop_of s (stores p address bytes)
  pub state : later ≡ end_of s (carried s (stores p address bytes))
