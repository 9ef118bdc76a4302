-- An access and an event of another process, if neither shows to the other: the order makes no difference.
use Rattle.std.specs.Prelude.{◌≡◌, ◌≢◌, ℕ, ◌==◌, Bool, true, false}
use Rattle.process_table.specs.State.{State}
use Rattle.process_table.specs.WellFormed.{IsWellFormed}
use Rattle.authority_laws.specs.Authority.{IsQuiet, HaveTheSame}
use Rattle.kernel_calls.specs.Machine.{answer, next}
use Rattle.kernel_calls.specs.declared.calls.Call.{Call}
use Rattle.kernel_calls.specs.declared.calls.Event.{Event}
use Rattle.kernel_calls.specs.declared.calls.Call.TheVariants as call

-- one process alone
abbrev pub only : ℕ → ℕ → Bool
only p q = q == p

-- a load or a store
abbrev pub is_access : Call → Bool
is_access (call.Load addr size) = true
is_access (call.Store addr size value) = true
is_access _ = false

-- o is a load or a store of another process, in pages that the event's process doesn't see. The event uses no channel
-- to that process: it touches no page that the process sees, takes none of its offers, and is no exit of its kin.
pub record AreBeside (s : State) (e o : Event) : Type 0 where
  pub another : o.pid ≢ e.pid
  pub access : is_access o.call ≡ true
  pub unseen : IsQuiet s (only e.pid) o
  pub unheard : IsQuiet s (only o.pid) e

-- each then gets the same reply in either order, and has what it had after the other
pub record InEitherOrder (s : State) (e o : Event) : Type 0 where
  pub event : answer (next s o) e ≡ answer s e
  pub access : answer (next s e) o ≡ answer s o
  pub event_has : HaveTheSame s (next s o) (only e.pid)
  pub access_has : HaveTheSame s (next s e) (only o.pid)

-- the law: such an access and event have the same outcome in either order
abbrev pub AccessesBeside : Type 0
AccessesBeside = (s : State) (e o : Event) → IsWellFormed s → AreBeside s e o → InEitherOrder s e o

-- both orders end in one state
abbrev pub OrdersEndTheSame : Type 0
OrdersEndTheSame = (s : State) (e o : Event) → IsWellFormed s → AreBeside s e o → next (next s o) e ≡ next (next s e) o
