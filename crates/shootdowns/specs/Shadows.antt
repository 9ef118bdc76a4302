-- Windows in which nobody refills and nobody walks: what is kept is then used also while an event gives lazy pages
-- frames. So it is where processors walk tables of the kernel's own, which it fills outside windows.
use Rattle.std.specs.Prelude.{◌≡◌, ℕ, true, List, [], ◌∷◌}
use Rattle.page_words.specs.Addresses.{EachTouched}
use Rattle.address_space.specs.Image.{is_lazy_at}
use Rattle.address_space.specs.Spaces.{at_page}
use Rattle.process_table.specs.Image.{memory_of}
use Rattle.process_table.specs.View.{View}
use Rattle.kernel_calls.specs.Machine.{answers, next, end_of}
use Rattle.kernel_calls.specs.Processors.{IsCore, Processors, AllAreRead, IsLoaded}
use Rattle.kernel_calls.specs.declared.calls.Call.{Call}
use Rattle.kernel_calls.specs.declared.calls.Call.TheVariants as call
use Rattle.kernel_calls.specs.declared.calls.Event.{Event}
use Rattle.kernel_calls.specs.declared.calls.Reply.{Reply}
use Rattle.shootdowns.specs.Windows.{Begins, IsStale}

-- a call gives lazy pages frames and changes none of their bytes: it stores zeros, to lazy pages alone, or accepts one
abbrev pub LeavesZeros : View → ℕ → Call → Type 0
LeavesZeros v p (call.Store addr size value) = (value ≡ 0) × EachTouched addr size (λ page. is_lazy_at (memory_of v) (at_page p page) ≡ true)
LeavesZeros v p (call.Accept giver giver_page page) = is_lazy_at (memory_of v) (at_page giver giver_page) ≡ true
LeavesZeros v p _ = ⊥

-- loads and stores by what processors keep, one after another, from a memory to a memory; nobody begins to keep more
pub data Uses (keeps : Processors) : View → List Event → List Reply → View → Type 0 where
  none : {u : View} → Uses keeps u [] [] u
  loaded : {u x : View} {a : Event} {q : Reply} {events : List Event} {replies : List Reply} (i : ℕ) → IsLoaded (keeps i) u a q
      → Uses keeps u events replies x → Uses keeps u (a ∷ events) (q ∷ replies) x
  stored : {u x : View} {a : Event} {q : Reply} {bytes : List ℕ} {events : List Event} {replies : List Reply} (i : ℕ)
      → IsStale (keeps i) u a q bytes → Uses keeps (record u { bytes = bytes; state = next u.state a }) events replies x
      → Uses keeps u (a ∷ events) (q ∷ replies) x

-- replies and values are the answers to such accesses after an event, and memory is a core's in the state after them
pub record ComeAfter (w : View) (events : List Event) (told : List Reply) (x : View) : Type 0 where
  pub replies : told ≡ answers w.state events
  pub state : x.state ≡ end_of w.state events
  pub core : IsCore x

-- Suppose that walks read all that was kept before the event, and that it gives lazy pages frames and leaves their zeros.
-- It comes first in the order, and then the accesses as they are made. Those by what it ended read the zeros that the
-- pages have.
abbrev pub UsesComeAfterZeros : Type 0
UsesComeAfterZeros = (v w x : View) (keeps : Processors) (e : Event) (r : Reply) (events : List Event) (replies : List Reply) → IsCore v
    → AllAreRead v keeps → Begins v e r w → LeavesZeros v e.pid e.call → Uses keeps w events replies x → ComeAfter w events replies x
