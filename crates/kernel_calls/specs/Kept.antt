-- Accesses that a processor makes by translations that it kept.
use Rattle.std.specs.Prelude.{◌≡◌, ℕ, true, List, Some}
use Rattle.kernel_calls.specs.Below.{byte_count, EachTouched, Access, Read, Write, directory_at, is_marked, number_at, written_at, at_page, bytes_of, memory_of, State, View}
use Rattle.kernel_calls.specs.Machine.{next}
use Rattle.kernel_calls.specs.Translations.{Translation, IsGiven}
use Rattle.kernel_calls.specs.Walked.{finds_event, reply_found}
use Rattle.kernel_calls.specs.declared.calls.Call.{Call}
use Rattle.kernel_calls.specs.declared.calls.Event.{Event}
use Rattle.kernel_calls.specs.declared.calls.Reply.{Reply}
use Rattle.kernel_calls.specs.declared.calls.Call.TheVariants as call
use Rattle.kernel_calls.specs.declared.calls.Reply.TheVariants as reply

-- a translation is kept that serves an access to a page: the walks give it still, and for a write it lets writes
-- through and dirty is set
pub record Serves (v : View) (p page frame : ℕ) (access : Access) : Type 0 where
  pub kept : Translation
  pub given : IsGiven v kept
  pub of_page : kept.slot ≡ at_page p page
  pub on_frame : kept.frame ≡ frame
  pub written : access ≡ Write → (kept.write ≡ true) × (kept.dirty ≡ true)

-- one serves each page that an event's access touches, on these frames of pages
abbrev pub ServesCall : View → ℕ → (ℕ → ℕ) → Call → Type 0
ServesCall v p frames (call.Load addr size) = EachTouched addr size (λ page. Serves v p page (frames page) Read)
ServesCall v p frames (call.Store addr size value) = EachTouched addr size (λ page. Serves v p page (frames page) Write)
ServesCall v p frames _ = ⊥

-- kept translations serve an event
abbrev pub ServesEvent : View → (ℕ → ℕ) → Event → Type 0
ServesEvent v frames e = ServesCall v e.pid frames e.call

-- the reply to the access there: for a load the number at its bytes
abbrev pub reply_kept : (ℕ → ℕ) → List ℕ → Call → Reply
reply_kept frames bytes (call.Load addr size) = reply.Value (number_at frames bytes addr size)
reply_kept frames bytes _ = reply.Done

-- memory afterwards: for a store with its bytes written, and no other change
abbrev pub bytes_kept : (ℕ → ℕ) → List ℕ → Call → List ℕ
bytes_kept frames bytes (call.Store addr size value) = written_at frames bytes addr (bytes_of (byte_count size) value)
bytes_kept frames bytes _ = bytes

-- accessed and dirty of each page of a store are set already
abbrev pub StoresMarked : State → ℕ → Call → Type 0
StoresMarked s p (call.Store addr size value) = EachTouched addr size (λ page. is_marked s.spaces (at_page p page) ≡ true)
StoresMarked s p _ = ⊥

-- a call is a Load
abbrev pub IsLoad : Call → Type 0
IsLoad (call.Load addr size) = Unit {0}
IsLoad _ = ⊥

-- a call is a Store
abbrev pub IsStore : Call → Type 0
IsStore (call.Store addr size value) = Unit {0}
IsStore _ = ⊥

-- ---- What such an access is

-- the walks find a frame for each page, so that a processor makes the access by itself
abbrev pub KeptFind : Type 0
KeptFind = (v : View) (frames : ℕ → ℕ) (e : Event) → ServesEvent v frames e → finds_event v e ≡ true

-- it finds what stands where the walks lead
abbrev pub KeptReply : Type 0
KeptReply = (v : View) (frames : ℕ → ℕ) (e : Event) (directory : ℕ) → ServesEvent v frames e
    → directory_at (memory_of v) e.pid ≡ Some directory → reply_found v.bytes directory e.call ≡ reply_kept frames v.bytes e.call

-- a load changes nothing: accessed is set already
abbrev pub KeptLoads : Type 0
KeptLoads = (v : View) (frames : ℕ → ℕ) (e : Event) → ServesEvent v frames e → IsLoad e.call → next v.state e ≡ v.state

-- of a store accessed and dirty are set already
abbrev pub KeptStores : Type 0
KeptStores = (v : View) (frames : ℕ → ℕ) (e : Event) → ServesEvent v frames e → IsStore e.call → StoresMarked v.state e.pid e.call
