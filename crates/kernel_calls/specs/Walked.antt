-- Events that a processor carries out by itself: its walks find a frame for each page of a load or a store.
use Rattle.std.specs.Prelude.{ℕ, Bool, false, List}
use Rattle.kernel_calls.specs.Below.{second_page, byte_count, finds, number_found, after_walked_load, after_walked_store, bytes_of, memory_of, View, Read, Write}
use Rattle.kernel_calls.specs.declared.calls.Call.{Call}
use Rattle.kernel_calls.specs.declared.calls.Event.{Event}
use Rattle.kernel_calls.specs.declared.calls.Reply.{Reply}
use Rattle.kernel_calls.specs.declared.calls.Call.TheVariants as call
use Rattle.kernel_calls.specs.declared.calls.Reply.TheVariants as reply

-- the event is a load or a store whose walks find a frame for each page that it touches
abbrev pub finds_call : View → ℕ → Call → Bool
finds_call v p (call.Load addr size) = finds (memory_of v) p addr size Read
finds_call v p (call.Store addr size value) = finds (memory_of v) p addr size Write
finds_call v p _ = false

-- whether a processor's walks find all that an event accesses
abbrev pub finds_event : View → Event → Bool
finds_event v e = finds_call v e.pid e.call

-- what stands where the walks lead: for a load the number that stands there
abbrev pub reply_found : List ℕ → ℕ → Call → Reply
reply_found bytes directory (call.Load addr size) = reply.Value (number_found bytes directory addr size)
reply_found bytes directory _ = reply.Done

-- memory afterwards: marked, and for a store with its bytes written where the walks lead
abbrev pub bytes_accessed : List ℕ → ℕ → Call → List ℕ
bytes_accessed bytes directory (call.Load addr size) = after_walked_load bytes directory addr (second_page addr size)
bytes_accessed bytes directory (call.Store addr size value) = after_walked_store bytes directory addr (bytes_of (byte_count size) value)
bytes_accessed bytes directory _ = bytes
