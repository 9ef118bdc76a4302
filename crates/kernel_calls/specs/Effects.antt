-- The reply and the effects of each call that completes, and the calls that events of others can refuse.
use Rattle.std.specs.Prelude.{◌≡◌, ℕ, ◌+◌, ◌<◌, ◌≤◌, true, false, map, Some, ◌⊎◌}
use Rattle.kernel_calls.specs.Below.{page_number, offset_number, byte_count, covered, Size, Slot, at_page, slot_at, value_of, Container, State, is_mapped, container_of}
use Rattle.kernel_calls.specs.Integrity.{Flags, flags_at, byte_in, shares, Shown, shown_at}
use Rattle.kernel_calls.specs.Machine.{answer, next, completes}
use Rattle.kernel_calls.specs.declared.calls.Call.{Call}
use Rattle.kernel_calls.specs.declared.calls.Event.{Event}
use Rattle.kernel_calls.specs.declared.calls.Reply.{Reply}
use Rattle.page_words.specs.FiniteMap as map
use Rattle.kernel_calls.specs.declared.calls.Call.TheVariants as call
use Rattle.kernel_calls.specs.declared.calls.Reply.TheVariants as reply

-- ---- Replies

-- the reply to a call that completes; a Load gets the number of the bytes in its slots, 0 for a page that is not mapped
abbrev pub Tells : State → ℕ → Call → Reply → Type 0
Tells s p (call.Load address size) r =
    r ≡ reply.Value (value_of (map (λ a. byte_in s (slot_at p a) (offset_number a)) (covered address size)))
Tells s p (call.Info page) r = (f : Flags) × (x : Shown) × (flags_at s (at_page p page) ≡ Some f)
    × (shown_at s (at_page p page) ≡ Some x) × (r ≡ reply.Info f.write f.may f.accessed f.dirty x.holders)
Tells s p (call.Spawn _) r = (child : ℕ) × (r ≡ reply.Child child)
Tells s p (call.Fork _) r = (child : ℕ) × (r ≡ reply.Child child)
Tells s p call.Quota r =
    (c : Container) × (container_of s p ≡ Some c) × (r ≡ reply.Quota c.quota c.used c.given)
Tells s p _ r = r ≡ reply.Done

-- a call that completes gets a reply of its kind
abbrev pub CompletesByKind : Type 0
CompletesByKind = (s : State) (e : Event) → completes (answer s e) ≡ true → Tells s e.pid e.call (answer s e)

-- ---- Effects

-- the access covers this byte
abbrev pub IsCovered : ℕ → Size → ℕ → Type 0
IsCovered address size byte = (address ≤ byte) × (byte < address + byte_count size)

-- the slot is in no group with another
abbrev pub IsAlone : State → Slot → Type 0
IsAlone t slot = (other : Slot) → shares t slot other ≡ true → other ≡ slot

-- the pages that a call can map for its process
abbrev pub Maps : Call → ℕ → Type 0
Maps (call.Load address size) page = (a : ℕ) × IsCovered address size a × (page_number a ≡ page)
Maps (call.Store address size _) page = (a : ℕ) × IsCovered address size a × (page_number a ≡ page)
Maps (call.Map own _) page = own ≡ page
Maps (call.Accept _ _ own) page = own ≡ page
Maps _ page = ⊥

-- a slot becomes mapped only if a call maps it for its process, or if it is of a new child
abbrev pub SlotsCome : Type 0
SlotsCome = (s : State) (e : Event) (slot : Slot) → is_mapped s slot ≡ false → is_mapped (next s e) slot ≡ true
    → ((slot.pid ≡ e.pid) × Maps e.call slot.page) ⊎ (answer s e ≡ reply.Child slot.pid)

-- ---- Availability
