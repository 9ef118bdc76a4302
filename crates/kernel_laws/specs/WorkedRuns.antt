-- Worked runs of one process, each with the answers that it must give.
use Rattle.std.proofs.Common.{true, false, [], ◌∷◌, ◌≡◌, ℕ, List}
use Rattle.page_words.specs.declared.addresses.Size.TheVariants.{One, Four}
use Rattle.process_table.specs.State.{open_with}
use Rattle.kernel_calls.specs.declared.calls.Call.{Call}
use Rattle.kernel_calls.specs.declared.calls.Event.{Event}
use Rattle.kernel_calls.specs.declared.calls.Reply.{Reply}
use Rattle.kernel_calls.specs.Machine.{answers}
use Rattle.process_table.specs.declared.causes.Cause.TheVariants as cause
use Rattle.kernel_calls.specs.declared.calls.Call.TheVariants as call
use Rattle.kernel_calls.specs.declared.calls.Reply.TheVariants as reply

-- an event from its parts
abbrev pub event : ℕ → ℕ → Call → Event
event cpu p c = record { cpu = cpu; pid = p; call = c }

-- a machine of that many frames gives these answers to these events
abbrev pub Gives : ℕ → List Event → List Reply → Type 0
Gives frames events replies = answers (open_with frames) events ≡ replies

-- no event gives no reply
abbrev pub Empty : Type 0
Empty = Gives 16
    []
    []

-- a page is mapped, stored to and loaded from; it is mapped once, and only the user range is
abbrev pub MapStoreLoad : Type 0
MapStoreLoad = Gives 16
    ((event 0 0 (call.Map 0x40000 true)) ∷
    (event 0 0 (call.Store 0x40000ffc Four 0xdeadbeef)) ∷
    (event 0 0 (call.Load 0x40000ffc Four)) ∷
    (event 0 0 (call.Map 0x40000 false)) ∷
    (event 0 0 (call.Load 0x3ffffffc Four)) ∷
    [])
    (reply.Done ∷
    reply.Done ∷
    (reply.Value 0xdeadbeef) ∷
    (reply.Refused cause.Mapped) ∷
    (reply.Fault 0x3ffffffc 4) ∷
    [])

-- a process that has used its whole quota: its Quota call shows it
abbrev pub OneProcessIsFull : Type 0
OneProcessIsFull = Gives 16
    ((event 0 0 (call.Load 0x40000000 Four)) ∷
    (event 0 0 (call.Load 0x40001000 Four)) ∷
    (event 0 0 (call.Load 0x40002000 Four)) ∷
    (event 0 0 (call.Load 0x40003000 Four)) ∷
    (event 0 0 (call.Load 0x40004000 Four)) ∷
    (event 0 0 (call.Load 0x40005000 Four)) ∷
    (event 0 0 (call.Load 0x40006000 Four)) ∷
    (event 0 0 (call.Load 0x40007000 Four)) ∷
    (event 0 0 (call.Load 0x40008000 Four)) ∷
    (event 0 0 (call.Load 0x40009000 Four)) ∷
    (event 0 0 (call.Load 0x4000a000 Four)) ∷
    (event 0 0 (call.Load 0x4000b000 Four)) ∷
    (event 0 0 (call.Load 0x4000c000 Four)) ∷
    (event 0 0 (call.Load 0x4000d000 Four)) ∷
    (event 0 0 (call.Store 0x40000000 One 0xff)) ∷
    (event 0 1 (call.Load 0x40000000 Four)) ∷
    (event 0 0 (call.Load 0x40000000 Four)) ∷
    (event 0 0 call.Quota) ∷
    [])
    ((reply.Value 0x0) ∷
    (reply.Value 0x0) ∷
    (reply.Value 0x0) ∷
    (reply.Value 0x0) ∷
    (reply.Value 0x0) ∷
    (reply.Value 0x0) ∷
    (reply.Value 0x0) ∷
    (reply.Value 0x0) ∷
    (reply.Value 0x0) ∷
    (reply.Value 0x0) ∷
    (reply.Value 0x0) ∷
    (reply.Value 0x0) ∷
    (reply.Value 0x0) ∷
    (reply.Refused cause.Quota) ∷
    reply.Done ∷
    (reply.Refused cause.NoProcess) ∷
    (reply.Value 0xff) ∷
    (reply.Quota 15 15 0) ∷
    [])

-- an unmapped page comes back as zeros, and a page in a new region needs two
abbrev pub FramesComeBack : Type 0
FramesComeBack = Gives 16
    ((event 0 0 (call.Map 0x40000 true)) ∷
    (event 0 0 (call.Map 0x40001 true)) ∷
    (event 0 0 (call.Map 0x40002 true)) ∷
    (event 0 0 (call.Map 0x40003 true)) ∷
    (event 0 0 (call.Map 0x40004 true)) ∷
    (event 0 0 (call.Map 0x40005 true)) ∷
    (event 0 0 (call.Map 0x40006 true)) ∷
    (event 0 0 (call.Map 0x40007 true)) ∷
    (event 0 0 (call.Map 0x40008 true)) ∷
    (event 0 0 (call.Map 0x40009 true)) ∷
    (event 0 0 (call.Map 0x4000a true)) ∷
    (event 0 0 (call.Map 0x4000b true)) ∷
    (event 0 0 (call.Map 0x4000c true)) ∷
    (event 0 0 (call.Store 0x4000c000 Four 0x5)) ∷
    (event 0 0 (call.Map 0x4000d true)) ∷
    (event 0 0 (call.Unmap 0x4000c)) ∷
    (event 0 0 (call.Map 0x40400 true)) ∷
    (event 0 0 (call.Map 0x4000d true)) ∷
    (event 0 0 (call.Load 0x4000d000 Four)) ∷
    (event 0 0 (call.Unmap 0x4000c)) ∷
    [])
    (reply.Done ∷
    reply.Done ∷
    reply.Done ∷
    reply.Done ∷
    reply.Done ∷
    reply.Done ∷
    reply.Done ∷
    reply.Done ∷
    reply.Done ∷
    reply.Done ∷
    reply.Done ∷
    reply.Done ∷
    reply.Done ∷
    reply.Done ∷
    (reply.Refused cause.Quota) ∷
    reply.Done ∷
    (reply.Refused cause.Quota) ∷
    reply.Done ∷
    (reply.Value 0x0) ∷
    (reply.Refused cause.NotMapped) ∷
    [])

-- the first and last byte of the user range, and their neighbours
abbrev pub UserRangeEdges : Type 0
UserRangeEdges = Gives 16
    ((event 0 0 (call.Load 0x3fffffff One)) ∷
    (event 0 0 (call.Store 0xf0000000 One 0xff)) ∷
    (event 0 0 (call.Load 0xefffffff One)) ∷
    (event 0 0 call.Quota) ∷
    [])
    ((reply.Fault 0x3fffffff 4) ∷
    (reply.Fault 0xf0000000 6) ∷
    (reply.Value 0x0) ∷
    (reply.Quota 15 3 0) ∷
    [])

-- an access to an unmapped page is charged for the page, and once for its table
abbrev pub DemandZero : Type 0
DemandZero = Gives 16
    ((event 0 0 (call.Load 0x40000000 Four)) ∷
    (event 0 0 call.Quota) ∷
    (event 0 0 (call.Load 0x40001000 Four)) ∷
    (event 0 0 call.Quota) ∷
    [])
    ((reply.Value 0x0) ∷
    (reply.Quota 15 3 0) ∷
    (reply.Value 0x0) ∷
    (reply.Quota 15 4 0) ∷
    [])

-- a page in a new region needs two
abbrev pub TableIsCharged : Type 0
TableIsCharged = Gives 16
    ((event 0 0 (call.Spawn 11)) ∷
    (event 0 0 (call.Load 0x40000000 Four)) ∷
    (event 0 0 (call.Load 0x40400000 Four)) ∷
    (event 0 0 (call.Load 0x40001000 Four)) ∷
    (event 0 0 call.Quota) ∷
    [])
    ((reply.Child 1) ∷
    (reply.Value 0x0) ∷
    (reply.Refused cause.Quota) ∷
    (reply.Value 0x0) ∷
    (reply.Quota 15 4 11) ∷
    [])

-- a table is returned with its last page
abbrev pub UnmapReturnsTable : Type 0
UnmapReturnsTable = Gives 16
    ((event 0 0 (call.Map 0x40000 true)) ∷
    (event 0 0 call.Quota) ∷
    (event 0 0 (call.Map 0x40001 true)) ∷
    (event 0 0 call.Quota) ∷
    (event 0 0 (call.Unmap 0x40000)) ∷
    (event 0 0 call.Quota) ∷
    (event 0 0 (call.Unmap 0x40001)) ∷
    (event 0 0 call.Quota) ∷
    [])
    (reply.Done ∷
    (reply.Quota 15 3 0) ∷
    reply.Done ∷
    (reply.Quota 15 4 0) ∷
    reply.Done ∷
    (reply.Quota 15 3 0) ∷
    reply.Done ∷
    (reply.Quota 15 1 0) ∷
    [])

-- a page that was mapped read-only may be stored to once it is protected as writable; no reply shows when it gets a
-- frame
abbrev pub LazyPage : Type 0
LazyPage = Gives 16
    ((event 0 0 (call.Map 0x40000 false)) ∷
    (event 0 0 (call.Load 0x40000000 Four)) ∷
    (event 0 0 (call.Store 0x40000000 Four 0x1)) ∷
    (event 0 0 (call.Protect 0x40000 true)) ∷
    (event 0 0 (call.Store 0x40000000 Four 0x1)) ∷
    (event 0 0 (call.Info 0x40000)) ∷
    [])
    (reply.Done ∷
    (reply.Value 0x0) ∷
    (reply.Fault 0x40000000 7) ∷
    reply.Done ∷
    reply.Done ∷
    (reply.Info true true true true 1) ∷
    [])
