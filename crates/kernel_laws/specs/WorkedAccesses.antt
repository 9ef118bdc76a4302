-- Worked runs of accesses at any address, over one page and over two, each with the answers that it must give.
use Rattle.std.proofs.Common.{true, false, [], ◌∷◌}
use Rattle.page_words.specs.declared.addresses.Size.TheVariants.{One, Two, Four}
use Rattle.kernel_laws.specs.WorkedRuns.{event, Gives}
use Rattle.process_table.specs.declared.causes.Cause.TheVariants as cause
use Rattle.kernel_calls.specs.declared.calls.Call.TheVariants as call
use Rattle.kernel_calls.specs.declared.calls.Reply.TheVariants as reply

-- a store over two pages maps both, and its bytes lie on both sides
abbrev pub AcrossTwoPages : Type 0
AcrossTwoPages = Gives 16
    ((event 0 0 (call.Store 0x40000ffe Four 0x11223344)) ∷
    (event 0 0 (call.Load 0x40000ffe Four)) ∷
    (event 0 0 (call.Load 0x40001000 Two)) ∷
    (event 0 0 call.Quota) ∷
    [])
    (reply.Done ∷
    (reply.Value 0x11223344) ∷
    (reply.Value 0x1122) ∷
    (reply.Quota 15 4 0) ∷
    [])

-- an access over two pages maps both, or neither
abbrev pub BothPagesOrNeither : Type 0
BothPagesOrNeither = Gives 16
    ((event 0 0 (call.Spawn 12)) ∷
    (event 0 0 (call.Load 0x40000fff Two)) ∷
    (event 0 0 call.Quota) ∷
    (event 0 0 (call.Load 0x40000ffe Two)) ∷
    (event 0 0 call.Quota) ∷
    [])
    ((reply.Child 1) ∷
    (reply.Refused cause.Quota) ∷
    (reply.Quota 15 1 12) ∷
    (reply.Value 0x0) ∷
    (reply.Quota 15 3 12) ∷
    [])

-- a fault is at the first byte that is outside, or in a page without the right; then no byte is written
abbrev pub FaultsAtTheFirstByte : Type 0
FaultsAtTheFirstByte = Gives 16
    ((event 0 0 (call.Store 0xeffffffe Four 0x1)) ∷
    (event 0 0 (call.Load 0xffffffff Four)) ∷
    (event 0 0 (call.Load 0x3fffffff Two)) ∷
    (event 0 0 (call.Map 0x40000 true)) ∷
    (event 0 0 (call.Map 0x40001 false)) ∷
    (event 0 0 (call.Store 0x40000fff Two 0xffff)) ∷
    (event 0 0 (call.Load 0x40000fff One)) ∷
    (event 0 0 (call.Info 0x40000)) ∷
    [])
    ((reply.Fault 0xf0000000 6) ∷
    (reply.Fault 0xffffffff 4) ∷
    (reply.Fault 0x3fffffff 4) ∷
    reply.Done ∷
    reply.Done ∷
    (reply.Fault 0x40001000 7) ∷
    (reply.Value 0x0) ∷
    (reply.Info true true true false 1) ∷
    [])

-- two pages in two regions need two tables
abbrev pub AcrossTwoRegions : Type 0
AcrossTwoRegions = Gives 16
    ((event 0 0 (call.Load 0x403fffff Two)) ∷
    (event 0 0 call.Quota) ∷
    [])
    ((reply.Value 0x0) ∷
    (reply.Quota 15 5 0) ∷
    [])

-- a store over two pages of one group writes the end and the beginning of the same bytes
abbrev pub AcrossOneGroup : Type 0
AcrossOneGroup = Gives 16
    ((event 0 0 (call.Map 0x40000 true)) ∷
    (event 0 0 (call.Spawn 5)) ∷
    (event 0 0 (call.Offer 0x40000 1 true)) ∷
    (event 1 1 (call.Accept 0 0x40000 0x50000)) ∷
    (event 0 0 (call.Offer 0x40000 1 true)) ∷
    (event 1 1 (call.Accept 0 0x40000 0x50001)) ∷
    (event 1 1 (call.Store 0x50000ffe Four 0x11223344)) ∷
    (event 1 1 (call.Load 0x50000ffe Four)) ∷
    (event 0 0 (call.Load 0x40000000 Four)) ∷
    (event 0 0 (call.Load 0x40000ffb Four)) ∷
    (event 1 1 (call.Info 0x50001)) ∷
    [])
    (reply.Done ∷
    (reply.Child 1) ∷
    reply.Done ∷
    reply.Done ∷
    reply.Done ∷
    reply.Done ∷
    reply.Done ∷
    (reply.Value 0x11223344) ∷
    (reply.Value 0x1122) ∷
    (reply.Value 0x44000000) ∷
    (reply.Info true true true true 3) ∷
    [])
