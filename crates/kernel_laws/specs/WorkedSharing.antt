-- Worked runs of pages in common, each with the answers that it must give.
use Rattle.std.proofs.Common.{true, false, [], ◌∷◌, ◌++◌, map, replicate}
use Rattle.std.specs.List.{range_with_len}
use Rattle.page_words.specs.declared.addresses.Size.TheVariants.{One, Four}
use Rattle.kernel_laws.specs.WorkedRuns.{event, Gives}
use Rattle.process_table.specs.declared.causes.Cause.TheVariants as cause
use Rattle.kernel_calls.specs.declared.calls.Call.TheVariants as call
use Rattle.kernel_calls.specs.declared.calls.Reply.TheVariants as reply

-- a shared page has one content
abbrev pub ShareBothWays : Type 0
ShareBothWays = Gives 16
    ((event 0 0 (call.Store 0x40000000 Four 0x7)) ∷
    (event 0 0 (call.Spawn 5)) ∷
    (event 0 0 (call.Offer 0x40000 1 true)) ∷
    (event 1 1 (call.Accept 0 0x40000 0x50000)) ∷
    (event 1 1 (call.Load 0x50000000 Four)) ∷
    (event 1 1 (call.Store 0x50000000 Four 0x9)) ∷
    (event 0 0 (call.Load 0x40000000 Four)) ∷
    (event 1 1 call.Quota) ∷
    (event 1 1 (call.Accept 0 0x40000 0x50001)) ∷
    [])
    (reply.Done ∷
    (reply.Child 1) ∷
    reply.Done ∷
    reply.Done ∷
    (reply.Value 0x7) ∷
    reply.Done ∷
    (reply.Value 0x9) ∷
    (reply.Quota 5 3 0) ∷
    (reply.Refused cause.NoOffer) ∷
    [])

-- a page that nothing was stored to is shared as any other
abbrev pub LazyShare : Type 0
LazyShare = Gives 16
    ((event 0 0 (call.Map 0x40000 true)) ∷
    (event 0 0 (call.Spawn 5)) ∷
    (event 0 0 (call.Offer 0x40000 1 true)) ∷
    (event 1 1 (call.Accept 0 0x40000 0x40000)) ∷
    (event 0 0 (call.Info 0x40000)) ∷
    (event 1 1 (call.Store 0x40000000 Four 0x9)) ∷
    (event 0 0 (call.Load 0x40000000 Four)) ∷
    [])
    (reply.Done ∷
    (reply.Child 1) ∷
    reply.Done ∷
    reply.Done ∷
    (reply.Info true true false false 2) ∷
    reply.Done ∷
    (reply.Value 0x9) ∷
    [])

-- an offer doesn't outlive its page
abbrev pub UnmapDropsOffers : Type 0
UnmapDropsOffers = Gives 16
    ((event 0 0 (call.Map 0x40000 true)) ∷
    (event 0 0 (call.Spawn 5)) ∷
    (event 0 0 (call.Offer 0x40000 1 true)) ∷
    (event 0 0 (call.Unmap 0x40000)) ∷
    (event 0 0 (call.Map 0x40000 true)) ∷
    (event 1 1 (call.Accept 0 0x40000 0x40000)) ∷
    [])
    (reply.Done ∷
    (reply.Child 1) ∷
    reply.Done ∷
    reply.Done ∷
    reply.Done ∷
    (reply.Refused cause.NoOffer) ∷
    [])

-- a right that wasn't given can't be taken
abbrev pub ReadOnlyShare : Type 0
ReadOnlyShare = Gives 16
    ((event 0 0 (call.Store 0x40000000 Four 0x1)) ∷
    (event 0 0 (call.Spawn 5)) ∷
    (event 0 0 (call.Offer 0x40000 1 false)) ∷
    (event 1 1 (call.Accept 0 0x40000 0x40000)) ∷
    (event 1 1 (call.Store 0x40000000 Four 0x2)) ∷
    (event 1 1 (call.Protect 0x40000 true)) ∷
    (event 1 1 (call.Offer 0x40000 0 true)) ∷
    (event 1 1 (call.Info 0x40000)) ∷
    [])
    (reply.Done ∷
    (reply.Child 1) ∷
    reply.Done ∷
    reply.Done ∷
    (reply.Fault 0x40000000 7) ∷
    (reply.Refused cause.Rights) ∷
    (reply.Refused cause.Rights) ∷
    (reply.Info false false false false 2) ∷
    [])

-- a page outlives the process that made it
abbrev pub OwnerLeaves : Type 0
OwnerLeaves = Gives 16
    ((event 0 0 (call.Spawn 5)) ∷
    (event 0 0 (call.Spawn 5)) ∷
    (event 0 1 (call.Store 0x40000000 Four 0xc0ffee)) ∷
    (event 0 1 (call.Offer 0x40000 2 true)) ∷
    (event 0 2 (call.Accept 1 0x40000 0x40000)) ∷
    (event 0 2 (call.Info 0x40000)) ∷
    (event 0 1 (call.Unmap 0x40000)) ∷
    (event 0 1 (call.Store 0x40000000 Four 0xbad)) ∷
    (event 0 1 call.Exit) ∷
    (event 0 2 (call.Load 0x40000000 Four)) ∷
    (event 0 2 (call.Info 0x40000)) ∷
    [])
    ((reply.Child 1) ∷
    (reply.Child 2) ∷
    reply.Done ∷
    reply.Done ∷
    reply.Done ∷
    (reply.Info true true false false 2) ∷
    reply.Done ∷
    reply.Done ∷
    reply.Done ∷
    (reply.Value 0xc0ffee) ∷
    (reply.Info true true true false 1) ∷
    [])

-- accessed and dirty are set by accesses that complete, and by nothing else
abbrev pub Flags : Type 0
Flags = Gives 16
    ((event 0 0 (call.Map 0x40000 true)) ∷
    (event 0 0 (call.Info 0x40000)) ∷
    (event 0 0 (call.Load 0x40000000 One)) ∷
    (event 0 0 (call.Info 0x40000)) ∷
    (event 0 0 (call.Store 0x40000000 One 0x1)) ∷
    (event 0 0 (call.Info 0x40000)) ∷
    [])
    (reply.Done ∷
    (reply.Info true true false false 1) ∷
    (reply.Value 0x0) ∷
    (reply.Info true true true false 1) ∷
    reply.Done ∷
    (reply.Info true true true true 1) ∷
    [])

-- each refusal's first cause
abbrev pub RefusalsInOrder : Type 0
RefusalsInOrder = Gives 16
    ((event 0 7 (call.Load 0x40000002 Four)) ∷
    (event 0 0 (call.Load 0x40000002 Four)) ∷
    (event 0 0 (call.Load 0x3ffffffe Four)) ∷
    (event 0 0 (call.Map 0x3ffff true)) ∷
    (event 0 0 (call.Map 0xf0000 true)) ∷
    (event 0 0 (call.Unmap 0x40000)) ∷
    (event 0 0 (call.Map 0x40000 false)) ∷
    (event 0 0 (call.Offer 0x40000 0 true)) ∷
    (event 0 0 (call.Offer 0x40000 9 true)) ∷
    (event 0 0 (call.Protect 0x40000 true)) ∷
    (event 0 0 (call.Withdraw 0x40000 1)) ∷
    (event 0 0 (call.Spawn 3)) ∷
    (event 0 0 (call.Offer 0x40000 1 true)) ∷
    (event 0 0 (call.Offer 0x40000 1 false)) ∷
    (event 0 1 (call.Spawn 1)) ∷
    (event 0 1 call.Exit) ∷
    (event 0 0 (call.Withdraw 0x40000 1)) ∷
    [])
    ((reply.Refused cause.NoProcess) ∷
    (reply.Value 0x0) ∷
    (reply.Fault 0x3ffffffe 4) ∷
    (reply.Refused cause.BadPage) ∷
    (reply.Refused cause.BadPage) ∷
    reply.Done ∷
    reply.Done ∷
    (reply.Refused cause.SelfOffer) ∷
    (reply.Refused cause.NoTarget) ∷
    reply.Done ∷
    (reply.Refused cause.NoOffer) ∷
    (reply.Child 1) ∷
    reply.Done ∷
    (reply.Refused cause.OfferPending) ∷
    (reply.Child 2) ∷
    (reply.Refused cause.HasChildren) ∷
    reply.Done ∷
    [])

-- 32 pending offers at most
abbrev pub OfferLimit : Type 0
OfferLimit = Gives 64
    (map (λ n. event 0 0 (call.Map n true)) (range_with_len 0x40000 33) ++
    (event 0 0 (call.Spawn 5)) ∷
    map (λ n. event 0 0 (call.Offer n 1 true)) (range_with_len 0x40000 33) ++
    (event 1 1 (call.Accept 0 0x40000 0x40000)) ∷
    (event 0 0 (call.Offer 0x40020 1 true)) ∷
    [])
    (replicate 33 (reply.Done) ++
    (reply.Child 1) ∷
    replicate 32 (reply.Done) ++
    (reply.Refused cause.TooManyOffers) ∷
    reply.Done ∷
    reply.Done ∷
    [])

-- offers to a process that exits go with it
abbrev pub ExitDropsOffers : Type 0
ExitDropsOffers = Gives 64
    (map (λ n. event 0 0 (call.Map n true)) (range_with_len 0x40000 33) ++
    (event 0 0 (call.Spawn 5)) ∷
    map (λ n. event 0 0 (call.Offer n 1 true)) (range_with_len 0x40000 33) ++
    (event 1 1 (call.Accept 0 0x40000 0x40000)) ∷
    (event 0 0 (call.Offer 0x40020 1 true)) ∷
    (event 0 1 call.Exit) ∷
    (event 0 0 (call.Spawn 5)) ∷
    (event 1 1 (call.Accept 0 0x40001 0x40001)) ∷
    (event 0 0 (call.Offer 0x40001 1 true)) ∷
    [])
    (replicate 33 (reply.Done) ++
    (reply.Child 1) ∷
    replicate 32 (reply.Done) ++
    (reply.Refused cause.TooManyOffers) ∷
    reply.Done ∷
    reply.Done ∷
    reply.Done ∷
    (reply.Child 1) ∷
    (reply.Refused cause.NoOffer) ∷
    reply.Done ∷
    [])
