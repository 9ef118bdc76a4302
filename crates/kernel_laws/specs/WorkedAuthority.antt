-- Worked runs on what processes can do to each other, and what they learn, each with the answers that it must give.
use Rattle.std.proofs.Common.{◌≡◌, ◌==◌, Bool, true, false, List, [], ◌∷◌, map as each, Some, None}
use Rattle.page_words.specs.declared.addresses.Size.TheVariants.{Four}
use Rattle.process_table.specs.State.{State, open_with}
use Rattle.authority_laws.specs.Authority.{members_at_end, heard}
use Rattle.kernel_calls.specs.Isolation.{exchanges}
use Rattle.kernel_calls.specs.Machine.{end_of}
use Rattle.kernel_calls.specs.declared.calls.Event.{Event}
use Rattle.kernel_laws.specs.WorkedRuns.{event, Gives}
use Rattle.process_table.specs.declared.causes.Cause.TheVariants as cause
use Rattle.kernel_calls.specs.declared.calls.Call.TheVariants as call
use Rattle.kernel_calls.specs.declared.calls.Reply.TheVariants as reply

-- who accepted a page may pass it on, also when its first owner has left
abbrev pub PassedOn : Type 0
PassedOn = Gives 16
    ((event 0 0 (call.Store 0x40000000 Four 0x7)) ∷
    (event 0 0 (call.Spawn 4)) ∷
    (event 0 0 (call.Spawn 4)) ∷
    (event 0 0 (call.Offer 0x40000 1 false)) ∷
    (event 1 1 (call.Accept 0 0x40000 0x40000)) ∷
    (event 0 0 (call.Unmap 0x40000)) ∷
    (event 1 1 (call.Offer 0x40000 2 true)) ∷
    (event 1 1 (call.Offer 0x40000 2 false)) ∷
    (event 2 2 (call.Accept 1 0x40000 0x40000)) ∷
    (event 2 2 (call.Load 0x40000000 Four)) ∷
    [])
    (reply.Done ∷
    (reply.Child 1) ∷
    (reply.Child 2) ∷
    reply.Done ∷
    reply.Done ∷
    reply.Done ∷
    (reply.Refused cause.Rights) ∷
    reply.Done ∷
    reply.Done ∷
    (reply.Value 0x7) ∷
    [])

-- an offer gives what the offerer may have, which may be more than it has
abbrev pub MoreThanTheGiverHas : Type 0
MoreThanTheGiverHas = Gives 16
    ((event 0 0 (call.Map 0x40000 false)) ∷
    (event 0 0 (call.Spawn 4)) ∷
    (event 0 0 (call.Offer 0x40000 1 true)) ∷
    (event 1 1 (call.Accept 0 0x40000 0x40000)) ∷
    (event 1 1 (call.Store 0x40000000 Four 0x7)) ∷
    (event 0 0 (call.Store 0x40000000 Four 0x9)) ∷
    (event 0 0 (call.Load 0x40000000 Four)) ∷
    [])
    (reply.Done ∷
    (reply.Child 1) ∷
    reply.Done ∷
    reply.Done ∷
    reply.Done ∷
    (reply.Fault 0x40000000 7) ∷
    (reply.Value 0x7) ∷
    [])

-- a page that is offered shows what a process stores that has nothing in common with the one that is offered it
abbrev pub OfferedPageShows : Type 0
OfferedPageShows = Gives 16
    ((event 0 0 (call.Map 0x40000 true)) ∷
    (event 0 0 (call.Spawn 4)) ∷
    (event 0 0 (call.Spawn 4)) ∷
    (event 0 0 (call.Offer 0x40000 1 true)) ∷
    (event 1 1 (call.Accept 0 0x40000 0x40000)) ∷
    (event 0 0 (call.Offer 0x40000 2 false)) ∷
    (event 1 1 (call.Store 0x40000000 Four 0x7)) ∷
    (event 2 2 (call.Accept 0 0x40000 0x40000)) ∷
    (event 2 2 (call.Load 0x40000000 Four)) ∷
    [])
    (reply.Done ∷
    (reply.Child 1) ∷
    (reply.Child 2) ∷
    reply.Done ∷
    reply.Done ∷
    reply.Done ∷
    reply.Done ∷
    reply.Done ∷
    (reply.Value 0x7) ∷
    [])

-- process 1 has two pages, which are one: its store to one shows in the other
abbrev pub TwoSlotsOnePage : Type 0
TwoSlotsOnePage = Gives 32
    ((event 0 0 (call.Map 0x40000 true)) ∷
    (event 0 0 (call.Spawn 6)) ∷
    (event 0 0 (call.Spawn 6)) ∷
    (event 0 0 (call.Offer 0x40000 1 true)) ∷
    (event 1 1 (call.Accept 0 0x40000 0x40000)) ∷
    (event 0 0 (call.Offer 0x40000 1 true)) ∷
    (event 1 1 (call.Accept 0 0x40000 0x40001)) ∷
    (event 1 1 (call.Info 0x40000)) ∷
    (event 1 1 (call.Info 0x40001)) ∷
    (event 1 1 call.Quota) ∷
    (event 1 1 (call.Store 0x40000000 Four 0x7)) ∷
    (event 1 1 (call.Load 0x40001000 Four)) ∷
    [])
    (reply.Done ∷
    (reply.Child 1) ∷
    (reply.Child 2) ∷
    reply.Done ∷
    reply.Done ∷
    reply.Done ∷
    reply.Done ∷
    (reply.Info true true false false 3) ∷
    (reply.Info true true false false 3) ∷
    (reply.Quota 6 4 0) ∷
    reply.Done ∷
    (reply.Value 0x7) ∷
    [])

-- process 1 has two pages with the same flags, bytes and numbers of holders, which are two
abbrev pub TwoSlotsTwoPages : Type 0
TwoSlotsTwoPages = Gives 32
    ((event 0 0 (call.Map 0x40000 true)) ∷
    (event 0 0 (call.Map 0x40001 true)) ∷
    (event 0 0 (call.Spawn 6)) ∷
    (event 0 0 (call.Spawn 6)) ∷
    (event 0 0 (call.Offer 0x40000 1 true)) ∷
    (event 1 1 (call.Accept 0 0x40000 0x40000)) ∷
    (event 0 0 (call.Offer 0x40001 1 true)) ∷
    (event 1 1 (call.Accept 0 0x40001 0x40001)) ∷
    (event 0 0 (call.Offer 0x40000 2 true)) ∷
    (event 2 2 (call.Accept 0 0x40000 0x40000)) ∷
    (event 0 0 (call.Offer 0x40001 2 true)) ∷
    (event 2 2 (call.Accept 0 0x40001 0x40001)) ∷
    (event 1 1 (call.Info 0x40000)) ∷
    (event 1 1 (call.Info 0x40001)) ∷
    (event 1 1 call.Quota) ∷
    (event 1 1 (call.Store 0x40000000 Four 0x7)) ∷
    (event 1 1 (call.Load 0x40001000 Four)) ∷
    [])
    (reply.Done ∷
    reply.Done ∷
    (reply.Child 1) ∷
    (reply.Child 2) ∷
    reply.Done ∷
    reply.Done ∷
    reply.Done ∷
    reply.Done ∷
    reply.Done ∷
    reply.Done ∷
    reply.Done ∷
    reply.Done ∷
    (reply.Info true true false false 3) ∷
    (reply.Info true true false false 3) ∷
    (reply.Quota 6 4 0) ∷
    reply.Done ∷
    (reply.Value 0) ∷
    [])

-- a page that was passed on: its first owner sees no more of that than the number of holders, and what it stores then
-- is read
abbrev pub BehindItsBack : Type 0
BehindItsBack = Gives 16
    ((event 0 0 (call.Store 0x40000000 Four 0x7)) ∷
    (event 0 0 (call.Spawn 4)) ∷
    (event 0 0 (call.Spawn 4)) ∷
    (event 0 0 (call.Offer 0x40000 1 false)) ∷
    (event 1 1 (call.Accept 0 0x40000 0x40000)) ∷
    (event 1 1 (call.Offer 0x40000 2 false)) ∷
    (event 2 2 (call.Accept 1 0x40000 0x40000)) ∷
    (event 0 0 (call.Store 0x40000000 Four 0x9)) ∷
    (event 2 2 (call.Load 0x40000000 Four)) ∷
    (event 0 0 (call.Info 0x40000)) ∷
    [])
    (reply.Done ∷
    (reply.Child 1) ∷
    (reply.Child 2) ∷
    reply.Done ∷
    reply.Done ∷
    reply.Done ∷
    reply.Done ∷
    reply.Done ∷
    (reply.Value 0x9) ∷
    (reply.Info true true true true 3) ∷
    [])

-- an offer to a number is one to whichever process has the number by then
abbrev pub NumberComesAgain : Type 0
NumberComesAgain = Gives 32
    ((event 0 0 (call.Store 0x40000000 Four 0x7)) ∷
    (event 0 0 (call.Spawn 8)) ∷
    (event 1 1 (call.Spawn 4)) ∷
    (event 2 2 call.Exit) ∷
    (event 1 1 call.Exit) ∷
    (event 0 0 (call.Spawn 8)) ∷
    (event 1 1 (call.Spawn 4)) ∷
    (event 0 0 (call.Offer 0x40000 2 false)) ∷
    (event 2 2 (call.Accept 0 0x40000 0x40000)) ∷
    (event 2 2 (call.Load 0x40000000 Four)) ∷
    [])
    (reply.Done ∷
    (reply.Child 1) ∷
    (reply.Child 2) ∷
    reply.Done ∷
    reply.Done ∷
    (reply.Child 1) ∷
    (reply.Child 2) ∷
    reply.Done ∷
    reply.Done ∷
    (reply.Value 0x7) ∷
    [])

-- a process that offers nothing and shares nothing, and whose child passes its copies on
abbrev pub CopiesPassOn : Type 0
CopiesPassOn = Gives 32
    ((event 0 0 (call.Spawn 4)) ∷
    (event 0 0 (call.Spawn 12)) ∷
    (event 2 2 (call.Store 0x40000000 Four 0x7)) ∷
    (event 2 2 (call.Fork 4)) ∷
    (event 3 3 (call.Offer 0x40000 1 false)) ∷
    (event 1 1 (call.Accept 3 0x40000 0x40000)) ∷
    (event 1 1 (call.Load 0x40000000 Four)) ∷
    (event 2 2 (call.Info 0x40000)) ∷
    [])
    ((reply.Child 1) ∷
    (reply.Child 2) ∷
    reply.Done ∷
    (reply.Child 3) ∷
    reply.Done ∷
    reply.Done ∷
    (reply.Value 0x7) ∷
    (reply.Info true true true true 1) ∷
    [])

-- processes 1 and 2 have a page, which is one: what 2 stores shows to 1
abbrev pub TwoHaveOnePage : Type 0
TwoHaveOnePage = Gives 64
    ((event 0 0 (call.Spawn 6)) ∷
    (event 0 0 (call.Spawn 6)) ∷
    (event 0 0 (call.Spawn 8)) ∷
    (event 0 0 (call.Map 0x40000 true)) ∷
    (event 0 0 (call.Offer 0x40000 1 true)) ∷
    (event 1 1 (call.Accept 0 0x40000 0x40000)) ∷
    (event 0 0 (call.Offer 0x40000 2 true)) ∷
    (event 2 2 (call.Accept 0 0x40000 0x40000)) ∷
    (event 1 1 (call.Info 0x40000)) ∷
    (event 2 2 (call.Info 0x40000)) ∷
    (event 2 2 (call.Store 0x40000000 Four 0x7)) ∷
    (event 1 1 (call.Load 0x40000000 Four)) ∷
    [])
    ((reply.Child 1) ∷
    (reply.Child 2) ∷
    (reply.Child 3) ∷
    reply.Done ∷
    reply.Done ∷
    reply.Done ∷
    reply.Done ∷
    reply.Done ∷
    (reply.Info true true false false 3) ∷
    (reply.Info true true false false 3) ∷
    reply.Done ∷
    (reply.Value 0x7) ∷
    [])

-- processes 1 and 2 have made the same calls, got the same replies, and have a page each: what 2 stores does not show
-- to 1
abbrev pub TwoHaveTwoPages : Type 0
TwoHaveTwoPages = Gives 64
    ((event 0 0 (call.Spawn 6)) ∷
    (event 0 0 (call.Spawn 6)) ∷
    (event 0 0 (call.Spawn 8)) ∷
    (event 0 0 (call.Map 0x40000 true)) ∷
    (event 0 0 (call.Offer 0x40000 1 true)) ∷
    (event 1 1 (call.Accept 0 0x40000 0x40000)) ∷
    (event 0 0 (call.Offer 0x40000 3 true)) ∷
    (event 3 3 (call.Accept 0 0x40000 0x40000)) ∷
    (event 0 0 (call.Offer 0x40000 3 true)) ∷
    (event 3 3 (call.Accept 0 0x40000 0x40001)) ∷
    (event 0 0 (call.Unmap 0x40000)) ∷
    (event 0 0 (call.Map 0x40000 true)) ∷
    (event 0 0 (call.Offer 0x40000 2 true)) ∷
    (event 2 2 (call.Accept 0 0x40000 0x40000)) ∷
    (event 0 0 (call.Offer 0x40000 3 true)) ∷
    (event 3 3 (call.Accept 0 0x40000 0x40002)) ∷
    (event 1 1 (call.Info 0x40000)) ∷
    (event 2 2 (call.Info 0x40000)) ∷
    (event 2 2 (call.Store 0x40000000 Four 0x7)) ∷
    (event 1 1 (call.Load 0x40000000 Four)) ∷
    [])
    ((reply.Child 1) ∷
    (reply.Child 2) ∷
    (reply.Child 3) ∷
    reply.Done ∷
    reply.Done ∷
    reply.Done ∷
    reply.Done ∷
    reply.Done ∷
    reply.Done ∷
    reply.Done ∷
    reply.Done ∷
    reply.Done ∷
    reply.Done ∷
    reply.Done ∷
    reply.Done ∷
    reply.Done ∷
    (reply.Info true true false false 3) ∷
    (reply.Info true true false false 3) ∷
    reply.Done ∷
    (reply.Value 0) ∷
    [])

-- two processes that share nothing: what one makes shows in the number that the other's child has
abbrev pub BirthsShow : Type 0
BirthsShow = (Gives 32
    ((event 0 0 (call.Spawn 8)) ∷
    (event 0 0 (call.Spawn 8)) ∷
    (event 1 1 (call.Spawn 2)) ∷
    (event 2 2 (call.Spawn 2)) ∷
    [])
    ((reply.Child 1) ∷ (reply.Child 2) ∷ (reply.Child 3) ∷ (reply.Child 4) ∷ []))
    × (Gives 32
    ((event 0 0 (call.Spawn 8)) ∷ (event 0 0 (call.Spawn 8)) ∷ (event 2 2 (call.Spawn 2)) ∷ [])
    ((reply.Child 1) ∷ (reply.Child 2) ∷ (reply.Child 3) ∷ []))

-- the exit of a process shows to its parent, which has its quota back
abbrev pub ExitShows : Type 0
ExitShows = Gives 32
    ((event 0 0 (call.Spawn 8)) ∷ (event 0 0 call.Quota) ∷ (event 1 1 call.Exit) ∷ (event 0 0 call.Quota) ∷ [])
    ((reply.Child 1) ∷ (reply.Quota 31 1 8) ∷ reply.Done ∷ (reply.Quota 31 1 0) ∷ [])

-- and to who offers it a page
abbrev pub ExitEndsOffers : Type 0
ExitEndsOffers = Gives 32
    ((event 0 0 (call.Map 0x40000 true)) ∷
    (event 0 0 (call.Spawn 4)) ∷
    (event 0 0 (call.Offer 0x40000 1 false)) ∷
    (event 1 1 call.Exit) ∷
    (event 0 0 (call.Withdraw 0x40000 1)) ∷
    [])
    (reply.Done ∷ (reply.Child 1) ∷ reply.Done ∷ reply.Done ∷ (reply.Refused cause.NoOffer) ∷ [])

-- process 1, to which the root gave 8, with what it makes: a child joins, and leaves as it exits; the next process with
-- its number does not join
abbrev pub first_child : State
first_child = end_of (open_with 32) ((event 0 0 (call.Spawn 8)) ∷ [])

-- which of the processes 0, 1 and 2 are members after these events
abbrev pub family_after : List Event → List Bool
family_after events = each (λ p. members_at_end first_child (λ q. q == 1) events p) (0 ∷ 1 ∷ 2 ∷ [])

-- a child joins the family, and leaves it as it exits
abbrev pub FamilyGrows : Type 0
FamilyGrows = (family_after ((event 1 1 (call.Spawn 4)) ∷ []) ≡ (false ∷ true ∷ true ∷ []))
    × (family_after ((event 1 1 (call.Spawn 4)) ∷ (event 2 2 call.Exit) ∷ []) ≡ (false ∷ true ∷ false ∷ []))
    × (family_after ((event 1 1 (call.Spawn 4)) ∷ (event 2 2 call.Exit) ∷ (event 0 0 (call.Spawn 4)) ∷ [])
    ≡ (false ∷ true ∷ false ∷ []))

-- what that family observes of such a run: a call for a child finds its number
abbrev pub family_run : List Event
family_run = (event 1 1 (call.Spawn 4)) ∷ (event 0 0 call.Quota) ∷ (event 2 2 call.Exit) ∷ (event 0 0 (call.Spawn 4))
    ∷ (event 2 2 call.Quota) ∷ []

-- the exchanges that the family observes of that run
abbrev pub FamilyHears : Type 0
FamilyHears = heard first_child (λ q. q == 1) (exchanges first_child family_run)
    ≡ ((record { pid = 1; call = call.Spawn 4; reply = reply.Child 2; finds = Some 2 })
    ∷ (record { pid = 2; call = call.Exit; reply = reply.Done; finds = None }) ∷ [])
