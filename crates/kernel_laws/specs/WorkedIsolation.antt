-- A process that gets the same replies alone and next to others, in machines of different sizes.
use Rattle.std.proofs.Common.{ℕ, true, false, List, [], ◌∷◌, ◌++◌, map, drop, ◌≡◌, replicate}
use Rattle.std.specs.List.{zip}
use Rattle.page_words.specs.declared.addresses.Size.TheVariants.{One, Two, Four}
use Rattle.kernel_calls.specs.declared.calls.Call.{Call}
use Rattle.kernel_calls.specs.declared.calls.Event.{Event}
use Rattle.kernel_calls.specs.declared.calls.Reply.{Reply}
use Rattle.process_table.specs.State.{open_with}
use Rattle.kernel_calls.specs.Machine.{end_of}
use Rattle.kernel_calls.specs.Isolation.{own, calls_of, replies_of, solo, pages_given}
use Rattle.kernel_laws.specs.WorkedRuns.{event, Gives}
use Rattle.page_words.specs.FiniteMap as map
use Rattle.process_table.specs.declared.causes.Cause.TheVariants as cause
use Rattle.kernel_calls.specs.declared.calls.Call.TheVariants as call
use Rattle.kernel_calls.specs.declared.calls.Reply.TheVariants as reply

-- the calls of a process, which have the same replies in both machines
abbrev pub quiet_calls : List Call
quiet_calls =
    (call.Load 0x40000000 Four) ∷
    (call.Store 0x40001000 Four 0x2) ∷
    (call.Load 0x40002000 Four) ∷
    (call.Load 0x40003000 Four) ∷
    (call.Unmap 0x40000) ∷
    (call.Load 0x40003000 Four) ∷
    call.Quota ∷
    []

-- the replies to these calls
abbrev pub quiet_replies : List Reply
quiet_replies =
    (reply.Value 0x0) ∷
    reply.Done ∷
    (reply.Value 0x0) ∷
    (reply.Refused cause.Quota) ∷
    reply.Done ∷
    (reply.Value 0x0) ∷
    (reply.Quota 5 5 0) ∷
    []

-- alone with that quota
abbrev pub ToldAlone : Type 0
ToldAlone = solo 6 5 map.empty quiet_calls ≡ quiet_replies

-- as the root's only child
abbrev pub ToldBesideTheRoot : ℕ → Type 0
ToldBesideTheRoot frames = Gives frames ((event 0 0 (call.Spawn 5)) ∷ map (event 0 1) quiet_calls) ((reply.Child 1) ∷ quiet_replies)

-- another process that stores until it is refused
abbrev pub noise : List Event
noise =
    (event 0 0 (call.Spawn 9)) ∷
    map (λ page. event 0 2 (call.Store page One 0xaa)) (0x40000000 ∷ 0x40001000 ∷ 0x40002000 ∷ 0x40003000 ∷ 0x40004000 ∷ 0x40005000 ∷ 0x40006000 ∷ 0x40007000 ∷ [])

-- the replies to the other process
abbrev pub noise_replies : List Reply
noise_replies = (reply.Child 2) ∷ replicate 7 reply.Done ++ (reply.Refused cause.Quota) ∷ []

-- the events of that process, and of another that stores until it is refused
abbrev pub noisy_events : List Event
noisy_events =
    (event 0 0 (call.Spawn 5)) ∷ noise
    ++ (event 0 1 (call.Load 0x40000000 Four)) ∷ (event 0 1 (call.Store 0x40001000 Four 0x2)) ∷ (event 0 1 (call.Load 0x40002000 Four)) ∷ (event 0 2 call.Exit)
    ∷ (event 0 1 (call.Load 0x40003000 Four)) ∷ (event 0 1 (call.Unmap 0x40000)) ∷ noise
    ++ (event 0 1 (call.Load 0x40003000 Four)) ∷ (event 0 1 call.Quota) ∷ []

-- the replies to both
abbrev pub noisy_replies : List Reply
noisy_replies =
    (reply.Child 1) ∷ noise_replies
    ++ (reply.Value 0x0) ∷ reply.Done ∷ (reply.Value 0x0) ∷ reply.Done
    ∷ (reply.Refused cause.Quota) ∷ reply.Done ∷ noise_replies
    ++ (reply.Value 0x0) ∷ (reply.Quota 5 5 0) ∷ []

-- the run with both processes, on a number of frames
abbrev pub ToldBesideNoise : ℕ → Type 0
ToldBesideNoise frames = Gives frames noisy_events noisy_replies

-- and these are its part of that run
abbrev pub OwnOfNoise : Type 0
OwnOfNoise = (calls_of (own 1 (drop 1 (zip noisy_events noisy_replies))) ≡ quiet_calls) × (replies_of (own 1 (drop 1 (zip noisy_events noisy_replies))) ≡ quiet_replies)

-- ---- A copy

-- a process that writes over the edge of two pages, and copies itself
abbrev pub before_copy : List Event
before_copy = (event 0 0 (call.Spawn 9)) ∷ (event 0 1 (call.Store 0x40000ffe Four 0x4030201)) ∷ []

-- a fork with a quota of 5
abbrev pub copy : Call
copy = call.Fork 5

-- the calls of the copy, over the edges of pages
abbrev pub copy_calls : List Call
copy_calls =
    (call.Load 0x40000ffe Four) ∷
    (call.Info 0x40001) ∷
    (call.Store 0x40001fff Two 0x605) ∷
    (call.Load 0x40001ffe Four) ∷
    (call.Load 0x40002fff Two) ∷
    call.Quota ∷
    []

-- the replies to the copy
abbrev pub copy_replies : List Reply
copy_replies =
    (reply.Value 0x4030201) ∷
    (reply.Info true true true false 1) ∷
    reply.Done ∷
    (reply.Value 0x60500) ∷
    (reply.Refused cause.Quota) ∷
    (reply.Quota 5 5 0) ∷
    []

-- alone with that quota and the pages that it got
abbrev pub CopyToldAlone : Type 0
CopyToldAlone = solo 6 5 (pages_given (end_of (open_with 16) before_copy) 1 copy) copy_calls ≡ copy_replies

-- the copy's replies while its parent stores to the same page of its own
abbrev pub CopyToldBeside : ℕ → Type 0
CopyToldBeside frames = Gives frames
    (before_copy ++ (event 0 1 copy) ∷ (event 0 1 (call.Store 0x40000ffe Four 0x0)) ∷ map (event 0 2) copy_calls)
    ((reply.Child 1) ∷ reply.Done ∷ (reply.Child 2) ∷ reply.Done ∷ copy_replies)
