-- Worked runs of processes that copy themselves, each with the answers that it must give.
use Rattle.std.proofs.Common.{true, false, [], ◌∷◌}
use Rattle.page_words.specs.declared.addresses.Size.TheVariants.{One, Four}
use Rattle.kernel_laws.specs.WorkedRuns.{event, Gives}
use Rattle.process_table.specs.declared.causes.Cause.TheVariants as cause
use Rattle.kernel_calls.specs.declared.calls.Call.TheVariants as call
use Rattle.kernel_calls.specs.declared.calls.Reply.TheVariants as reply

-- a copy has its parent's bytes and rights, and from then on its own; it is charged for all of it
abbrev pub ForkCopies : Type 0
ForkCopies = Gives 32
    ((event 0 0 (call.Store 0x40000000 Four 0x7)) ∷
    (event 0 0 (call.Map 0x40001 false)) ∷
    (event 0 0 (call.Fork 0)) ∷
    (event 0 0 (call.Fork 3)) ∷
    (event 0 0 (call.Fork 28)) ∷
    (event 0 0 (call.Fork 10)) ∷
    (event 1 1 (call.Load 0x40000000 Four)) ∷
    (event 1 1 (call.Store 0x40000000 Four 0x9)) ∷
    (event 0 0 (call.Load 0x40000000 Four)) ∷
    (event 1 1 (call.Info 0x40000)) ∷
    (event 1 1 (call.Info 0x40001)) ∷
    (event 1 1 (call.Store 0x40001000 One 0x1)) ∷
    (event 1 1 call.Quota) ∷
    (event 0 0 call.Quota) ∷
    [])
    (reply.Done ∷
    reply.Done ∷
    (reply.Refused cause.BadQuota) ∷
    (reply.Refused cause.TooSmall) ∷
    (reply.Refused cause.Quota) ∷
    (reply.Child 1) ∷
    (reply.Value 0x7) ∷
    reply.Done ∷
    (reply.Value 0x7) ∷
    (reply.Info true true true true 1) ∷
    (reply.Info false true false false 1) ∷
    (reply.Fault 0x40001000 7) ∷
    (reply.Quota 10 4 0) ∷
    (reply.Quota 31 4 10) ∷
    [])

-- a page that was accepted read-only is no page to write to in a copy, and leaves its group there
abbrev pub ForkOfShared : Type 0
ForkOfShared = Gives 16
    ((event 0 0 (call.Store 0x40000000 Four 0x1)) ∷
    (event 0 0 (call.Spawn 6)) ∷
    (event 0 0 (call.Offer 0x40000 1 false)) ∷
    (event 1 1 (call.Accept 0 0x40000 0x40000)) ∷
    (event 1 1 (call.Fork 3)) ∷
    (event 0 2 (call.Protect 0x40000 true)) ∷
    (event 0 0 (call.Info 0x40000)) ∷
    (event 0 2 (call.Info 0x40000)) ∷
    (event 0 0 (call.Store 0x40000000 Four 0x5)) ∷
    (event 0 2 (call.Load 0x40000000 Four)) ∷
    [])
    (reply.Done ∷
    (reply.Child 1) ∷
    reply.Done ∷
    reply.Done ∷
    (reply.Child 2) ∷
    (reply.Refused cause.Rights) ∷
    (reply.Info true true true true 2) ∷
    (reply.Info false false false false 1) ∷
    reply.Done ∷
    (reply.Value 0x1) ∷
    [])
