-- Worked runs of several processes, each with the answers that it must give.
use Rattle.std.proofs.Common.{[], ◌∷◌, ◌++◌, map, replicate}
use Rattle.std.specs.List.{range_with_len}
use Rattle.page_words.specs.declared.addresses.Size.TheVariants.{Four}
use Rattle.kernel_laws.specs.WorkedRuns.{event, Gives}
use Rattle.process_table.specs.declared.causes.Cause.TheVariants as cause
use Rattle.kernel_calls.specs.declared.calls.Call.TheVariants as call
use Rattle.kernel_calls.specs.declared.calls.Reply.TheVariants as reply

-- an access past the quota is refused and maps nothing
abbrev pub QuotaRefuses : Type 0
QuotaRefuses = Gives 16
    ((event 0 0 (call.Spawn 12)) ∷
    (event 0 0 (call.Load 0x40000000 Four)) ∷
    (event 0 0 (call.Load 0x40001000 Four)) ∷
    (event 0 0 call.Quota) ∷
    [])
    ((reply.Child 1) ∷
    (reply.Value 0x0) ∷
    (reply.Refused cause.Quota) ∷
    (reply.Quota 15 3 12) ∷
    [])

-- a child's quota comes back, its bytes don't
abbrev pub ExitReturnsQuota : Type 0
ExitReturnsQuota = Gives 16
    ((event 0 0 (call.Spawn 5)) ∷
    (event 0 1 (call.Store 0x40000000 Four 0x5ec0de)) ∷
    (event 0 1 call.Exit) ∷
    (event 0 0 call.Quota) ∷
    (event 0 0 (call.Spawn 5)) ∷
    (event 0 1 (call.Load 0x40000000 Four)) ∷
    [])
    ((reply.Child 1) ∷
    reply.Done ∷
    reply.Done ∷
    (reply.Quota 15 1 0) ∷
    (reply.Child 1) ∷
    (reply.Value 0x0) ∷
    [])

-- 64 processes, and the order of the refusals
abbrev pub ProcessTableFull : Type 0
ProcessTableFull = Gives 128
    (replicate 64 (event 0 0 (call.Spawn 1)) ++
    (event 0 0 (call.Spawn 0)) ∷
    (event 0 1 (call.Load 0x40000000 Four)) ∷
    (event 0 0 call.Exit) ∷
    (event 0 5 (call.Spawn 1)) ∷
    [])
    (map (λ n. reply.Child n) (range_with_len 1 63) ++
    (reply.Refused cause.TableFull) ∷
    (reply.Refused cause.BadQuota) ∷
    (reply.Refused cause.Quota) ∷
    (reply.Refused cause.RootExit) ∷
    (reply.Refused cause.TableFull) ∷
    [])
