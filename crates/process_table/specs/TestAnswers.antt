-- What the test of each call returns: the first cause against the call, or otherwise its result.
use Rattle.std.specs.Prelude.{ℕ, Bool, true, false, if◌then◌else◌, Option, Some, None, Result, Ok, Err}
use Rattle.process_table.specs.Below.{Pid, cost, QuotaFault}
use Rattle.process_table.specs.State.{State, is_live, child_of}
use Rattle.process_table.specs.Calls.{map_refusal, unmap_refusal, protect_refusal, offer_refusal, withdraw_refusal, accept_refusal, spawn_refusal, fork_refusal, exit_refusal, after_map, after_unmap, after_accept}
use Rattle.process_table.specs.declared.causes.Cause.{Cause}
use Rattle.process_table.specs.declared.causes.Cause.TheVariants.{NoProcess}
use Rattle.quota_tree.specs.declared.QuotaFault.TheVariants as quota
use Rattle.process_table.specs.declared.causes.Cause.TheVariants as cause

-- that the process is not live, and else the call's own cause
abbrev pub first_cause : State → ℕ → Option Cause → Option Cause
first_cause s p cause = if is_live s p then cause else Some NoProcess

-- the cause where there is one, and else this number
abbrev pub number_unless : Option Cause → ℕ → Result ℕ Cause
number_unless (Some cause) number = Err cause
number_unless None number = Ok number

-- the child's number, unless there is a cause against the call
abbrev pub child_unless : Option Cause → ℕ → Result Pid Cause
child_unless (Some cause) child = Err cause
child_unless None child = Ok child

-- the cause where there is one, and else done
abbrev pub done_unless : Option Cause → Result (Unit {0}) Cause
done_unless (Some cause) = Err cause
done_unless None = Ok tt

-- the charge of the process after a map; its right has no effect on that
abbrev pub map_answer : State → ℕ → ℕ → Result ℕ Cause
map_answer s p page = number_unless (first_cause s p (map_refusal s p page)) (cost (after_map s p page true).spaces p)

-- the charge of the process after an unmap
abbrev pub unmap_answer : State → ℕ → ℕ → Result ℕ Cause
unmap_answer s p page = number_unless (first_cause s p (unmap_refusal s p page)) (cost (after_unmap s p page).spaces p)

-- the charge stays as it is
abbrev pub protect_answer : State → ℕ → ℕ → Bool → Result ℕ Cause
protect_answer s p page write = number_unless (first_cause s p (protect_refusal s p page write)) (cost s.spaces p)

-- the answer of the test of an Offer: the charge, or the first cause
abbrev pub offer_answer : State → ℕ → ℕ → ℕ → Bool → Result ℕ Cause
offer_answer s p page target write = number_unless (first_cause s p (offer_refusal s p page target write)) (cost s.spaces p)

-- the answer of the test of a Withdraw: the charge, or the first cause
abbrev pub withdraw_answer : State → ℕ → ℕ → ℕ → Result ℕ Cause
withdraw_answer s p page target = number_unless (first_cause s p (withdraw_refusal s p page target)) (cost s.spaces p)

-- the charge of the process after an accept
abbrev pub accept_answer : State → ℕ → ℕ → ℕ → ℕ → Result ℕ Cause
accept_answer s p giver giver_page page = number_unless (first_cause s p (accept_refusal s p giver giver_page page)) (cost (after_accept s p giver giver_page page).spaces p)

-- the child's number
abbrev pub spawn_answer : State → ℕ → ℕ → Result Pid Cause
spawn_answer s p quota = child_unless (first_cause s p (spawn_refusal s p quota)) (child_of s)

-- the child's number
abbrev pub fork_answer : State → ℕ → ℕ → Result Pid Cause
fork_answer s p quota = child_unless (first_cause s p (fork_refusal s p quota)) (child_of s)

-- the test of a fork by that of a spawn, and by whether the quota is less than a copy costs
abbrev pub for_copy : Bool → Result Pid Cause → Result Pid Cause
for_copy false test = test
for_copy true (Ok child) = Err cause.TooSmall
for_copy true (Err cause.Quota) = Err cause.TooSmall
for_copy true (Err cause) = Err cause

-- a process that is gone is charged nothing
abbrev pub exit_answer : State → ℕ → Result ℕ Cause
exit_answer s p = number_unless (first_cause s p (exit_refusal s p)) 0

-- a quota's fault, as the kernel names it
abbrev pub translated : Result Pid QuotaFault → Result Pid Cause
translated (Ok child) = Ok child
translated (Err quota.BadQuota) = Err cause.BadQuota
translated (Err quota.TableFull) = Err cause.TableFull
translated (Err quota.NoRoom) = Err cause.Quota
