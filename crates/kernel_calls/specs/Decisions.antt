-- What is decided of an event before anything changes: its plan, its reply, and the charge of its process afterwards.
use Rattle.std.specs.Prelude.{ℕ, false, if◌then◌else◌, Option, Some, None, Result, Ok, Err}
use Rattle.kernel_calls.specs.Below.{Pid, Size, cost, Container, State, is_live, View, map_refusal, unmap_refusal, protect_refusal, offer_refusal, withdraw_refusal, accept_refusal, spawn_refusal, fork_refusal, exit_refusal, Cause, plan_at, at_once, Plan, Access, Read, Write}
use Rattle.kernel_calls.specs.Machine.{answer, next}
use Rattle.kernel_calls.specs.declared.decisions.Judgement.{Judgement}
use Rattle.kernel_calls.specs.declared.calls.Call.{Call}
use Rattle.kernel_calls.specs.declared.calls.Event.{Event}
use Rattle.kernel_calls.specs.declared.calls.Decision.{Decision}
use Rattle.kernel_calls.specs.declared.calls.Reply.{Reply}
use Rattle.process_table.specs.declared.causes.Cause.TheVariants as cause
use Rattle.fault_handler.specs.declared.plans.Plan.TheVariants as plan
use Rattle.kernel_calls.specs.declared.calls.Call.TheVariants as call
use Rattle.kernel_calls.specs.declared.calls.Reply.TheVariants as reply

-- a refusal where there is a cause
abbrev pub refused_plan : Option Cause → Plan
refused_plan (Some cause) = plan.Refused cause
refused_plan None = at_once

-- the plan of a call of a live process, as memory stands
abbrev pub plan_of_call : View → ℕ → Call → Plan
plan_of_call v p (call.Load addr size) = plan_at v p addr size Read
plan_of_call v p (call.Store addr size value) = plan_at v p addr size Write
plan_of_call v p (call.Map page write) = refused_plan (map_refusal v.state p page)
plan_of_call v p (call.Unmap page) = refused_plan (unmap_refusal v.state p page)
plan_of_call v p (call.Protect page write) = refused_plan (protect_refusal v.state p page write)
plan_of_call v p (call.Info page) = refused_plan (protect_refusal v.state p page false)
plan_of_call v p (call.Offer page target write) = refused_plan (offer_refusal v.state p page target write)
plan_of_call v p (call.Withdraw page target) = refused_plan (withdraw_refusal v.state p page target)
plan_of_call v p (call.Accept giver giver_page page) = refused_plan (accept_refusal v.state p giver giver_page page)
plan_of_call v p (call.Spawn quota) = refused_plan (spawn_refusal v.state p quota)
plan_of_call v p (call.Fork quota) = refused_plan (fork_refusal v.state p quota)
plan_of_call v p call.Exit = refused_plan (exit_refusal v.state p)
plan_of_call v p call.Quota = at_once

-- the plan of an event
abbrev pub plan_of_event : View → Event → Plan
plan_of_event v e = if is_live v.state e.pid then plan_of_call v e.pid e.call else plan.Refused cause.NoProcess

-- what a process is charged for, 0 where it is not live
abbrev pub charge_in : State → ℕ → ℕ
charge_in s p = if is_live s p then cost s.spaces p else 0

-- the charge of the event's process after it
abbrev pub charge_after : State → Event → ℕ
charge_after s e = charge_in (next s e) e.pid

-- the reply and the charge are those of the state alone; the plan says also whether a page gets its frame first
abbrev pub judged_of : View → Event → Judgement
judged_of v e = record { plan = plan_of_event v e; reply = answer v.state e; used_after = charge_after v.state e }

-- with the event
abbrev pub decision_of : View → Event → Decision
decision_of v e = record { event = e; plan = plan_of_event v e; reply = answer v.state e; used_after = charge_after v.state e }

-- ---- By the test of a call

-- a refusal, which leaves the process charged as it is
abbrev pub refusal_of : Cause → ℕ → Judgement
refusal_of cause used = record { plan = plan.Refused cause; reply = reply.Refused cause; used_after = used }

-- a reply, with the charge afterwards
abbrev pub reply_of : Reply → ℕ → Judgement
reply_of r used = record { plan = at_once; reply = r; used_after = used }

-- done with the charge that the test gives, or refused
abbrev pub tested : Result ℕ Cause → ℕ → Judgement
tested (Err cause) used = refusal_of cause used
tested (Ok charge) used = reply_of reply.Done charge

-- the child that the test of a spawn or a fork gives, or refused
abbrev pub spawned : Result Pid Cause → ℕ → Judgement
spawned (Err cause) used = refusal_of cause used
spawned (Ok child) used = reply_of (reply.Child child) used

-- a refusal, a fault, or this reply, each with this charge
abbrev pub planned : Plan → Reply → ℕ → Judgement
planned (plan.Refused cause) r charge = refusal_of cause charge
planned (plan.Fault fault) r charge = record { plan = plan.Fault fault; reply = reply.Fault fault.addr fault.code; used_after = charge }
planned (plan.Ready first second) r charge = record { plan = plan.Ready first second; reply = r; used_after = charge }

-- the reply to a call with this result: Done, or the refusal
abbrev pub done_told : {A : Type 0} → Result A Cause → Reply
done_told (Ok done) = reply.Done
done_told (Err cause) = reply.Refused cause

-- the child that a call made, or refused
abbrev pub child_told : Result Pid Cause → Reply
child_told (Ok child) = reply.Child child
child_told (Err cause) = reply.Refused cause

-- the reply to a Quota call
abbrev pub quota_told : Container → Reply
quota_told c = reply.Quota c.quota c.used c.given

-- ---- An access

-- its call
abbrev pub call_of : Access → ℕ → Size → ℕ → Call
call_of Read address size value = call.Load address size
call_of Write address size value = call.Store address size value

-- the reply where it completes with this value
abbrev pub reply_to : Access → ℕ → Reply
reply_to Read value = reply.Value value
reply_to Write value = reply.Done
