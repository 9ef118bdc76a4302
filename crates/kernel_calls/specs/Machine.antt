-- The machine: the answer to an event, the next state, and runs.
use Rattle.std.specs.Prelude.{ℕ, Bool, true, false, not, ◌&&◌, if◌then◌else◌, List, [], ◌∷◌, Option, Some, None}
use Rattle.kernel_calls.specs.Below.{Cell, cell_or_fresh, cost, at_page, given, quota_of, State, is_live, child_of, map_refusal, unmap_refusal, protect_refusal, offer_refusal, withdraw_refusal, accept_refusal, spawn_refusal, fork_refusal, exit_refusal, loaded, after_load, after_store, after_map, after_unmap, after_protect, after_offer, after_withdraw, after_accept, after_spawn, after_fork, after_exit, Cause, plan_of, Plan, Read, Write}
use Rattle.kernel_calls.specs.declared.calls.Call.{Call}
use Rattle.kernel_calls.specs.declared.calls.Event.{Event}
use Rattle.kernel_calls.specs.declared.calls.Reply.{Reply}
use Rattle.page_words.specs.FiniteSet as set
use Rattle.process_table.specs.declared.causes.Cause.TheVariants as cause
use Rattle.fault_handler.specs.declared.plans.Plan.TheVariants as plan
use Rattle.kernel_calls.specs.declared.calls.Call.TheVariants as call
use Rattle.kernel_calls.specs.declared.calls.Reply.TheVariants as reply

-- a refusal where there is a cause, and else this reply
abbrev pub refused_or : Option Cause → Reply → Reply
refused_or (Some cause) otherwise = reply.Refused cause
refused_or None otherwise = otherwise

-- the reply to an access: its refusal or fault, and else this one
abbrev pub planned_or : Plan → Reply → Reply
planned_or (plan.Refused cause) otherwise = reply.Refused cause
planned_or (plan.Fault fault) otherwise = reply.Fault fault.addr fault.code
planned_or (plan.Ready first second) otherwise = otherwise

-- a cell's flags, and the size of its group
abbrev pub info_of : Cell → Reply
info_of cell = reply.Info cell.write cell.may cell.accessed cell.dirty (set.len cell.holders)

-- the reply to a call of a live process
abbrev pub answer_of : State → ℕ → Call → Reply
answer_of s p (call.Load addr size) = planned_or (plan_of s p addr size Read) (reply.Value (loaded s p addr size))
answer_of s p (call.Store addr size value) = planned_or (plan_of s p addr size Write) reply.Done
answer_of s p (call.Map page write) = refused_or (map_refusal s p page) reply.Done
answer_of s p (call.Unmap page) = refused_or (unmap_refusal s p page) reply.Done
answer_of s p (call.Protect page write) = refused_or (protect_refusal s p page write) reply.Done
answer_of s p (call.Info page) = refused_or (protect_refusal s p page false) (info_of (cell_or_fresh s.spaces (at_page p page)))
answer_of s p (call.Offer page target write) = refused_or (offer_refusal s p page target write) reply.Done
answer_of s p (call.Withdraw page target) = refused_or (withdraw_refusal s p page target) reply.Done
answer_of s p (call.Accept giver giver_page page) = refused_or (accept_refusal s p giver giver_page page) reply.Done
answer_of s p (call.Spawn quota) = refused_or (spawn_refusal s p quota) (reply.Child (child_of s))
answer_of s p (call.Fork quota) = refused_or (fork_refusal s p quota) (reply.Child (child_of s))
answer_of s p call.Exit = refused_or (exit_refusal s p) reply.Done
answer_of s p call.Quota = reply.Quota (quota_of s.book p) (cost s.spaces p) (given s.book p)

-- the reply to an event
abbrev pub answer : State → Event → Reply
answer s e = if is_live s e.pid then answer_of s e.pid e.call else reply.Refused cause.NoProcess

-- the state after a call that is neither refused nor a fault
abbrev pub after : State → ℕ → Call → State
after s p (call.Load addr size) = after_load s p addr size
after s p (call.Store addr size value) = after_store s p addr size value
after s p (call.Map page write) = after_map s p page write
after s p (call.Unmap page) = after_unmap s p page
after s p (call.Protect page write) = after_protect s p page write
after s p (call.Info page) = s
after s p (call.Offer page target write) = after_offer s p page target write
after s p (call.Withdraw page target) = after_withdraw s p page target
after s p (call.Accept giver giver_page page) = after_accept s p giver giver_page page
after s p (call.Spawn quota) = after_spawn s p quota
after s p (call.Fork quota) = after_fork s p quota
after s p call.Exit = after_exit s p
after s p call.Quota = s

-- neither a refusal nor a fault
abbrev pub completes : Reply → Bool
completes (reply.Refused _) = false
completes (reply.Fault _ _) = false
completes _ = true

-- the state after an event: a refusal or a fault changes nothing
abbrev pub next : State → Event → State
next s e = if completes (answer s e) then after s e.pid e.call else s

-- ---- Runs

-- the answer to each event, in order
abbrev pub answers : State → List Event → List Reply
answers s [] = []
answers s (e ∷ events) = answer s e ∷ answers (next s e) events

-- the last state
abbrev pub end_of : State → List Event → State
end_of s [] = s
end_of s (e ∷ events) = end_of (next s e) events

-- each reply is a refusal or a fault
abbrev pub none_completes : List Reply → Bool
none_completes [] = true
none_completes (r ∷ replies) = not (completes r) && none_completes replies
