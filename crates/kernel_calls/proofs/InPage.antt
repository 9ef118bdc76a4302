-- An access that is carried out in one step: its reply and the state after it are the definition's.
use Rattle.kernel_calls.proofs.Prelude.{◌≡◌, ℕ, true, false, ap, sym, ◌∙◌, Err, arith, Result, Ok, IsOk, IsErr, Size, FramesStay, Slot, memory_of, after, gone_of_call, Access, access_value, View, lazy_written, plan_of, settled, access_result, Plan, call_of, reply_to, answer, answer_of, completes, planned_or, Event, Reply, after_access, IsReplied, Stop}
use Rattle.kernel_calls.proofs.Planned.{same_reply}
use Rattle.kernel_calls.proofs.Tried.{is_replied}
use Rattle.fault_handler.specs.declared.plans.Stop.TheVariants as stop
use Rattle.kernel_calls.specs.declared.calls.Reply.TheVariants as reply

-- the reply to an access by what became of it
abbrev pub reply_by : Access → Result ℕ Stop → Reply
reply_by access (Ok value) = reply_to access value
reply_by access (Err (stop.Refused cause)) = reply.Refused cause
reply_by access (Err (stop.Fault fault)) = reply.Fault fault.addr fault.code

pub value_goes : (access : Access) (value : ℕ) → completes (reply_to access value) ≡ true
value_goes access value = grind arith

module _ (v : View) (e : Event) (address : ℕ) (size : Size) (access : Access) (value : ℕ) (is : e.call ≡ call_of access address size value) where
  abbrev made : ℕ
  made = access_value v.state e.pid address size access

  of_plan : (x : Plan) → planned_or x (reply_to access made) ≡ reply_by access (settled x made)
  of_plan x = grind arith

  of_call : (a : Access) → answer_of v.state e.pid (call_of a address size value) ≡ planned_or (plan_of v.state e.pid address size a) (reply_to a (access_value v.state e.pid address size a))
  of_call a = grind arith

  told : answer v.state e ≡ reply_by access (access_result v e.pid address size access)
  told = grind (arith, of_call, same_reply, of_plan)

  -- what is shown of it, by what became of it
  pub is_accessed : (w : View) (r : Result ℕ Stop) (q : Reply) → r ≡ access_result v e.pid address size access
      → (IsOk r → w.state ≡ after_access v.state e.pid address size access value)
      → FramesStay (lazy_written access e.pid address size) (memory_of v) (memory_of w) → (IsErr r → w ≡ v)
      → q ≡ reply_by access r → IsReplied v e q w
  is_accessed w r q result state =
      is_replied (reply_by access) (value_goes access) (stops access) v w e (call_of access address size value)
      (lazy_written access e.pid address size) r q is (goes access) (ap (reply_by access) result ∙ sym told)
      (λ ok. state ok ∙ there access)
    where
      stops : (a : Access) (k : Stop) → completes (reply_by a (Err k)) ≡ false
      stops a k = grind arith

      goes : (a : Access) (slot : Slot) (f : ℕ)
          → gone_of_call e.pid (call_of a address size value) slot f ≡ lazy_written a e.pid address size slot f
      goes a slot f = grind arith

      there : (a : Access) → after_access v.state e.pid address size a value
          ≡ after v.state e.pid (call_of a address size value)
      there a = grind arith
