-- Decisions on accesses, by their plans.
use Rattle.kernel_calls.proofs.Prelude.{◌≡◌, ℕ, true, false, refl, ap, sym, ◌∙◌, arith, if◌then◌else◌, Size, cost, State, is_live, View, loaded, after_load, after_store, Access, Read, Write, planned_by, plan_of, plan_at, step_of, step_at, goes_on, Plan, answer, answer_of, after, completes, planned_or, judged_of, plan_of_call, plan_of_event, charge_in, charge_after, planned, Event, Reply, PageStep}
use Rattle.kernel_calls.proofs.Decided.{next-stays, next-goes}
use Rattle.process_table.specs.declared.causes.Cause.TheVariants as cause
use Rattle.fault_handler.specs.declared.plans.Plan.TheVariants as plan
use Rattle.kernel_calls.specs.declared.calls.Call.TheVariants as call
use Rattle.kernel_calls.specs.declared.calls.Reply.TheVariants as reply

-- the reply to an access doesn't tell the steps of its pages
pub same_reply : (steps others : ℕ → PageStep) (s : State) (p address : ℕ) (size : Size) (access : Access) (r : Reply) → planned_or (planned_by steps s p address size access) r ≡ planned_or (planned_by others s p address size access) r
same_reply steps others s p address size access r = grind arith

-- an access is decided by its plan, where the reply is the definition's for one that goes on, and the charge that
-- of today for one that does not
module _ (v : View) (e : Event) (address : ℕ) (size : Size) (access : Access) (r full : Reply) (charge : ℕ)
    (live : is_live v.state e.pid ≡ true)
    (plan_is : plan_of_call v e.pid e.call ≡ plan_at v e.pid address size access)
    (reply_is : answer_of v.state e.pid e.call ≡ planned_or (plan_of v.state e.pid address size access) full)
    (full_goes : completes full ≡ true)
    (stays : goes_on (plan_at v e.pid address size access) ≡ false → charge ≡ cost v.state.spaces e.pid)
    (goes : goes_on (plan_at v e.pid address size access) ≡ true → (r ≡ full) × (charge_in (after v.state e.pid e.call) e.pid ≡ charge)) where
  abbrev now : Plan
  now = plan_at v e.pid address size access

  plan-live : (y : Plan) → now ≡ y → plan_of_event v e ≡ y
  plan-live y is = ap (λ b. if b then plan_of_call v e.pid e.call else plan.Refused cause.NoProcess) live ∙ plan_is ∙ is

  reply-live : (y : Plan) → now ≡ y → answer v.state e ≡ planned_or y full
  reply-live y is =
      ap (λ b. if b then answer_of v.state e.pid e.call else reply.Refused cause.NoProcess) live ∙ reply_is
      ∙ same_reply (step_of v.state e.pid) (step_at v e.pid access) v.state e.pid address size access full ∙ ap (λ z. planned_or z full) is

  stopped : goes_on now ≡ false → completes (answer v.state e) ≡ false → charge_after v.state e ≡ charge
  stopped stops h = ap (λ t. charge_in t e.pid) (next-stays v.state e h) ∙ ap (λ b. if b then cost v.state.spaces e.pid else 0) live ∙ sym (stays stops)

  by_plan : (y : Plan) → now ≡ y → planned y r charge ≡ judged_of v e
  by_plan (plan.Refused k) is =
      let told = reply-live (plan.Refused k) is in
      λ i. record { plan = sym (plan-live (plan.Refused k) is) i; reply = sym told i; used_after = sym (stopped (ap goes_on is) (ap completes told)) i }
  by_plan (plan.Fault f) is = grind (arith, reply-live, plan-live, stopped)
  by_plan (plan.Ready first second) is =
      let told = reply-live (plan.Ready first second) is in
      let both = goes (ap goes_on is) in
      let charged : charge_after v.state e ≡ charge = ap (λ t. charge_in t e.pid) (next-goes v.state e (ap completes told ∙ full_goes)) ∙ both.1 in
      λ i. record { plan = sym (plan-live (plan.Ready first second) is) i; reply = (both.0 ∙ sym told) i; used_after = sym charged i }

  decided-access : planned now r charge ≡ judged_of v e
  decided-access = by_plan now refl

pub decided-load : (v : View) (e : Event) (address : ℕ) (size : Size) (value charge : ℕ) → e.call ≡ call.Load address size → is_live v.state e.pid ≡ true
    → (goes_on (plan_at v e.pid address size Read) ≡ true → value ≡ loaded v.state e.pid address size)
    → (goes_on (plan_at v e.pid address size Read) ≡ true → charge ≡ cost (after_load v.state e.pid address size).spaces e.pid)
    → (goes_on (plan_at v e.pid address size Read) ≡ false → charge ≡ cost v.state.spaces e.pid)
    → planned (plan_at v e.pid address size Read) (reply.Value value) charge ≡ judged_of v e
decided-load v e address size value charge is live value_is charge_is stays =
    decided-access v e address size Read (reply.Value value) (reply.Value (loaded v.state e.pid address size)) charge live
    (ap (plan_of_call v e.pid) is) (ap (answer_of v.state e.pid) is) refl stays
    (λ g. (ap reply.Value (value_is g), ap (λ c. charge_in (after v.state e.pid c) e.pid) is ∙ ap (λ b. if b then cost (after_load v.state e.pid address size).spaces e.pid else 0) live ∙ sym (charge_is g)))

pub decided-store : (v : View) (e : Event) (address : ℕ) (size : Size) (value charge : ℕ) → e.call ≡ call.Store address size value → is_live v.state e.pid ≡ true
    → (goes_on (plan_at v e.pid address size Write) ≡ true → charge ≡ cost (after_store v.state e.pid address size value).spaces e.pid)
    → (goes_on (plan_at v e.pid address size Write) ≡ false → charge ≡ cost v.state.spaces e.pid)
    → planned (plan_at v e.pid address size Write) reply.Done charge ≡ judged_of v e
decided-store v e address size value charge is live charge_is stays =
    decided-access v e address size Write reply.Done reply.Done charge live
    (ap (plan_of_call v e.pid) is) (ap (answer_of v.state e.pid) is) refl stays
    (λ g. (refl, ap (λ c. charge_in (after v.state e.pid c) e.pid) is ∙ ap (λ b. if b then cost (after_store v.state e.pid address size value).spaces e.pid else 0) live ∙ sym (charge_is g)))
