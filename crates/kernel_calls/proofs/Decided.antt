-- The decision of an event is carried out exactly if its reply is neither a refusal nor a fault.
use Rattle.kernel_calls.proofs.Prelude.{◌≡◌, ℕ, Bool, true, false, refl, ap, sym, subst, ◌∙◌, Option, Some, None, if◌then◌else◌, Result, Ok, Err, cost, at_page, State, is_live, child_of, protect_refusal, fork_refusal, after_protect, after_fork, fork-cost, may_protect, Cause, View, plan_of, plan_at, step_of, step_at, goes_on, same_stops, Plan, Size, Access, Read, Write, answer, answer_of, after, next, completes, refused_or, planned_or, judged_of, plan_of_call, plan_of_event, refused_plan, charge_in, charge_after, tested, spawned, Call, Event, Reply, arith, first_cause, number_unless, child_unless, map_answer, protect_answer, offer_answer, spawn_answer, fork_answer, cost-protected_of}
use Rattle.kernel_calls.proofs.Charges.{map_charge, spawn_lives, fork_lives}
use Rattle.process_table.specs.declared.causes.Cause.TheVariants as cause
use Rattle.fault_handler.specs.declared.plans.Plan.TheVariants as plan
use Rattle.kernel_calls.specs.declared.calls.Call.TheVariants as call
use Rattle.kernel_calls.specs.declared.calls.Reply.TheVariants as reply

goes-planned : (x : Plan) (r : Reply) → completes r ≡ true → goes_on x ≡ completes (planned_or x r)
goes-planned x r h = grind arith

-- whether a page is lazy has no say in whether an access goes on
goes-at : (v : View) (p address : ℕ) (size : Size) (access : Access) (r : Reply) → completes r ≡ true → goes_on (plan_at v p address size access) ≡ completes (planned_or (plan_of v.state p address size access) r)
goes-at v p address size access r h = same_stops (step_at v p access) (step_of v.state p) v.state p address size access ∙ goes-planned (plan_of v.state p address size access) r h

goes-refused : (x : Option Cause) (r : Reply) → completes r ≡ true → goes_on (refused_plan x) ≡ completes (refused_or x r)
goes-refused x r h = grind arith

pub goes-call : (v : View) (p : ℕ) (c : Call) → goes_on (plan_of_call v p c) ≡ completes (answer_of v.state p c)
goes-call v p (call.Load addr size) = goes-at v p addr size Read _ refl
goes-call v p (call.Store addr size value) = goes-at v p addr size Write _ refl
goes-call v p call.Quota = refl
goes-call v p _ = goes-refused _ _ refl

pub goes-event : (v : View) (e : Event) → goes_on (plan_of_event v e) ≡ completes (answer v.state e)
goes-event v e = grind (arith, goes-call)

pub next-stays : (s : State) (e : Event) → completes (answer s e) ≡ false → next s e ≡ s
next-stays s e h = ap (λ b. if b then after s e.pid e.call else s) h

pub next-goes : (s : State) (e : Event) → completes (answer s e) ≡ true → next s e ≡ after s e.pid e.call
next-goes s e h = ap (λ b. if b then after s e.pid e.call else s) h

-- what holds of a state holds of the next, if it does of the state after a call that completes
pub by_next : (P : State → Type 0) (s : State) (e : Event) → P s
    → (is_live s e.pid ≡ true → completes (answer_of s e.pid e.call) ≡ true → P (after s e.pid e.call)) → P (next s e)
by_next P s e stays goes = by (completes (answer s e)) refl
  where
    called : completes (answer s e) ≡ true → (is_live s e.pid ≡ true) × (completes (answer_of s e.pid e.call) ≡ true)
    called h = grind arith

    by : (b : Bool) → completes (answer s e) ≡ b → P (next s e)
    by true h = let c = called h in subst P (sym (next-goes s e h)) (goes c.0 c.1)
    by false h = subst P (sym (next-stays s e h)) stays

-- ---- Decisions by the test of a call

abbrev used-by : Option Cause → ℕ → ℕ → ℕ
used-by (Some k) used charge = used
used-by None used charge = charge

-- a refusal leaves the charge, and a call that goes on has its own
module _ (v : View) (e : Event) (x : Option Cause) (r : Reply) (charge : ℕ) (live : is_live v.state e.pid ≡ true) (goes : completes r ≡ true)
    (plan_is : plan_of_call v e.pid e.call ≡ refused_plan x) (reply_is : answer_of v.state e.pid e.call ≡ refused_or x r) (charged : x ≡ None → charge_in (after v.state e.pid e.call) e.pid ≡ charge) where
  plan-live : plan_of_event v e ≡ refused_plan x
  plan-live = ap (λ b. if b then plan_of_call v e.pid e.call else plan.Refused cause.NoProcess) live ∙ plan_is

  reply-live : answer v.state e ≡ refused_or x r
  reply-live = ap (λ b. if b then answer_of v.state e.pid e.call else reply.Refused cause.NoProcess) live ∙ reply_is

  charge-live : (y : Option Cause) → x ≡ y → answer v.state e ≡ refused_or y r → charge_after v.state e ≡ used-by y (cost v.state.spaces e.pid) charge
  charge-live y same is = grind (arith, next-stays, next-goes)

  decided : judged_of v e ≡ record { plan = refused_plan x; reply = refused_or x r; used_after = used-by x (cost v.state.spaces e.pid) charge }
  decided = λ i. record { plan = plan-live i; reply = reply-live i; used_after = charge-live x refl reply-live i }

first-cause : (s : State) (p : ℕ) (x : Option Cause) → is_live s p ≡ true → first_cause s p x ≡ x
first-cause s p x live = ap (λ b. if b then x else Some cause.NoProcess) live

-- done or refused, as the test of the call answers
decided-test : (v : View) (e : Event) (x : Option Cause) (charge used : ℕ) → is_live v.state e.pid ≡ true → used ≡ cost v.state.spaces e.pid
    → plan_of_call v e.pid e.call ≡ refused_plan x → answer_of v.state e.pid e.call ≡ refused_or x reply.Done → (x ≡ None → charge_in (after v.state e.pid e.call) e.pid ≡ charge)
    → tested (number_unless (first_cause v.state e.pid x) charge) used ≡ judged_of v e
decided-test v e x charge used live used_is plan_is reply_is charged = grind (arith, first-cause, decided)

pub decided-map : (v : View) (e : Event) (page : ℕ) (write : Bool) (used : ℕ) → e.call ≡ call.Map page write → is_live v.state e.pid ≡ true → used ≡ cost v.state.spaces e.pid
    → tested (map_answer v.state e.pid page) used ≡ judged_of v e
decided-map v e page write used is live used_is = grind (arith, decided-test, map_charge)

-- a page whose right is set is mapped, and so nothing is charged for it
protect-charge : (s : State) (p page : ℕ) (write : Bool) → protect_refusal s p page write ≡ None → cost (after_protect s p page write).spaces p ≡ cost s.spaces p
protect-charge s p page write allowed = cost-protected_of s.spaces (at_page p page) write p (may_protect s p page write allowed).mapped

pub decided-protect : (v : View) (e : Event) (page : ℕ) (write : Bool) (used : ℕ) → e.call ≡ call.Protect page write → is_live v.state e.pid ≡ true → used ≡ cost v.state.spaces e.pid
    → tested (protect_answer v.state e.pid page write) used ≡ judged_of v e
decided-protect v e page write used is live used_is = grind (arith, decided-test, protect-charge)

pub decided-offer : (v : View) (e : Event) (page target : ℕ) (write : Bool) (used : ℕ) → e.call ≡ call.Offer page target write → is_live v.state e.pid ≡ true → used ≡ cost v.state.spaces e.pid
    → tested (offer_answer v.state e.pid page target write) used ≡ judged_of v e
decided-offer v e page target write used is live used_is = grind (arith, decided-test)

-- the child or refused, as the test of the call answers
decided-child : (v : View) (e : Event) (x : Option Cause) (used : ℕ) → is_live v.state e.pid ≡ true → used ≡ cost v.state.spaces e.pid
    → plan_of_call v e.pid e.call ≡ refused_plan x → answer_of v.state e.pid e.call ≡ refused_or x (reply.Child (child_of v.state))
    → (x ≡ None → charge_in (after v.state e.pid e.call) e.pid ≡ cost v.state.spaces e.pid)
    → spawned (child_unless (first_cause v.state e.pid x) (child_of v.state)) used ≡ judged_of v e
decided-child v e x used live used_is plan_is reply_is charged = grind (arith, first-cause, decided)

pub decided-spawn : (v : View) (e : Event) (quota used : ℕ) → e.call ≡ call.Spawn quota → is_live v.state e.pid ≡ true → used ≡ cost v.state.spaces e.pid
    → spawned (spawn_answer v.state e.pid quota) used ≡ judged_of v e
decided-spawn v e quota used is live used_is = grind (arith, decided-child, spawn_lives)

pub decided-fork : (v : View) (e : Event) (quota used : ℕ) → e.call ≡ call.Fork quota → is_live v.state e.pid ≡ true → used ≡ cost v.state.spaces e.pid
    → spawned (fork_answer v.state e.pid quota) used ≡ judged_of v e
decided-fork v e quota used is live used_is =
    decided-child v e (fork_refusal v.state e.pid quota) used live used_is (ap (plan_of_call v e.pid) is) (ap (answer_of v.state e.pid) is)
    (λ allowed. ap (λ c. charge_in (after v.state e.pid c) e.pid) is ∙ ap (λ b. if b then cost (after_fork v.state e.pid quota).spaces e.pid else 0) (fork_lives v.state e.pid quota live) ∙ fork-cost v.state e.pid quota live allowed)
