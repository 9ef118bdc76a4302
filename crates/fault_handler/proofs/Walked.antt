-- An access whose walks find a frame for each of its pages completes as memory stands.
use Rattle.fault_handler.proofs.Prelude.{◌≡◌, ℕ, nat_lt, arith, true, false, None, if◌then◌else◌, option_map, page_number, second_page, touched, EachTouched, IsUserPage, Size, first_by_page, slot_at, at_page, takes_stores, with_touched-same, Access, Read, Write, extra_touched, State, is_mapped, overdrawn, View, memory_of, Quota, page_is_user, outside, forbidden, fault_or, step_at, plan_at, takes_no_frame, access_result, at_once, settled, takes_at, Err, Ok, ap, ◌∙◌, not-true, le-ltb, and_parts, access_value, is_live, NoProcess, Plan, cost-with_touched}
use Rattle.fault_handler.specs.declared.plans.Stop.TheVariants as stop
use Rattle.fault_handler.proofs.Settled.{all_user, each_page}
use Rattle.fault_handler.specs.declared.plans.PageStep.TheVariants as step
use Rattle.fault_handler.specs.declared.plans.Plan.TheVariants as plan

module _ (v : View) (p address : ℕ) (size : Size) where
  abbrev s : State
  s = v.state

  abbrev Takes : ℕ → Type 0
  Takes page = takes_stores s.spaces (memory_of v) (at_page p page) ≡ true

  all_steps : (access : Access) → EachTouched address size (λ page. is_mapped s (at_page p page) ≡ true) → (access ≡ Write → EachTouched address size Takes)
      → EachTouched address size (λ page. step_at v p access page ≡ step.Complete)
  all_steps access mapped takes = grind (arith, each_page, and_parts)

  none_forbidden : (access : Access) → (access ≡ Write → EachTouched address size Takes) → forbidden s p address size access ≡ None
  none_forbidden access takes = grind (arith, first_by_page, each_page, and_parts, not-true)

  -- what such an access plans
  planned : (access : Access) → EachTouched address size IsUserPage → EachTouched address size (λ page. is_mapped s (at_page p page) ≡ true) → (access ≡ Write → EachTouched address size Takes)
      → plan_at v p address size access ≡ plan.Ready step.Complete (option_map (step_at v p access) (second_page address size))
  planned access user mapped takes =
      (λ i. fault_or (inside i) access false (fault_or (none_forbidden access takes i) access true (if roomy i then plan.Refused Quota else plan.Ready ((all_steps access mapped takes).0 i) (option_map (step_at v p access) (second_page address size)))))
    where
      inside : outside address size ≡ None
      inside = grind (arith, each_page, page_is_user)

      roomy : overdrawn s p (touched address size) ≡ false
      roomy = grind (arith, cost-with_touched, with_touched-same, nat_lt, extra_touched, le-ltb)

  pub walk_completes : (access : Access) → EachTouched address size IsUserPage → EachTouched address size (λ page. is_mapped s (at_page p page) ≡ true) → (access ≡ Write → EachTouched address size Takes)
      → takes_no_frame (plan_at v p address size access) ≡ true
  walk_completes access user mapped takes = grind (arith, planned, all_steps)

  -- in one page
  pub completes_at_once : (access : Access) → second_page address size ≡ None → IsUserPage (page_number address)
      → is_mapped s (slot_at p address) ≡ true → (access ≡ Write → Takes (page_number address))
      → plan_at v p address size access ≡ at_once
  completes_at_once access within user mapped takes = grind (arith, planned)

  -- the result of an access that completes as memory stands
  completed : (access : Access) → is_live s p ≡ true → takes_no_frame (plan_at v p address size access) ≡ true
      → access_result v p address size access ≡ Ok (access_value s p address size access)
  completed access live ends =
      ap (λ b. if b then settled (plan_at v p address size access) (access_value s p address size access) else Err (stop.Refused NoProcess)) live
      ∙ (grind arith)

  pub taken : (access : Access) → outside address size ≡ None → EachTouched address size (λ page. takes_at v p access page ≡ true) → is_live s p ≡ true
      → access_result v p address size access ≡ Ok (access_value s p address size access)
  taken Read within takes live = completed Read live (walk_completes Read (all_user address size within) takes (λ w. cc))
  taken Write within takes live = completed Write live (walk_completes Write (all_user address size within)
      (each_page address size Takes (λ page. is_mapped s (at_page p page) ≡ true) (λ page h. (and_parts (is_mapped s (at_page p page)) _ h).0) takes) (λ w. takes))
