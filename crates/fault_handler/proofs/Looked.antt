-- One lookup of each page of an access gives its plan and its charge.
use Rattle.fault_handler.proofs.Prelude.{◌≡◌, ℕ, ◌+◌, nat_lt, arith, Bool, true, ◌&&◌, cond, refl, sym, ap, ◌∙◌, Option, Some, None, if◌then◌else◌, option_map, option_and_then, page_number, slot_number, start_number, second_page, touched, Size, first_by_page, crosses, Spaces, at_page, cost, page_need, access_need, Access, Read, Write, extra_touched, View, Quota, Plan, outside, is_read_only, forbidden, fault_or, goes_on, look_of, planned_by_looks, ◌-◌, ◌==◌, look_behind, barred, need_by, fault_by, planned_at, need-in_one, need-in_two, second_need, Container, State, extra_cost, container_of}
use Rattle.process_table.proofs.Charged.{used-container}
use Rattle.fault_handler.specs.declared.plans.Look.{Look}
use Rattle.page_words.specs.FiniteMap as map
use Rattle.page_words.specs.FiniteSet as set
use Rattle.fault_handler.specs.declared.plans.Plan.TheVariants as plan
use Rattle.fault_handler.specs.declared.plans.Planned.{Planned}

-- ---- A container

-- ---- The pages

module _ (v : View) (p address : ℕ) (size : Size) (access : Access) where
  abbrev s : State
  s = v.state

  abbrev S : Spaces
  S = v.state.spaces

  abbrev page : ℕ
  page = page_number address

  abbrev first : Look
  first = look_of v p access address

  abbrev behind : Option ℕ → Option Look
  behind x = option_map (λ second. look_of v p access (start_number second)) x

  start : (second : ℕ) → page_number (start_number second) ≡ second
  start second = omega arith

  barred_is : barred access first (look_behind v p access (second_page address size)) ≡ forbidden s p address size access
  barred_is = by access (second_page address size) refl
    where
      test : ℕ → Bool
      test second = is_read_only s (at_page p second)

      by : (a : Access) (x : Option ℕ) → second_page address size ≡ x → barred a first (behind x) ≡ forbidden s p address size a
      by Read None is = refl
      by Read (Some second) is = refl
      by Write None is = sym (first_by_page test address size ∙ ap (λ y. cond (test page) (Some address) (option_and_then (λ n. cond (test n) (Some (start_number n)) None) y)) is)
      by Write (Some second) is = grind (arith, test, first_by_page)

  need_is : need_by first (look_behind v p access (second_page address size)) ≡ extra_cost s p (touched address size)
  need_is = by (second_page address size) refl ∙ sym (extra_touched s p address size)
    where
      by : (x : Option ℕ) → second_page address size ≡ x → need_by first (behind x) ≡ access_need S p address size
      by None is = sym (need-in_one S p address size is)
      by (Some second) is =
          ap (λ n. page_need S p page + (if nat_lt 0 (page_need S p page) && (nat_lt 0 (page_need S p n) && (slot_number page == slot_number n)) then 1 else page_need S p n)) (start second)
          ∙ ap (λ n. page_need S p page + n)
          ((grind arith)
          ∙ sym (second_need S p page second (λ e. omega (arith, e, (crosses address size second is).next))))
          ∙ sym (need-in_two S p address size second is)

  -- ---- The plan and the charge

  joined : (byte : Option ℕ) (full : Bool) (ready : Plan) (c : Container) (frames : ℕ) → goes_on ready ≡ true
      → fault_by byte access true c (if full then record { plan = plan.Refused Quota; charge = c.used } else record { plan = ready; charge = c.used + frames })
      ≡ (let x : Plan = fault_or byte access true (if full then plan.Refused Quota else ready) in record { plan = x; charge = if goes_on x then c.used + frames else c.used })
  joined byte full ready c frames goes = grind arith

  pub looked : (c : Container) → container_of s p ≡ Some c → outside address size ≡ None
      → planned_by_looks access first (look_behind v p access (second_page address size)) c ≡ planned_at v p address size access
  looked c has within = grind (arith, barred_is, nat_lt, need_is, joined, used-container)

  -- what is planned goes on with the charge that its pages need
  pub charge_goes : (x : Planned) → x ≡ planned_at v p address size access → goes_on x.plan ≡ true → x.charge ≡ cost S p + access_need S p address size
  charge_goes x is goes = grind (arith, extra_touched)
