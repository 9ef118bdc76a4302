-- An access in one page of the user range: what it plans, by whether its page is mapped.
use Rattle.fault_handler.proofs.Prelude.{◌≡◌, ℕ, nat_lt, arith, true, false, [], ◌∷◌, refl, Some, None, first_by_page, if◌then◌else◌, page_number, second_page, touched, IsUserPage, Size, Spaces, at_page, cell_or_fresh, need, Access, Read, Write, State, is_mapped, overdrawn, View, Quota, access_value, Plan, is_read_only, forbidden, plan_at, ◌-◌, Ok, Err, extra_page, container_of, is_live, room, Container, access_result, settled, NoProcess, Slot, no_value}
use Rattle.fault_handler.proofs.Settled.{inside_by_page}
use Rattle.page_words.specs.FiniteMap as map
use Rattle.fault_handler.specs.declared.plans.Stop.TheVariants as stop
use Rattle.fault_handler.specs.declared.plans.PageStep.TheVariants as step
use Rattle.fault_handler.specs.declared.plans.Plan.TheVariants as plan

-- there is no room for a page where less is left than it needs
pub room_by : (s : State) (p page : ℕ) (c : Container) (left frames : ℕ) → container_of s p ≡ Some c → is_mapped s (at_page p page) ≡ false
    → left ≡ c.quota - c.used - c.given → frames ≡ need s.spaces p page → overdrawn s p (page ∷ []) ≡ nat_lt left frames
room_by s p page c left frames has none rest needs = grind (arith, extra_page)

module _ (v : View) (p address : ℕ) (size : Size) (user : IsUserPage (page_number address)) (within : second_page address size ≡ None) where
  abbrev s : State
  s = v.state

  abbrev page : ℕ
  page = page_number address

  alone : touched address size ≡ page ∷ []
  alone = grind (arith, within)

  allowed : (access : Access) → (access ≡ Write → is_read_only s (at_page p page) ≡ false) → forbidden s p address size access ≡ None
  allowed Read may = refl
  allowed Write may = grind (arith, first_by_page, within, may)

  result_by : (access : Access) (x : Plan) → plan_at v p address size access ≡ x → is_live s p ≡ true
      → access_result v p address size access ≡ settled x (access_value s p address size access)
  result_by access x is live = (λ i. if live i then settled (is i) (access_value s p address size access) else Err (stop.Refused NoProcess))

  pub new_refused : (access : Access) → is_live s p ≡ true → is_mapped s (at_page p page) ≡ false → overdrawn s p (page ∷ []) ≡ true
      → access_result v p address size access ≡ Err (stop.Refused Quota)
  new_refused access live none full = grind (arith, inside_by_page, allowed, alone, within, user, result_by)

  pub new_done : (access : Access) → is_live s p ≡ true → is_mapped s (at_page p page) ≡ false → overdrawn s p (page ∷ []) ≡ false
      → access_result v p address size access ≡ Ok (access_value s p address size access)
  new_done access live none room = grind (arith, inside_by_page, allowed, alone, within, user, result_by)

-- a page that isn't mapped is mapped with the right to write
pub new_right : (S : Spaces) (slot : Slot) → map.contains_key S slot ≡ false → (cell_or_fresh S slot).write ≡ true
new_right S slot none = grind (arith, no_value)
