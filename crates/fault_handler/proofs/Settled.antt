-- An access whose plan is Ready: what its plan says, and that its pages, mapped first, leave what the definition says.
use Rattle.fault_handler.proofs.Prelude.{◌≡◌, ℕ, arith, true, false, not, [], ◌∷◌, refl, sym, ap, ◌∙◌, Option, Some, None, option_map, page_number, second_page, touched, EachTouched, IsUserPage, Size, first_by_page, no_value, Slot, Spaces, at_page, cell_or_fresh, need, page_need, access_need, with_page, with_touched-same, touched-there, Access, Read, Write, View, access_value, after_access, page_is_user, Plan, outside, is_read_only, forbidden, step_at, maps_page, plan_at, goes_on, takes_no_frame, ◌≢◌, ◌≤◌, List, inl, inr, is_some, Cell, with_pages, planned_by, takes_at, cases_Bool, false≢true, le-ltb, lt-ltb, not-false, need-in_one, need-in_two, cost-with_page, extra_page, extra_touched, State, is_live, is_mapped, room, overdrawn, user_page, not_less}
use Rattle.std.specs.Prelude.{nat_lt}
use Rattle.process_table.specs.WellFormed.{IsWellFormed}
use Rattle.page_words.proofs.MapLemmas.{same_or_not, get-insert}
use Rattle.page_words.proofs.SetLemmas.{same_apart}
use Rattle.address_space.proofs.costs.AccessCosts.{key-insert}
use Rattle.fault_handler.specs.declared.plans.PageStep.{PageStep}
use Rattle.page_words.specs.FiniteMap as map
use Rattle.fault_handler.specs.declared.plans.PageStep.TheVariants as step
use Rattle.fault_handler.specs.declared.plans.Plan.TheVariants as plan

-- ---- Where no byte stops an access

-- what holds of each page, where something else does
pub each_page : (address : ℕ) (size : Size) (P Q : ℕ → Type 0) → ((page : ℕ) → P page → Q page) → EachTouched address size P → EachTouched address size Q
each_page address size P Q f h = grind arith

pub all_user : (address : ℕ) (size : Size) → outside address size ≡ None → EachTouched address size IsUserPage
all_user address size none = grind (arith, each_page, user_page, not-false, first_by_page)

-- ---- A plan that goes on

pub record Goes (steps : ℕ → PageStep) (s : State) (p address : ℕ) (size : Size) (access : Access) : Type 0 where
  pub outside : outside address size ≡ None
  pub allowed : forbidden s p address size access ≡ None
  pub room : overdrawn s p (touched address size) ≡ false
  pub is : planned_by steps s p address size access ≡ plan.Ready (steps (page_number address)) (option_map steps (second_page address size))

pub ready : (steps : ℕ → PageStep) (s : State) (p address : ℕ) (size : Size) (access : Access) → goes_on (planned_by steps s p address size access) ≡ true → Goes steps s p address size access
ready steps s p address size access g = grind arith

-- a process that isn't live has no room, and needs one frame at least
no_room : (s : State) (p : ℕ) → is_live s p ≡ false → room s p ≡ 0
no_room s p dead = grind arith

one_need : (S : Spaces) (p page : ℕ) → is_some (map.get S (at_page p page)) ≡ false → 1 ≤ page_need S p page
one_need S p page none = grind arith

some_need : (S : Spaces) (p address : ℕ) (size : Size) → is_some (map.get S (at_page p (page_number address))) ≡ false → 1 ≤ access_need S p address size
some_need S p address size none = by (second_page address size) refl where
  by : (x : Option ℕ) → second_page address size ≡ x → 1 ≤ access_need S p address size
  by None e = omega (arith, one_need S p (page_number address) none, need-in_one S p address size e)
  by (Some second) e = omega (arith, one_need S p (page_number address) none, need-in_two S p address size second e)

pub goes_live : (v : View) (p address : ℕ) (size : Size) (access : Access) → IsWellFormed v.state → goes_on (plan_at v p address size access) ≡ true → is_live v.state p ≡ true
goes_live v p address size access w g = elim (cases_Bool (is_live v.state p)) [
  | inl live ↦ live
  | inr dead ↦
      let none : is_mapped v.state (at_page p (page_number address)) ≡ false = owned (at_page p (page_number address)) dead in
      let need = some_need v.state.spaces p address size none in
      let room = no_room v.state p dead in
      let over : overdrawn v.state p (touched address size) ≡ true = lt-ltb _ _ (omega (arith, need, room, extra_touched v.state p address size)) in
      absurd (false≢true (sym (ready (step_at v p access) v.state p address size access g).room ∙ over))
]
  where
    owned : (slot : Slot) → is_live v.state slot.pid ≡ false → is_mapped v.state slot ≡ false
    owned slot dead = elim (cases_Bool (is_mapped v.state slot)) [
      | inl there ↦ grind (arith, w.owners, dead, there)
      | inr none ↦ none
    ]

-- where the state's plan goes on, the plan as memory stands does, and the other way round
pub same_stops : (steps others : ℕ → PageStep) (s : State) (p address : ℕ) (size : Size) (access : Access) → goes_on (planned_by steps s p address size access) ≡ goes_on (planned_by others s p address size access)
same_stops steps others s p address size access = grind arith

-- ---- The state with the pages of an access mapped

pub same_cells : (S : Spaces) (p : ℕ) (pages : List ℕ) (q : Slot) → cell_or_fresh (with_pages S p pages) q ≡ cell_or_fresh S q
same_cells S p [] q = refl
same_cells S p (page ∷ pages) q =
    same_cells (with_page S p page) p pages q ∙ (grind (arith, same_or_not, get-insert, no_value))

module _ (s : State) (p address : ℕ) (size : Size) where
  abbrev pages : List ℕ
  pages = touched address size

  abbrev pub mapped_state : State
  mapped_state = record s { spaces = with_pages s.spaces p pages }

  pub mapped_value : (access : Access) → access_value mapped_state p address size access ≡ access_value s p address size access
  mapped_value access = grind (arith, same_cells)

  pub mapped_after : (access : Access) (value : ℕ) → after_access mapped_state p address size access value ≡ after_access s p address size access value
  mapped_after access value = grind (arith, with_touched-same, touched-there)

  -- where no byte is forbidden, each page may be written
  pub each_right : (access : Access) → forbidden s p address size access ≡ None → access ≡ Write → EachTouched address size (λ page. (cell_or_fresh s.spaces (at_page p page)).write ≡ true)
  each_right Read none is = cc
  each_right Write none is =
      each_page address size (λ page. is_read_only s (at_page p page) ≡ false) (λ page. (cell_or_fresh s.spaces (at_page p page)).write ≡ true)
      (λ page h. (grind (arith, not-false)))
      (grind (arith, first_by_page))

  -- also once they are mapped
  pub mapped_right : (access : Access) → forbidden s p address size access ≡ None → access ≡ Write → EachTouched address size (λ page. (cell_or_fresh mapped_state.spaces (at_page p page)).write ≡ true)
  mapped_right access none is =
      each_page address size (λ page. (cell_or_fresh s.spaces (at_page p page)).write ≡ true) (λ page. (cell_or_fresh mapped_state.spaces (at_page p page)).write ≡ true)
      (λ page h. ap (λ (c : Cell). c.write) (same_cells s.spaces p pages (at_page p page)) ∙ h) (each_right access none is)

-- ---- An access in one page

-- it lies in the user range where its page does
pub inside_by_page : (address : ℕ) (size : Size) → IsUserPage (page_number address) → second_page address size ≡ None → outside address size ≡ None
inside_by_page address size user within = grind (arith, first_by_page, page_is_user)

-- its page is all that is mapped
pub mapped_alone : (s : State) (p address : ℕ) (size : Size) {t : State} {page : ℕ} → page ≡ page_number address → second_page address size ≡ None
    → t ≡ record s { spaces = with_page s.spaces p page } → t ≡ mapped_state s p address size
mapped_alone s p address size page within is = grind arith

-- its two pages are all that is mapped
pub mapped_both : (s : State) (p address : ℕ) (size : Size) {t u : State} {page second : ℕ} → page ≡ page_number address → second_page address size ≡ Some second
    → t ≡ record s { spaces = with_page s.spaces p page } → u ≡ record t { spaces = with_page t.spaces p second } → u ≡ mapped_state s p address size
mapped_both s p address size is there one two = grind arith

-- ---- Room for the pages

enough : (s : State) (p address : ℕ) (size : Size) → overdrawn s p (touched address size) ≡ false
    → access_need s.spaces p address size ≤ room s p
enough s p address size fits = grind (arith, not_less, extra_touched)

fits_page : (s : State) (p page : ℕ) → page_need s.spaces p page ≤ room s p → overdrawn s p (page ∷ []) ≡ false
fits_page s p page fits = ap (nat_lt (room s p)) (extra_page s p page) ∙ le-ltb (room s p) (page_need s.spaces p page) fits

pub first_room : (s : State) (p address : ℕ) (size : Size) → overdrawn s p (touched address size) ≡ false
    → overdrawn s p (page_number address ∷ []) ≡ false
first_room s p address size fits = by (second_page address size) refl
  where
    by : (x : Option ℕ) → second_page address size ≡ x → overdrawn s p (page_number address ∷ []) ≡ false
    by None is = grind (arith, need-in_one, enough, fits_page)
    by (Some second) is =
        let all = enough s p address size fits in
        fits_page s p (page_number address) (omega (arith, need-in_two s.spaces p address size second is, all))

pub second_room : (s : State) (p address : ℕ) (size : Size) (second : ℕ) → second_page address size ≡ Some second
    → overdrawn s p (touched address size) ≡ false
    → overdrawn (record s { spaces = with_page s.spaces p (page_number address) }) p (second ∷ []) ≡ false
second_room s p address size second is fits = grind (arith, enough, need-in_two, cost-with_page, fits_page)

-- a process that has room for a page is live
pub live_with_room : (s : State) (p page : ℕ) → need s.spaces p page ≤ room s p → is_live s p ≡ true
live_with_room s p page fits = grind arith

-- ---- What the steps say of what is mapped

abbrev first_in : Plan → PageStep
first_in (plan.Ready f g) = f
first_in _ = step.Complete

module _ (v : View) (p address : ℕ) (size : Size) (access : Access) where
  mapped_by_step : (page : ℕ) → is_mapped v.state (at_page p page) ≡ not (maps_page (step_at v p access page))
  mapped_by_step page = grind arith

  -- the plan that goes on with these steps
  steps_in : (f : PageStep) (g : Option PageStep) → plan.Ready f g ≡ plan_at v p address size access → plan.Ready f g ≡ plan.Ready (step_at v p access (page_number address)) (option_map (step_at v p access) (second_page address size))
  steps_in f g is = is ∙ (ready (step_at v p access) v.state p address size access (sym (ap goes_on is))).is

  pub first_mapped : (f : PageStep) (g : Option PageStep) → plan.Ready f g ≡ plan_at v p address size access → is_mapped v.state (at_page p (page_number address)) ≡ not (maps_page f)
  first_mapped f g is = mapped_by_step (page_number address) ∙ sym (ap (λ x. not (maps_page (first_in x))) (steps_in f g is))

  pub second_mapped : (f : PageStep) (g : Option PageStep) → plan.Ready f g ≡ plan_at v p address size access
      → option_map (λ page. is_mapped v.state (at_page p page)) (second_page address size) ≡ option_map (λ how. not (maps_page how)) g
  second_mapped f g is = grind (arith, steps_in, mapped_by_step)

-- a page is mapped or not, whatever another is
pub mapped_beside : (S : Spaces) (p page second : ℕ) → second ≢ page → map.contains_key (with_page S p page) (at_page p second) ≡ map.contains_key S (at_page p second)
mapped_beside S p page second apart = grind (arith, key-insert, same_apart)

-- ---- What completes as memory stands

complete_pages : (v : View) (x : Plan) (p address : ℕ) (size : Size) (access : Access) → x ≡ plan_at v p address size access → takes_no_frame x ≡ true
    → EachTouched address size (λ page. step_at v p access page ≡ step.Complete)
complete_pages v x p address size access is h = grind (arith, ready)

pub complete_takes : (v : View) (p address : ℕ) (size : Size) (access : Access) → takes_no_frame (plan_at v p address size access) ≡ true → EachTouched address size (λ page. takes_at v p access page ≡ true)
complete_takes v p address size Read h = grind (arith, each_page, complete_pages)
complete_takes v p address size Write h =
    let goes = ready (step_at v p Write) v.state p address size Write (grind arith) in
    let steps = complete_pages v (plan_at v p address size Write) p address size Write refl h in
    let right = each_right v.state p address size Write goes.allowed refl in
    grind arith
