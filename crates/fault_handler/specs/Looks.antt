-- What one lookup of each page of an access gives, and the plan that follows from it.
use Rattle.std.specs.Prelude.{ℕ, ◌+◌, ◌-◌, ◌==◌, nat_lt, Bool, true, ◌&&◌, if◌then◌else◌, Option, Some, None, Result, Ok, Err, option_map}
use Rattle.fault_handler.specs.Below.{page_number, slot_number, start_number, touched, Size, cost, page_need, slot_at, Container, Access, is_write, page_fault, extra_cost, View, Quota}
use Rattle.fault_handler.specs.declared.plans.Look.{Look}
use Rattle.fault_handler.specs.declared.plans.Plan.{Plan}
use Rattle.fault_handler.specs.declared.plans.Planned.{Planned}
use Rattle.fault_handler.specs.Plans.{is_read_only, step_at, plan_at, goes_on}
use Rattle.fault_handler.specs.declared.plans.Plan.TheVariants as plan

-- what is seen of the page that a byte lies in
abbrev pub look_of : View → ℕ → Access → ℕ → Look
look_of v p access byte = record { byte = byte; step = step_at v p access (page_number byte); read_only = is_read_only v.state (slot_at p byte); need = page_need v.state.spaces p (page_number byte) }

-- what is seen of the second page of an access, where there is one
abbrev pub look_behind : View → ℕ → Access → Option ℕ → Option Look
look_behind v p access second = option_map (λ page. look_of v p access (start_number page)) second

-- the second page of an access, or its first byte outside the user range, where there is one
abbrev pub reach_by : Option ℕ → Option ℕ → Result (Option ℕ) ℕ
reach_by None second = Ok second
reach_by (Some byte) second = Err byte

-- the first byte that the access may not have
abbrev pub barred : Access → Look → Option Look → Option ℕ
barred access first None = if is_write access && first.read_only then Some first.byte else None
barred access first (Some second) = if is_write access && first.read_only then Some first.byte else if is_write access && second.read_only then Some second.byte else None

-- both pages are not mapped, and lie in one region of 1,024 pages
abbrev pub open_one_region : Look → Look → Bool
open_one_region first second = nat_lt 0 first.need && (nat_lt 0 second.need && (slot_number (page_number first.byte) == slot_number (page_number second.byte)))

-- what the pages need together
abbrev pub need_by : Look → Option Look → ℕ
need_by first None = first.need
need_by first (Some second) = first.need + (if open_one_region first second then 1 else second.need)

-- the plan of an access to pages that the process may have
abbrev pub ready_by : Look → Option Look → Plan
ready_by first second = plan.Ready first.step (option_map (λ look. look.step) second)

-- that plan, or Quota, by what is left of the process's quota
abbrev pub roomy_by : Look → Option Look → Container → Planned
roomy_by first second c = if nat_lt (c.quota - c.used - c.given) (need_by first second) then record { plan = plan.Refused Quota; charge = c.used } else record { plan = ready_by first second; charge = c.used + need_by first second }

-- a fault at this byte, where there is one
abbrev pub fault_by : Option ℕ → Access → Bool → Container → Planned → Planned
fault_by (Some byte) access present c otherwise = record { plan = plan.Fault (page_fault byte access present); charge = c.used }
fault_by None access present c otherwise = otherwise

-- the plan of an access to pages of the user range
abbrev pub planned_by_looks : Access → Look → Option Look → Container → Planned
planned_by_looks access first second c = fault_by (barred access first second) access true c (roomy_by first second c)

-- what a process is charged for after what is planned
abbrev pub charge_by : View → ℕ → ℕ → Size → Plan → ℕ
charge_by v p address size plan = if goes_on plan then cost v.state.spaces p + extra_cost v.state p (touched address size) else cost v.state.spaces p

-- a plan with its charge
abbrev pub planned_at : View → ℕ → ℕ → Size → Access → Planned
planned_at v p address size access = record { plan = plan_at v p address size access; charge = charge_by v p address size (plan_at v p address size access) }
