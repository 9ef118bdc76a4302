-- The plan of an access of a live process.
use Rattle.std.specs.Prelude.{ℕ, Bool, true, false, not, ◌&&◌, if◌then◌else◌, Option, Some, None, Result, Ok, Err, find, option_map}
use Rattle.fault_handler.specs.Below.{page_number, covered, touched, second_page, is_user_page, Size, Slot, cell_or_fresh, at_page, slot_at, Access, is_write, page_fault, is_lazy_at, takes_stores, access_value, State, is_live, is_mapped, overdrawn, View, memory_of, NoProcess, Quota}
use Rattle.fault_handler.specs.declared.plans.PageStep.{PageStep}
use Rattle.fault_handler.specs.declared.plans.Plan.{Plan}
use Rattle.fault_handler.specs.declared.plans.Stop.{Stop}
use Rattle.fault_handler.specs.declared.plans.PageStep.TheVariants as step
use Rattle.fault_handler.specs.declared.plans.Plan.TheVariants as plan
use Rattle.fault_handler.specs.declared.plans.Stop.TheVariants as stop

-- the first byte of an access that lies outside the user range
abbrev pub outside : ℕ → Size → Option ℕ
outside address size = find (λ a. not (is_user_page (page_number a))) (covered address size)

-- a slot is mapped without the right to write
abbrev pub is_read_only : State → Slot → Bool
is_read_only s slot = is_mapped s slot && not (cell_or_fresh s.spaces slot).write

-- the first byte of an access that lies in a page that is mapped without the right to write
abbrev pub read_only : State → ℕ → ℕ → Size → Option ℕ
read_only s p address size = find (λ a. is_read_only s (slot_at p a)) (covered address size)

-- the first byte of a write that its process may not write
abbrev pub forbidden : State → ℕ → ℕ → Size → Access → Option ℕ
forbidden s p address size access = if is_write access then read_only s p address size else None

-- a fault at this byte, where there is one, and else this plan
abbrev pub fault_or : Option ℕ → Access → Bool → Plan → Plan
fault_or None access present otherwise = otherwise
fault_or (Some address) access present otherwise = plan.Fault (page_fault address access present)

-- the first line that applies, by the steps that pages take
abbrev pub planned_by : (ℕ → PageStep) → State → ℕ → ℕ → Size → Access → Plan
planned_by steps s p address size access =
    fault_or (outside address size) access false
    (fault_or (forbidden s p address size access) access true
    (if overdrawn s p (touched address size) then plan.Refused Quota else plan.Ready (steps (page_number address)) (option_map steps (second_page address size))))

-- the step of a page by the state alone
abbrev pub step_of : State → ℕ → ℕ → PageStep
step_of s p page = if is_mapped s (at_page p page) then step.Complete else step.MapZero

-- the step of a page as memory stands: a page that is written gets its frame first, where it is lazy
abbrev pub step_at : View → ℕ → Access → ℕ → PageStep
step_at v p access page =
    if not (is_mapped v.state (at_page p page)) then step.MapZero else
    if is_write access && is_lazy_at (memory_of v) (at_page p page) then step.Fill else
    step.Complete

-- a page takes an access as memory stands
abbrev pub takes_at : View → ℕ → Access → ℕ → Bool
takes_at v p access page = if is_write access then takes_stores v.state.spaces (memory_of v) (at_page p page) else is_mapped v.state (at_page p page)

-- the page is mapped first
abbrev pub maps_page : PageStep → Bool
maps_page step.MapZero = true
maps_page _ = false

-- the plan of an access by the state alone, which maps pages and fills none
abbrev pub plan_of : State → ℕ → ℕ → Size → Access → Plan
plan_of s p address size access = planned_by (step_of s p) s p address size access

-- the plan of an access as memory stands
abbrev pub plan_at : View → ℕ → ℕ → Size → Access → Plan
plan_at v p address size access = planned_by (step_at v p access) v.state p address size access

-- neither a refusal nor a fault
abbrev pub goes_on : Plan → Bool
goes_on (plan.Ready first second) = true
goes_on _ = false

-- the access completes as memory stands, in one page
abbrev pub at_once : Plan
at_once = plan.Ready step.Complete None

-- the access completes as memory stands, in one page or in two
abbrev pub takes_no_frame : Plan → Bool
takes_no_frame (plan.Ready step.Complete None) = true
takes_no_frame (plan.Ready step.Complete (Some step.Complete)) = true
takes_no_frame _ = false

-- ---- Results of accesses

-- the value of an access whose plan is Ready, otherwise why it stops
abbrev pub settled : Plan → ℕ → Result ℕ Stop
settled (plan.Refused cause) value = Err (stop.Refused cause)
settled (plan.Fault fault) value = Err (stop.Fault fault)
settled (plan.Ready first second) value = Ok value

-- of a process that isn't live: NoProcess
abbrev pub access_result : View → ℕ → ℕ → Size → Access → Result ℕ Stop
access_result v p address size access = if is_live v.state p then settled (plan_at v p address size access) (access_value v.state p address size access) else Err (stop.Refused NoProcess)
