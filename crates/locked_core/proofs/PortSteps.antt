-- What a step of a port over a CPU is to the CPU.
use Rattle.std.proofs.Common.{◌≡◌, ◌≢◌, ◌==◌, ℕ, Bool, true, false, Result, Ok, Err, refl, sym, ap, subst, arith}
use Rattle.std.proofs.lemmas.Bool.Decides.{nat_tests}
use Rattle.guest_cpu.specs.Ports.{Answer}
use Rattle.kernel_calls.specs.declared.calls.Call.{Call}
use Rattle.kernel_calls.specs.declared.calls.Event.{Event}
use Rattle.kernel_calls.specs.declared.calls.Reply.{Reply}
use Rattle.locked_core.specs.Faults.{another_cpu, fault_number}
use Rattle.locked_core.specs.Makers.{Maker}
use Rattle.locked_core.specs.Names.{Names}
use Rattle.locked_core.specs.Ports.{by_number, step_by, IsPortStep, IsCpuCall, IsCpuStep}
use Rattle.locked_core.specs.declared.faults.Fault.{Fault}
use Rattle.locked_core.specs.declared.faults.Fault.TheVariants as fault

-- no fault of a CPU has the number of another CPU's event
not_another : (f : Fault) → fault_number f ≢ another_cpu
not_another fault.NoMemory = λ is. omega (arith, is)
not_another fault.Unread = λ is. omega (arith, is)
not_another fault.Disagree = λ is. omega (arith, is)
not_another fault.TooManyFrames = λ is. omega (arith, is)

module _ (frames : ℕ) (book : Names) {S : Type 0} (shown : S → Maker) (called : S → ℕ → Call → Result Reply Fault → S → Type 0)
    (is_call : (s : S) (pid : ℕ) (c : Call) (given : Result Reply Fault) (t : S) → called s pid c given t → IsCpuCall frames book (shown s) pid c given (shown t)) where
  by_given : (before : S) (event : Event) (after : S) → event.cpu ≡ (shown before).number → (given : Result Reply Fault) → IsCpuCall frames book (shown before) event.pid event.call given (shown after)
      → IsCpuStep frames book (shown before) event (by_number given) (shown after)
  by_given before event after same (Ok reply) made = (same, made.0, made.1)
  by_given before event after same (Err f) made = (λ other. absurd (other same), λ six. absurd (not_another f six), λ own. (f, made, refl))

  by_number_of : (b : Bool) (before : S) (event : Event) (answer : Answer) (after : S) → (event.cpu == (shown before).number) ≡ b → step_by called b before event answer after
      → IsCpuStep frames book (shown before) event answer (shown after)
  by_number_of true before event answer after is step =
      let same : event.cpu ≡ (shown before).number = grind (arith, nat_tests, is) in
      subst (λ a. IsCpuStep frames book (shown before) event a (shown after)) (sym step.2) (by_given before event after same step.0 (is_call before event.pid event.call step.0 after step.1))
  by_number_of false before event answer after is step =
      let other : event.cpu ≢ (shown before).number = grind (arith, nat_tests, is) in
      subst (λ a. IsCpuStep frames book (shown before) event a (shown after)) (sym step.0)
      (λ different. (refl, ap shown step.1), λ six. other, λ own. absurd (other own))

  -- a step of a port over whoever shows a CPU, and whose calls are the CPU's
  pub cpu_step : (before : S) (event : Event) (answer : Answer) (after : S) → IsPortStep (λ s. (shown s).number) called before event answer after
      → IsCpuStep frames book (shown before) event answer (shown after)
  cpu_step before event answer after step = by_number_of (event.cpu == (shown before).number) before event answer after refl step
