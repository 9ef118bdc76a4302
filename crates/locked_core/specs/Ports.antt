-- What a port does with a guest's call, and what that is of a CPU.
--     IsPortStep      one call of whoever makes the port's calls, or 6 for an event of another CPU
--     IsCpuCall, IsCpuStep      what a CPU makes of a call, and a port over it
use Rattle.std.specs.Prelude.{◌≡◌, ◌≢◌, ℕ, ◌==◌, Bool, true, false, Result, Ok, Err}
use Rattle.guest_cpu.specs.Ports.{Answer}
use Rattle.kernel_calls.specs.declared.calls.Call.{Call}
use Rattle.kernel_calls.specs.declared.calls.Event.{Event}
use Rattle.kernel_calls.specs.declared.calls.Reply.{Reply}
use Rattle.locked_core.specs.Faults.{another_cpu, fault_number}
use Rattle.locked_core.specs.Makers.{Maker, Makes, Refuses}
use Rattle.locked_core.specs.Names.{Names}
use Rattle.locked_core.specs.declared.faults.Fault.{Fault}

-- what a port answers where the CPU answered so: the reply, or the fault by its number
abbrev pub by_number : Result Reply Fault → Answer
by_number (Ok reply) = Ok reply
by_number (Err fault) = Err (fault_number fault)

-- What a port does with an event. If the event is of the port's CPU, the caller makes one call; the answer is the
-- call's result, with a fault replaced by its number. Otherwise nothing is called, and the answer is 6.
abbrev pub step_by : {S : Type 0} → (S → ℕ → Call → Result Reply Fault → S → Type 0) → Bool → S → Event → Answer → S → Type 0
step_by called true before event answer after = (given : Result Reply Fault) × called before event.pid event.call given after × (answer ≡ by_number given)
step_by called false before event answer after = (answer ≡ Err another_cpu) × (after ≡ before)

-- a step of a port over whoever makes its calls, by the number of its CPU and what its calls do
abbrev pub IsPortStep : {S : Type 0} → (S → ℕ) → (S → ℕ → Call → Result Reply Fault → S → Type 0) → S → Event → Answer → S → Type 0
IsPortStep cpu_of called before event answer after = step_by called (event.cpu == cpu_of before) before event answer after

-- The result of a CPU's call: a reply is that of the call's entry; a fault is one that refused the call, and leaves
-- of the CPU what it says.
abbrev pub IsCpuCall : ℕ → Names → Maker → ℕ → Call → Result Reply Fault → Maker → Type 0
IsCpuCall frames book before pid call (Ok reply) after = (after.number ≡ before.number) × Makes frames before pid call after reply
IsCpuCall frames book before pid call (Err fault) after = Refuses frames book before after fault

-- a number of a fault that refuses a call of the CPU, and leaves that of it
abbrev pub IsNumberOfRefusal : ℕ → Names → Maker → Maker → ℕ → Type 0
IsNumberOfRefusal frames book before after number = (fault : Fault) × Refuses frames book before after fault × (number ≡ fault_number fault)

-- A reply is that of one call of this CPU. A fault is 6 exactly for an event of another CPU, and the CPU then stays as it
-- was. Otherwise it is the number of the fault that refused the call, and leaves of the CPU what that says.
abbrev pub IsCpuStep : ℕ → Names → Maker → Event → Answer → Maker → Type 0
IsCpuStep frames book before event (Ok reply) after = (event.cpu ≡ before.number) × (after.number ≡ before.number) × Makes frames before event.pid event.call after reply
IsCpuStep frames book before event (Err fault) after = (event.cpu ≢ before.number → (fault ≡ another_cpu) × (after ≡ before)) × (fault ≡ another_cpu → event.cpu ≢ before.number) × (event.cpu ≡ before.number → IsNumberOfRefusal frames book before after fault)
