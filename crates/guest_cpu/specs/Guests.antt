-- A guest as contracts see it, and what each instruction does to it.
use Rattle.std.proofs.Common.{ℕ, ◌+◌, ◌-◌, ◌%◌, ◌^◌, ◌==◌, if◌then◌else◌, List, replicate, Option, Some, None, refl}
use Rattle.std.specs.Prelude.{slice_index, slice_set}
use Rattle.std.specs.Option.{option_map}
use Rattle.std.specs.Coded.{Coded, code_by, coded×, coded_list, coded_ℕ}
use Rattle.kernel_calls.specs.declared.calls.Call.{Call}
use Rattle.kernel_calls.specs.declared.calls.Call.TheVariants as call
use Rattle.kernel_calls.specs.declared.calls.Event.{Event}
use Rattle.kernel_calls.specs.declared.calls.Reply.{Reply}
use Rattle.kernel_calls.specs.declared.calls.Reply.TheVariants as reply
use Rattle.guest_cpu.specs.declared.instructions.Instruction.{Instruction}
use Rattle.guest_cpu.specs.declared.instructions.Instruction.TheVariants.{Set, Add, Load, Store, JumpEq, Jump, Sys, Halt}

-- a guest's model: its CPU, process, registers and counter
pub record GuestView : Type 0 where
  pub cpu : ℕ
  pub pid : ℕ
  -- eight numbers below 2 to the 32
  pub registers : List ℕ
  -- the place of the next instruction
  pub counter : ℕ

-- the code of a guest's model
abbrev pub view_code : Coded GuestView
view_code =
    code_by (ℕ × (ℕ × (List ℕ × ℕ))) (coded× coded_ℕ (coded× coded_ℕ (coded× (coded_list coded_ℕ) coded_ℕ)))
    (λ g. (g.cpu, (g.pid, (g.registers, g.counter)))) (λ p. record { cpu = p.0; pid = p.1.0; registers = p.1.1.0; counter = p.1.1.1 }) (λ _. refl)

-- a guest that has not begun
abbrev pub opening_guest : ℕ → ℕ → GuestView
opening_guest cpu pid = record { cpu = cpu; pid = pid; registers = replicate 8 0; counter = 0 }

-- the value of a register
abbrev pub register_of : GuestView → ℕ → ℕ
register_of g r = slice_index g.registers r

-- a guest with this value in a register
abbrev pub with_register : GuestView → ℕ → ℕ → GuestView
with_register g r value = record { cpu = g.cpu; pid = g.pid; registers = slice_set g.registers r value; counter = g.counter }

-- a guest at this place of its program
abbrev pub with_counter : GuestView → ℕ → GuestView
with_counter g place = record { cpu = g.cpu; pid = g.pid; registers = g.registers; counter = place }

-- ---- Calls

-- the call that an instruction makes
abbrev pub call_of : GuestView → Instruction → Option Call
call_of g (Load size to address) = Some (call.Load (register_of g address) size)
call_of g (Store size address value) = Some (call.Store (register_of g address) size (register_of g value))
call_of g (Sys to call) = Some call
call_of g (Set to value) = None
call_of g (Add to a b) = None
call_of g (JumpEq a b target) = None
call_of g (Jump target) = None
call_of g Halt = None

-- and the event that carries it
abbrev pub event_asked : GuestView → Instruction → Option Event
event_asked g instruction = option_map (λ call. record { cpu = g.cpu; pid = g.pid; call = call }) (call_of g instruction)

-- the difference of two numbers below 2 to the 32, modulo 2 to the 32
abbrev pub difference : ℕ → ℕ → ℕ
difference a b = (a + (2 ^ 32 - b)) % 2 ^ 32

-- what a reply gives to a register; none for a fault or a refusal
abbrev pub value_of : Reply → Option ℕ
value_of reply.Done = Some 0
value_of (reply.Value value) = Some value
value_of (reply.Child pid) = Some pid
value_of (reply.Info write may accessed dirty holders) = Some holders
value_of (reply.Quota quota used given) = Some (difference (difference quota used) given)
value_of (reply.Fault address code) = None
value_of (reply.Refused cause) = None

-- ---- Effects

-- the guest with what an instruction writes to a register, whose call, where it makes one, gave that value
abbrev pub guest_with_result : GuestView → Instruction → ℕ → GuestView
guest_with_result g (Set to value) given = with_register g to value
guest_with_result g (Add to a b) given = with_register g to ((register_of g a + register_of g b) % 2 ^ 32)
guest_with_result g (Load size to address) given = with_register g to given
guest_with_result g (Sys to call) given = with_register g to given
guest_with_result g (Store size address value) given = g
guest_with_result g (JumpEq a b target) given = g
guest_with_result g (Jump target) given = g
guest_with_result g Halt given = g

-- where the counter stands after it
abbrev pub place_after : GuestView → Instruction → ℕ
place_after g (JumpEq a b target) = if register_of g a == register_of g b then target else g.counter + 1
place_after g (Jump target) = target
place_after g Halt = g.counter
place_after g (Set to value) = g.counter + 1
place_after g (Add to a b) = g.counter + 1
place_after g (Load size to address) = g.counter + 1
place_after g (Store size address value) = g.counter + 1
place_after g (Sys to call) = g.counter + 1

-- a guest after an instruction
abbrev pub after : GuestView → Instruction → ℕ → GuestView
after g instruction given = with_counter (guest_with_result g instruction given) (place_after g instruction)
