-- Why a round ends early.
--     cause_of end      why a guest's end ends its round
--     boot_cause, kernel_cause, audit_cause      why a refusal does
--     graver, told_cause      the reported one of two causes
use Rattle.std.specs.Prelude.{◌==◌, Option, None, Some, if◌then◌else◌}
use Rattle.guest_cpu.specs.declared.runs.End.{End}
use Rattle.guest_cpu.specs.declared.runs.End.TheVariants as end
use Rattle.locked_core.specs.declared.faults.BootFault.{BootFault}
use Rattle.locked_core.specs.declared.faults.BootFault.TheVariants as boot
use Rattle.locked_core.specs.declared.faults.Fault.{Fault}
use Rattle.locked_core.specs.declared.faults.Fault.TheVariants as kernel
use Rattle.integrity_checker.specs.declared.faults.AuditFault.{AuditFault}
use Rattle.integrity_checker.specs.declared.faults.AuditFault.TheVariants as audit
use Rattle.guest_race.specs.declared.faults.RoundFault.{RoundFault}
use Rattle.guest_race.specs.declared.faults.RoundFault.TheVariants.{NoMemory, Turns, Failed}

-- the fault of a round, by the end of a guest
abbrev pub cause_of : End → Option RoundFault
cause_of end.Halted = None
cause_of end.OutOfTurns = Some Turns
cause_of (end.Stopped reply) = Some Failed
cause_of (end.PortFault fault) = if fault == 1 then Some NoMemory else Some Failed

-- the fault of a round whose kernel doesn't boot
abbrev pub boot_cause : BootFault → RoundFault
boot_cause boot.NoMemory = NoMemory
boot_cause boot.BadSize = Failed
boot_cause boot.BadCount = Failed

-- the fault of a round whose kernel refuses a call
abbrev pub kernel_cause : Fault → RoundFault
kernel_cause kernel.NoMemory = NoMemory
kernel_cause kernel.Unread = Failed
kernel_cause kernel.Disagree = Failed
kernel_cause kernel.TooManyFrames = Failed

-- the fault of a round whose audit is refused
abbrev pub audit_cause : AuditFault → RoundFault
audit_cause audit.NoMemory = NoMemory
audit_cause audit.BadCount = Failed
audit_cause audit.Missing = Failed

-- the graver of two causes: NoMemory, then Turns
abbrev pub graver : RoundFault → RoundFault → RoundFault
graver NoMemory b = NoMemory
graver Turns NoMemory = NoMemory
graver Turns Turns = Turns
graver Turns Failed = Turns
graver Failed b = b

-- the reported one of two causes
abbrev pub told_cause : Option RoundFault → Option RoundFault → Option RoundFault
told_cause None b = b
told_cause (Some a) None = Some a
told_cause (Some a) (Some b) = Some (graver a b)
