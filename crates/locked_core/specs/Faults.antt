-- The faults of a kernel by their numbers.
use Rattle.std.specs.Prelude.{ℕ}
use Rattle.locked_core.specs.declared.faults.Fault.{Fault}
use Rattle.locked_core.specs.declared.faults.Fault.TheVariants as fault

-- the number of a fault
abbrev pub fault_number : Fault → ℕ
fault_number fault.NoMemory = 1
fault_number fault.Unread = 3
fault_number fault.Disagree = 5
fault_number fault.TooManyFrames = 7

-- what a port answers for an event of another CPU
abbrev pub another_cpu : ℕ
another_cpu = 6
