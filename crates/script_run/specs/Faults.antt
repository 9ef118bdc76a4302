-- The texts of a script's faults.
use Rattle.std.specs.Prelude.{◌≡◌, ℕ, List, ◌++◌, codes, decimal}
use Rattle.page_words.specs.declared.faults.MachineFault.{MachineFault}
use Rattle.page_words.specs.declared.faults.MachineFault.TheVariants as boot
use Rattle.script_run.specs.declared.faults.ScriptFault.{ScriptFault}
use Rattle.script_run.specs.declared.faults.ScriptFault.TheVariants.{BadSize, NoMemory, Malformed, TooLong, ReadFailed, WriteFailed}

-- the message of a fault
abbrev pub fault_text : ScriptFault → List ℕ
fault_text BadSize = codes "tower: frames must be 16 to 4096"
fault_text NoMemory = codes "tower: out of memory"
fault_text (Malformed line) = codes "tower: line " ++ (decimal line ++ codes " is malformed")
fault_text TooLong = codes "tower: script is too long"
fault_text ReadFailed = codes "tower: read failed"
fault_text WriteFailed = codes "tower: write failed"

-- what a fault of the boot is to a script
abbrev pub BootGives : MachineFault → ScriptFault → Type 0
BootGives boot.BadSize fault = fault ≡ BadSize
BootGives boot.NoMemory fault = fault ≡ NoMemory
