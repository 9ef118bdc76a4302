-- The texts of a machine's faults.
use Rattle.std.specs.Prelude.{◌≡◌, ℕ, List, codes}
use Rattle.page_words.specs.declared.faults.MachineFault.{MachineFault}
use Rattle.page_words.specs.declared.faults.MachineFault.TheVariants.{BadSize, NoMemory}
use Rattle.page_words.specs.declared.faults.WideFault.{WideFault}
use Rattle.page_words.specs.declared.faults.WideFault.TheVariants as wide

-- the text of a fault
abbrev pub fault_text : MachineFault → List ℕ
fault_text BadSize = codes "frames must be 16 to 4096"
fault_text NoMemory = codes "out of memory"

-- the text of a wide machine's fault
abbrev pub wide_fault_text : WideFault → List ℕ
wide_fault_text wide.BadSize = codes "frames must be 16 to 1048576"
wide_fault_text wide.NoMemory = codes "out of memory"

-- what a wide machine's fault is to a machine
abbrev pub MachineGives : WideFault → MachineFault → Type 0
MachineGives wide.BadSize fault = fault ≡ BadSize
MachineGives wide.NoMemory fault = fault ≡ NoMemory
