-- Snapshots in bytes, and the verdict of a check in numbers.
use Rattle.std.specs.Prelude.{◌≡◌, ◌≢◌, ◌≤◌, ℕ, min, List, length, Some}
use Rattle.std.specs.Option.{option_map}
use Rattle.kernel_calls.specs.declared.calls.Reply.{Reply}
use Rattle.image_restore.specs.Resumed.{RefusesOffer}
use Rattle.process_table.specs.View.{View}
use Rattle.wide_image.specs.Faults.{fault_of}
use Rattle.wide_image.specs.Stored.{IsHeadOf}
use Rattle.wide_image.specs.Wide.{WideImage, Encodes}
use Rattle.wide_image.specs.declared.faults.WideImageFault.{WideImageFault}
use Rattle.wide_image.specs.declared.faults.WideImageFault.TheVariants as fault
use Rattle.tower_images.specs.Audits.{FailsProcess, FailsFrame}
use Rattle.tower_images.specs.declared.verdicts.TowerVerdict.{TowerVerdict}

-- bytes encode a snapshot for which this holds
abbrev pub EncodesOne : List ℕ → (WideImage → Type 0) → Type 0
EncodesOne bytes Holds = (image : WideImage) × (Encodes bytes image × Holds image)

-- how many bytes the machine's snapshot begins with, up to the frames' records
abbrev pub IsHeadLength : View → ℕ → Type 0
IsHeadLength core count = (head : List ℕ) × IsHeadOf core head × (count ≡ length head)

-- any snapshot
abbrev pub IsAny : WideImage → Type 0
IsAny image = Unit {0}

-- why bytes are no snapshot, and the place of the field that breaks its rule, or the highest number of 32 bits
abbrev pub whole_numbers : WideImageFault → TowerVerdict
whole_numbers fault.NotImage = record { number = 0; clause = 1 }
whole_numbers fault.BadLength = record { number = 0; clause = 2 }
whole_numbers fault.BadVersion = record { number = 0; clause = 3 }
whole_numbers (fault.BadField offset) = record { number = min offset 4294967295; clause = 4 }
whole_numbers fault.NoMemory = record { number = 0; clause = 0 }

-- the first reason against bytes
abbrev pub IsNoWhole : TowerVerdict → List ℕ → Type 0
IsNoWhole verdict bytes = option_map whole_numbers (fault_of bytes) ≡ Some verdict

-- the first process that fails a clause of its memory's image
abbrev pub FailsWholeProcess : TowerVerdict → WideImage → Type 0
FailsWholeProcess verdict image = FailsProcess verdict image.image

-- no process fails one; the first frame that does
abbrev pub FailsWholeFrame : TowerVerdict → WideImage → Type 0
FailsWholeFrame verdict image = FailsFrame verdict image.image

-- the number of the first offer that the machine refuses
abbrev pub RefusesWhole : TowerVerdict → WideImage → Type 0
RefusesWhole verdict image = (reply : Reply) × RefusesOffer image verdict.number reply

-- a status of a check or a restore that found something, or had no memory: 2 to 5, or 8
pub record IsRefusal (status : ℕ) : Type 0 where
  pub least : 2 ≤ status
  pub most : status ≤ 8
  pub words : status ≢ 6
  pub block : status ≢ 7
