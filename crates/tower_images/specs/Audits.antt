-- The result of a check of bytes, in numbers.
use Rattle.std.specs.Prelude.{◌≡◌, ℕ, ◌<◌, List, Some, None}
use Rattle.std.specs.Option.{option_map}
use Rattle.memory_image.specs.declared.faults.ImageFault.{ImageFault}
use Rattle.memory_image.specs.declared.faults.ImageFault.TheVariants as fault
use Rattle.memory_image.specs.Image.{Image, frames}
use Rattle.memory_image.specs.Refusals.{fault_of}
use Rattle.memory_image.specs.Spelling.{Spells}
use Rattle.image_check.specs.Codes.{process_number, frame_number}
use Rattle.image_check.specs.Verdict.{process_clause, frame_clause}
use Rattle.image_restore.specs.Failing.{IsFirst}
use Rattle.tower_images.specs.declared.verdicts.TowerVerdict.{TowerVerdict}

-- bytes encode an image for which this holds
abbrev pub SpellsOne : List ℕ → (Image → Type 0) → Type 0
SpellsOne bytes Holds = (image : Image) × (Spells bytes image × Holds image)

-- no process of an image fails a clause
abbrev pub NoProcessFails : Image → Type 0
NoProcessFails image = (p : ℕ) → p < 64 → process_clause image p ≡ None

-- the first process that fails a clause, and the clause's number
pub record FailsProcess (verdict : TowerVerdict) (image : Image) : Type 0 where
  pub process : verdict.number < 64
  pub first : IsFirst (λ p. option_map process_number (process_clause image p)) verdict.number verdict.clause

-- no process fails one; the first frame that does, and the clause's number
pub record FailsFrame (verdict : TowerVerdict) (image : Image) : Type 0 where
  pub processes : NoProcessFails image
  pub frame : verdict.number < frames image
  pub first : IsFirst (λ f. option_map frame_number (frame_clause image f)) verdict.number verdict.clause

-- why bytes are no image, and the place of the field that breaks its rule
abbrev pub fault_numbers : ImageFault → TowerVerdict
fault_numbers fault.NotImage = record { number = 0; clause = 1 }
fault_numbers fault.BadLength = record { number = 0; clause = 2 }
fault_numbers fault.BadVersion = record { number = 0; clause = 3 }
fault_numbers (fault.BadField offset) = record { number = offset; clause = 4 }
fault_numbers fault.NoMemory = record { number = 0; clause = 0 }

-- the first reason against bytes
abbrev pub IsNoImage : TowerVerdict → List ℕ → Type 0
IsNoImage verdict bytes = option_map fault_numbers (fault_of bytes) ≡ Some verdict
