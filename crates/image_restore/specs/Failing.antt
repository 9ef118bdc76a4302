-- The first clause that fails of an image.
use Rattle.std.specs.Prelude.{◌≡◌, ℕ, ◌<◌, Option, Some, None}
use Rattle.image_check.specs.Verdict.{process_clause, frame_clause}
use Rattle.memory_image.specs.Image.{Image, frames}
use Rattle.image_restore.specs.declared.faults.Failed.{Failed}
use Rattle.image_restore.specs.declared.faults.Failed.TheVariants as failed
use Rattle.image_restore.specs.declared.faults.RestoreFault.{RestoreFault}
use Rattle.image_restore.specs.declared.faults.RestoreFault.TheVariants as fault

-- the least number that fails something, and what it fails
pub record IsFirst {C : Type 0} (failed : ℕ → Option C) (number : ℕ) (clause : C) : Type 0 where
  pub here : failed number ≡ Some clause
  pub least : (other : ℕ) → other < number → failed other ≡ None

-- the first frame that fails a clause, where no process does
pub record FailsFrame (image : Image) (frame : ℕ) : Type 0 where
  pub processes : (p : ℕ) → p < 64 → process_clause image p ≡ None
  pub inside : frame < frames image

-- the first clause that fails of an image
abbrev pub FailsFirst : Image → Failed → Type 0
FailsFirst image (failed.Process p clause) = (p < 64) × IsFirst (process_clause image) p clause
FailsFirst image (failed.Frame f clause) = FailsFrame image f × IsFirst (frame_clause image) f clause

-- a fault that names a clause names the first that fails
abbrev pub NamesClause : Image → RestoreFault → Type 0
NamesClause image fault.OldWords = Unit {0}
NamesClause image (fault.NotSound named) = FailsFirst image named
NamesClause image fault.NoMemory = Unit {0}
