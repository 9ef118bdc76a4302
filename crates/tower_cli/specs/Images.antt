-- What the commands on images write.
use Rattle.std.specs.Prelude.{◌≡◌, ◌⊎◌, ℕ, Bool, List, Option, Some, None, IfSome}
use Rattle.std.specs.Io.KnownBytes.{Appends, Keeps}
use Rattle.image_check.specs.Text.{verdict_text}
use Rattle.image_check.specs.Told.{fails_nothing, verdict_on}
use Rattle.kernel_calls.specs.Machine.{end_of}
use Rattle.memory_image.specs.Image.{Image}
use Rattle.text_output.specs.Output.{AppendsFront}
use Rattle.memory_image.specs.Reading.{IsRefusal}
use Rattle.memory_image.specs.Sound.{IsSound, StandsFor}
use Rattle.memory_image.specs.Spelling.{Spells, spelling}
use Rattle.memory_image.specs.declared.faults.ImageFault.TheVariants as image
use Rattle.image_restore.specs.Restored.{HasOldWords, IsRestored}
use Rattle.process_table.specs.State.{State}
use Rattle.process_table.specs.View.{View}
use Rattle.script_run.specs.Progress.{EndsReading}
use Rattle.script_run.specs.Script.{events_of, fault_of}
use Rattle.script_run.specs.declared.faults.ScriptFault.{ScriptFault}
use Rattle.script_run.specs.declared.faults.ScriptFault.TheVariants as script
use Rattle.command_answers.specs.declared.faults.ToolFault.{ToolFault}
use Rattle.command_answers.specs.declared.faults.ToolFault.TheVariants as tool

-- ---- The image of a script, from a state on

-- the image represents the state that the script ends in, which is whole
abbrev pub ShowsEnd : State → Option (List ℕ) → Image → Type 0
ShowsEnd begun remained image = IfSome remained (λ input. (fault_of input ≡ None) × StandsFor image (end_of begun (events_of input)))

-- an image in its own encoding was written
abbrev pub WritesImage : State → Option (List ℕ) → Option (List ℕ) → Option (List ℕ) → Type 0
WritesImage begun remained held holds = (image : Image) × ShowsEnd begun remained image × Spells (spelling image) image × Appends held holds (spelling image)

-- a front of such an image was written, and at least one byte of it was not
abbrev pub WritesFront : State → Option (List ℕ) → Option (List ℕ) → Option (List ℕ) → Type 0
WritesFront begun remained held holds = (image : Image) × ShowsEnd begun remained image × Spells (spelling image) image × AppendsFront held holds (spelling image)

-- the script is whole
abbrev pub IsWhole : Option (List ℕ) → Type 0
IsWhole remained = IfSome remained (λ input. fault_of input ≡ None)

-- this fault is in the script
abbrev pub HasFault : Option (List ℕ) → ScriptFault → Type 0
HasFault remained fault = IfSome remained (λ input. fault_of input ≡ Some fault)

-- why a script gave no image: a fault before anything was read, the script's own first fault, or a failed read; if
-- memory ran out, also after a whole script. Its replies are not written.
abbrev pub EndsScript : State → ScriptFault → Option (List ℕ) → Option (List ℕ) → Type 0
EndsScript begun script.BadSize remained remains = Keeps remained remains
EndsScript begun script.NoMemory remained remains = Keeps remained remains ⊎ IsWhole remained
EndsScript begun (script.Malformed line) remained remains = HasFault remained (script.Malformed line)
EndsScript begun script.TooLong remained remains = HasFault remained script.TooLong
EndsScript begun script.ReadFailed remained remains = EndsReading begun remained remains None None
EndsScript begun script.WriteFailed remained remains = ⊥

-- What was written of it before this fault: nothing, or, where a write failed, a front of it. A write fails only of the
-- image of a whole script.
abbrev pub EndsImage : State → ScriptFault → Option (List ℕ) → Option (List ℕ) → Option (List ℕ) → Option (List ℕ) → Type 0
EndsImage begun fault remained remains held holds = (EndsScript begun fault remained remains × Keeps held holds) ⊎ ((fault ≡ script.WriteFailed) × WritesFront begun remained held holds)

-- ---- The core of an image

-- the bytes encode an image that shows what the core does and represents its state, without any offer; or they encode
-- one of version 2 that isn't sound
abbrev pub Restores : List ℕ → Option View → Type 0
Restores bytes (Some core) = (image : Image) × Spells bytes image × IsRestored core image
Restores bytes None = (image : Image) × Spells bytes image × (image.version ≡ 2) × (IsSound image → ⊥)

-- why bytes gave neither: the first reason against them, or that their image is of version 1; out of memory only if
-- there is no reason against them
abbrev pub EndsRestore : List ℕ → ToolFault → Type 0
EndsRestore bytes tool.NotImage = IsRefusal bytes image.NotImage
EndsRestore bytes tool.BadVersion = IsRefusal bytes image.BadVersion ⊎ ((image : Image) × Spells bytes image × HasOldWords image)
EndsRestore bytes tool.BadLength = IsRefusal bytes image.BadLength
EndsRestore bytes (tool.BadField offset) = IsRefusal bytes (image.BadField offset)
EndsRestore bytes tool.NoMemory = IsRefusal bytes image.NoMemory
EndsRestore bytes tool.BadSize = ⊥
EndsRestore bytes tool.BadWideSize = ⊥
EndsRestore bytes (tool.Malformed line) = ⊥
EndsRestore bytes tool.TooLong = ⊥
EndsRestore bytes tool.ReadFailed = ⊥
EndsRestore bytes tool.WriteFailed = ⊥
EndsRestore bytes tool.RaceTurns = ⊥
EndsRestore bytes tool.RaceFailed = ⊥

-- ---- The check of an image

-- the bytes encode an image, of which the verdict was written; the result is whether the image is sound
abbrev pub Checks : List ℕ → Bool → Option (List ℕ) → Option (List ℕ) → Type 0
Checks bytes sound held holds = (image : Image) × Spells bytes image × (sound ≡ fails_nothing (verdict_on image)) × Appends held holds (verdict_text (verdict_on image))

-- what was written before this fault: nothing, unless a write failed; a refusal is that of the bytes
abbrev pub EndsCheck : List ℕ → ToolFault → Option (List ℕ) → Option (List ℕ) → Type 0
EndsCheck bytes tool.WriteFailed held holds = (image : Image) × Spells bytes image × AppendsFront held holds (verdict_text (verdict_on image))
EndsCheck bytes tool.NotImage held holds = IsRefusal bytes image.NotImage × Keeps held holds
EndsCheck bytes tool.BadVersion held holds = IsRefusal bytes image.BadVersion × Keeps held holds
EndsCheck bytes tool.BadLength held holds = IsRefusal bytes image.BadLength × Keeps held holds
EndsCheck bytes (tool.BadField offset) held holds = IsRefusal bytes (image.BadField offset) × Keeps held holds
EndsCheck bytes tool.NoMemory held holds = IsRefusal bytes image.NoMemory × Keeps held holds
EndsCheck bytes tool.BadSize held holds = ⊥
EndsCheck bytes tool.BadWideSize held holds = ⊥
EndsCheck bytes (tool.Malformed line) held holds = ⊥
EndsCheck bytes tool.TooLong held holds = ⊥
EndsCheck bytes tool.ReadFailed held holds = ⊥
EndsCheck bytes tool.RaceTurns held holds = ⊥
EndsCheck bytes tool.RaceFailed held holds = ⊥
