-- What the commands on snapshots read and write.
use Rattle.std.specs.Prelude.{◌≡◌, ◌≢◌, ◌⊎◌, ℕ, Bool, true, false, List, ◌++◌, Option, Some, None, IfSome, codes, decimal}
use Rattle.std.specs.Io.KnownBytes.{Appends, Keeps}
use Rattle.image_check.specs.Text.{verdict_text}
use Rattle.image_check.specs.Told.{fails_nothing, verdict_on}
use Rattle.kernel_calls.specs.Machine.{end_of}
use Rattle.kernel_calls.specs.declared.calls.Reply.{Reply}
use Rattle.image_restore.specs.Resumed.{IsResumed, IsSoundWide, RefusesOffer}
use Rattle.process_table.specs.State.{State}
use Rattle.process_table.specs.View.{View}
use Rattle.script_run.specs.Replies.{reply_line}
use Rattle.script_run.specs.Script.{events_of, fault_of}
use Rattle.script_run.specs.declared.faults.ScriptFault.{ScriptFault}
use Rattle.script_run.specs.declared.faults.ScriptFault.TheVariants as script
use Rattle.text_output.specs.Output.{AppendsFront}
use Rattle.wide_image.specs.Stored.{StoresMachine, StoresFront}
use Rattle.wide_image.specs.Streams.{EncodesAll}
use Rattle.wide_image.specs.Wide.{WideImage}
use Rattle.command_answers.specs.Faults.{IsFileFault, tool_of_script}
use Rattle.command_answers.specs.declared.faults.ToolFault.{ToolFault}
use Rattle.command_answers.specs.declared.faults.ToolFault.TheVariants as tool
use Rattle.tower_cli.specs.Images.{EndsScript}

-- ---- A core of a snapshot

-- the file's bytes encode a snapshot of which this core was made, with its offers; or they encode one that isn't sound
abbrev pub RestoresWhole : Option (List ℕ) → Option View → Type 0
RestoresWhole file (Some core) = (image : WideImage) × EncodesAll file image × IsResumed core image
RestoresWhole file None = (image : WideImage) × EncodesAll file image × (IsSoundWide image → ⊥)

-- ---- The check of a snapshot

-- the line of an offer that the machine refuses: its number, and the reply
unfoldable pub offer_line : ℕ → Reply → List ℕ
offer_line number reply = codes "offer " ++ (decimal number ++ (codes " " ++ reply_line reply))

-- What a check writes. Of a snapshot that is sound, offers included, the text of its verdict. If clauses fail, the text
-- of that verdict; if none does and the machine refuses an offer, the line of the first such offer.
abbrev pub IsTold : WideImage → Bool → List ℕ → Type 0
IsTold image true text = IsSoundWide image × (text ≡ verdict_text (verdict_on image.image))
IsTold image false text =
    ((fails_nothing (verdict_on image.image) ≡ false) × (text ≡ verdict_text (verdict_on image.image)))
    ⊎ ((number : ℕ) × (reply : Reply) × RefusesOffer image number reply × (text ≡ offer_line number reply))

-- the file's bytes encode a snapshot, of which this was written
abbrev pub ChecksWhole : Option (List ℕ) → Bool → Option (List ℕ) → Option (List ℕ) → Type 0
ChecksWhole file sound held holds = (image : WideImage) × EncodesAll file image × (text : List ℕ) × IsTold image sound text × Appends held holds text

-- a front of it was written, and at least one byte of it was not
abbrev pub ChecksFront : Option (List ℕ) → Option (List ℕ) → Option (List ℕ) → Type 0
ChecksFront file held holds = (image : WideImage) × EncodesAll file image × (sound : Bool) × (text : List ℕ) × IsTold image sound text × AppendsFront held holds text

-- why a snapshot isn't checked: the file gives none, and nothing was written; or a write failed
abbrev pub EndsCheckWhole : Option (List ℕ) → ToolFault → Option (List ℕ) → Option (List ℕ) → Type 0
EndsCheckWhole file fault held holds = (IsFileFault file fault × Keeps held holds) ⊎ ((fault ≡ tool.WriteFailed) × ChecksFront file held holds)

-- ---- The snapshot of a script

-- the script is whole, and this machine is in the state that it ends in
abbrev pub EndsIn : State → Option (List ℕ) → View → Type 0
EndsIn begun remained after = IfSome remained (λ input. (fault_of input ≡ None) × (after.state ≡ end_of begun (events_of input)))

-- the snapshot of such a machine was written
abbrev pub WritesWhole : State → Option (List ℕ) → Option (List ℕ) → Option (List ℕ) → Type 0
WritesWhole begun remained held holds = (after : View) × EndsIn begun remained after × StoresMachine after held holds

-- why none was: a fault of the script, or after it no memory, and nothing was written; or, after the script, a write
-- failed, and nothing or a front of the snapshot was
abbrev pub EndsWhole : State → ScriptFault → Option (List ℕ) → Option (List ℕ) → Option (List ℕ) → Option (List ℕ) → Type 0
EndsWhole begun fault remained remains held holds =
    (EndsScript begun fault remained remains × Keeps held holds)
    ⊎ ((fault ≡ script.WriteFailed) × (after : View) × EndsIn begun remained after × StoresFront after held holds)

-- why no machine of a number of frames was booted
abbrev pub IsBootFault : ToolFault → Type 0
IsBootFault fault = (fault ≡ tool.BadWideSize) ⊎ (fault ≡ tool.NoMemory)

-- no machine was booted, and nothing was read or written; or the script ended so from its opening on
abbrev pub EndsScriptWhole : State → ToolFault → Option (List ℕ) → Option (List ℕ) → Option (List ℕ) → Option (List ℕ) → Type 0
EndsScriptWhole begun fault remained remains held holds =
    (IsBootFault fault × Keeps remained remains × Keeps held holds)
    ⊎ ((ended : ScriptFault) × (ended ≢ script.BadSize) × (fault ≡ tool_of_script ended) × EndsWhole begun ended remained remains held holds)
