-- The answer to a command line, and what was read and written for each answer.
--     DoesJob named raced asked answer ..      what a job with that answer read and wrote, by what says which files and rounds they were
--     AnswersWords named raced words answer ..      what a command line with that answer read and wrote
use Rattle.std.specs.Prelude.{◌≡◌, ◌≢◌, ◌≤◌, ◌↔◌, ◌⊎◌, ℕ, Bool, List, [], true, false, Option, Some, None, IfSome}
use Rattle.std.specs.Io.KnownBytes.{Appends, Keeps}
use Rattle.clap.specs.Words.{HasKind, Text, fault_of as clap_faults, subcommand_of}
use Rattle.clap.specs.declared.error.Error.{Error}
use Rattle.memory_report.specs.declared.rows.Row.{Row}
use Rattle.process_table.specs.State.{State, open_with}
use Rattle.process_table.specs.View.{View}
use Rattle.script_run.specs.Progress.{EndsBy}
use Rattle.script_run.specs.Script.{events_of, replies_text}
use Rattle.script_run.specs.declared.faults.ScriptFault.{ScriptFault}
use Rattle.script_run.specs.declared.faults.ScriptFault.TheVariants as script
use Rattle.command_answers.specs.Answers.{Refuses}
use Rattle.command_answers.specs.Faults.{IsFileFault, tool_of_script}
use Rattle.command_answers.specs.Files.{Content, IsContent, IsRead, SaysWhole}
use Rattle.command_answers.specs.declared.answers.Answer.{Answer}
use Rattle.command_answers.specs.declared.answers.Answer.TheVariants.{Done, NotSound, Failed, NotText, Refused}
use Rattle.command_answers.specs.declared.faults.ToolFault.{ToolFault}
use Rattle.command_answers.specs.declared.faults.ToolFault.TheVariants as tool
use Rattle.tower_cli.specs.Images.{Checks, EndsCheck, EndsImage, EndsRestore, IsWhole, Restores, WritesImage}
use Rattle.tower_cli.specs.Whole.{ChecksWhole, EndsCheckWhole, EndsScriptWhole, EndsWhole, RestoresWhole, WritesWhole}
use Rattle.tower_cli.specs.Jobs.{Asked, a_run, an_image, a_whole, a_check, a_resume, a_resumed_image, a_race, job_asked, tower_app}
use Rattle.tower_jobs.specs.Races.{EndsRace, Writes}

-- ---- Jobs

-- the replies were written of a whole script, or the run ended by the fault
abbrev pub RunsScript : ℕ → Answer → Option (List ℕ) → Option (List ℕ) → Option (List ℕ) → Option (List ℕ) → Type 0
RunsScript frames Done remained remains held holds = IsWhole remained × IfSome remained (λ input. Appends held holds (replies_text (open_with frames) (events_of input)))
RunsScript frames (Failed fault) remained remains held holds = (ended : ScriptFault) × (fault ≡ tool_of_script ended) × EndsBy (open_with frames) ended remained remains held holds
RunsScript frames NotSound remained remains held holds = ⊥
RunsScript frames NotText remained remains held holds = ⊥
RunsScript frames (Refused error) remained remains held holds = ⊥

-- the image of its last state was written of a whole script, or the run ended by the fault
abbrev pub ImagesScript : ℕ → Answer → Option (List ℕ) → Option (List ℕ) → Option (List ℕ) → Option (List ℕ) → Type 0
ImagesScript frames Done remained remains held holds = WritesImage (open_with frames) remained held holds
ImagesScript frames (Failed fault) remained remains held holds = (ended : ScriptFault) × (fault ≡ tool_of_script ended) × EndsImage (open_with frames) ended remained remains held holds
ImagesScript frames NotSound remained remains held holds = ⊥
ImagesScript frames NotText remained remains held holds = ⊥
ImagesScript frames (Refused error) remained remains held holds = ⊥

-- the snapshot of the machine that it leaves was written of a whole script, or the run ended by the fault
abbrev pub StoresScript : ℕ → Answer → Option (List ℕ) → Option (List ℕ) → Option (List ℕ) → Option (List ℕ) → Type 0
StoresScript frames Done remained remains held holds = WritesWhole (open_with frames) remained held holds
StoresScript frames (Failed fault) remained remains held holds = EndsScriptWhole (open_with frames) fault remained remains held holds
StoresScript frames NotSound remained remains held holds = ⊥
StoresScript frames NotText remained remains held holds = ⊥
StoresScript frames (Refused error) remained remains held holds = ⊥

-- ---- Files

-- what was read encodes an image of version 1 or 2, and it is sound or not; or the file was not read; or what was read
-- is refused
abbrev pub ChecksPlain : Answer → Option (List ℕ) → Option (List ℕ) → Option (List ℕ) → Type 0
ChecksPlain Done file held holds = (bytes : List ℕ) × IsRead file bytes × Checks bytes true held holds
ChecksPlain NotSound file held holds = (bytes : List ℕ) × IsRead file bytes × Checks bytes false held holds
ChecksPlain (Failed fault) file held holds = (((fault ≡ tool.NoMemory) ⊎ (fault ≡ tool.ReadFailed)) × Keeps held holds) ⊎ ((bytes : List ℕ) × IsRead file bytes × EndsCheck bytes fault held holds)
ChecksPlain NotText file held holds = ⊥
ChecksPlain (Refused error) file held holds = ⊥

-- the file's bytes encode a snapshot, and it is sound or not, offers included; or they encode none
abbrev pub ChecksStored : Answer → Option (List ℕ) → Option (List ℕ) → Option (List ℕ) → Type 0
ChecksStored Done file held holds = ChecksWhole file true held holds
ChecksStored NotSound file held holds = ChecksWhole file false held holds
ChecksStored (Failed fault) file held holds = EndsCheckWhole file fault held holds
ChecksStored NotText file held holds = ⊥
ChecksStored (Refused error) file held holds = ⊥

-- a file that begins as a snapshot does, or another
abbrev pub ChecksAs : Bool → Answer → Option (List ℕ) → Option (List ℕ) → Option (List ℕ) → Type 0
ChecksAs true answer file held holds = ChecksStored answer file held holds
ChecksAs false answer file held holds = ChecksPlain answer file held holds

-- the file was checked as its first bytes say; or these were not read
abbrev pub ChecksFile : Answer → Option (List ℕ) → Option (List ℕ) → Option (List ℕ) → Type 0
ChecksFile answer file held holds =
    ((answer ≡ Failed tool.ReadFailed) × Keeps held holds)
    ⊎ ((content : Option (List ℕ)) × (whole : Bool) × IsContent file content × SaysWhole whole content × ChecksAs whole answer content held holds)

-- a named file was checked so; or it was not opened
abbrev pub ChecksNamed : Content → Answer → Option (List ℕ) → Option (List ℕ) → Type 0
ChecksNamed named answer held holds =
    ((answer ≡ Failed tool.ReadFailed) × Keeps held holds)
    ⊎ ((file : Option (List ℕ)) × named file × ChecksFile answer file held holds)

-- a file's bytes encode a snapshot of which this core was made, with its offers; or what was read of it encodes an
-- image of version 2 of which it was made
abbrev pub HasCoreAs : Bool → Option (List ℕ) → View → Type 0
HasCoreAs true file core = RestoresWhole file (Some core)
HasCoreAs false file core = (bytes : List ℕ) × IsRead file bytes × Restores bytes (Some core)

-- the core of a file, which has a snapshot or not, as the first bytes say
abbrev pub HasCore : Bool → Option (List ℕ) → View → Type 0
HasCore whole file core = (content : Option (List ℕ)) × IsContent file content × SaysWhole whole content × HasCoreAs whole content core

-- why no core came of a file: its image isn't sound; or it was not read, or what was read is refused
abbrev pub LacksAs : Bool → Option (List ℕ) → Answer → Type 0
LacksAs true file NotSound = RestoresWhole file None
LacksAs true file (Failed fault) = IsFileFault file fault
LacksAs true file Done = ⊥
LacksAs true file NotText = ⊥
LacksAs true file (Refused error) = ⊥
LacksAs false file NotSound = (bytes : List ℕ) × IsRead file bytes × Restores bytes None
LacksAs false file (Failed fault) = ((fault ≡ tool.NoMemory) ⊎ (fault ≡ tool.ReadFailed)) ⊎ ((bytes : List ℕ) × IsRead file bytes × EndsRestore bytes fault)
LacksAs false file Done = ⊥
LacksAs false file NotText = ⊥
LacksAs false file (Refused error) = ⊥

-- the same of a file as its first bytes say; or these were not read
abbrev pub HasNoCore : Option (List ℕ) → Answer → Type 0
HasNoCore file answer =
    (answer ≡ Failed tool.ReadFailed)
    ⊎ ((content : Option (List ℕ)) × (whole : Bool) × IsContent file content × SaysWhole whole content × LacksAs whole content answer)

-- the core of the image that a named file has
abbrev pub HasNamedCore : Content → Bool → View → Type 0
HasNamedCore named whole core = (file : Option (List ℕ)) × named file × HasCore whole file core

-- why there is none: the file was not opened, or it has none
abbrev pub LacksNamedCore : Content → Answer → Type 0
LacksNamedCore named answer = (answer ≡ Failed tool.ReadFailed) ⊎ ((file : Option (List ℕ)) × named file × HasNoCore file answer)

-- ---- Scripts that resume

-- the replies were written of a whole script, from a state on, or the run ended by the fault
abbrev pub ResumesScript : State → Answer → Option (List ℕ) → Option (List ℕ) → Option (List ℕ) → Option (List ℕ) → Type 0
ResumesScript begun Done remained remains held holds = IsWhole remained × IfSome remained (λ input. Appends held holds (replies_text begun (events_of input)))
ResumesScript begun (Failed fault) remained remains held holds = (ended : ScriptFault) × (ended ≢ script.BadSize) × (fault ≡ tool_of_script ended) × EndsBy begun ended remained remains held holds
ResumesScript begun NotSound remained remains held holds = ⊥
ResumesScript begun NotText remained remains held holds = ⊥
ResumesScript begun (Refused error) remained remains held holds = ⊥

-- the image of its last state was written of a whole script, from a state on, or the run ended by the fault
abbrev pub ImagesResumed : State → Answer → Option (List ℕ) → Option (List ℕ) → Option (List ℕ) → Option (List ℕ) → Type 0
ImagesResumed begun Done remained remains held holds = WritesImage begun remained held holds
ImagesResumed begun (Failed fault) remained remains held holds = (ended : ScriptFault) × (ended ≢ script.BadSize) × (fault ≡ tool_of_script ended) × EndsImage begun ended remained remains held holds
ImagesResumed begun NotSound remained remains held holds = ⊥
ImagesResumed begun NotText remained remains held holds = ⊥
ImagesResumed begun (Refused error) remained remains held holds = ⊥

-- the snapshot of the machine that it leaves was written of a whole script, from a state on, or the run ended by the
-- fault
abbrev pub ImagesWhole : State → Answer → Option (List ℕ) → Option (List ℕ) → Option (List ℕ) → Option (List ℕ) → Type 0
ImagesWhole begun Done remained remains held holds = WritesWhole begun remained held holds
ImagesWhole begun (Failed fault) remained remains held holds = (ended : ScriptFault) × (ended ≢ script.BadSize) × (fault ≡ tool_of_script ended) × EndsWhole begun ended remained remains held holds
ImagesWhole begun NotSound remained remains held holds = ⊥
ImagesWhole begun NotText remained remains held holds = ⊥
ImagesWhole begun (Refused error) remained remains held holds = ⊥

-- a snapshot, or an image of version 2
abbrev pub ImagesAs : Bool → State → Answer → Option (List ℕ) → Option (List ℕ) → Option (List ℕ) → Option (List ℕ) → Type 0
ImagesAs true begun answer remained remains held holds = ImagesWhole begun answer remained remains held holds
ImagesAs false begun answer remained remains held holds = ImagesResumed begun answer remained remains held holds

-- No core came of the file, and nothing was read of the script or written. Or a core came of it, from whose state the
-- script ran.
abbrev pub ResumesFile : Content → Answer → Option (List ℕ) → Option (List ℕ) → Option (List ℕ) → Option (List ℕ) → Type 0
ResumesFile named answer remained remains held holds = (LacksNamedCore named answer × Keeps remained remains × Keeps held holds) ⊎ ((core : View) × (whole : Bool) × HasNamedCore named whole core × ResumesScript core.state answer remained remains held holds)

-- No core came of the file, as above. Or a core came of it, and the script ran for a snapshot or an image, as the file
-- has one.
abbrev pub ImagesFile : Content → Answer → Option (List ℕ) → Option (List ℕ) → Option (List ℕ) → Option (List ℕ) → Type 0
ImagesFile named answer remained remains held holds = (LacksNamedCore named answer × Keeps remained remains × Keeps held holds) ⊎ ((core : View) × (whole : Bool) × HasNamedCore named whole core × ImagesAs whole core.state answer remained remains held holds)

-- ---- Races and whole jobs

-- what says of so many frames that so many rounds were played, with these rows of the last
abbrev pub Rounds : Type 1
Rounds = ℕ → ℕ → List (Option Row) → Type 0

-- all rounds were played and their text written, or the race ended by the fault
abbrev pub PlaysRace : Rounds → ℕ → ℕ → Answer → Option (List ℕ) → Option (List ℕ) → Type 0
PlaysRace raced frames rounds Done held holds = Writes (raced frames rounds) rounds held holds
PlaysRace raced frames rounds (Failed fault) held holds = EndsRace (raced frames rounds) rounds fault held holds
PlaysRace raced frames rounds NotSound held holds = ⊥
PlaysRace raced frames rounds NotText held holds = ⊥
PlaysRace raced frames rounds (Refused error) held holds = ⊥

-- the answer is this fault exactly if there are not 16 to so many frames
abbrev pub RefusesSize : ToolFault → ℕ → ℕ → Answer → Type 0
RefusesSize fault most frames answer = (answer ≡ Failed fault) ↔ (16 ≤ frames → frames ≤ most → ⊥)

-- what standard input had left and has left, and what standard output held and holds; and of a named file its content
abbrev pub DoesJob : (Text → Content) → Rounds → Asked → Answer → Option (List ℕ) → Option (List ℕ) → Option (List ℕ) → Option (List ℕ) → Type 0
DoesJob named raced (a_run frames) answer remained remains held holds = RefusesSize tool.BadSize 4096 frames answer × RunsScript frames answer remained remains held holds
DoesJob named raced (an_image frames) answer remained remains held holds = RefusesSize tool.BadSize 4096 frames answer × ImagesScript frames answer remained remains held holds
DoesJob named raced (a_whole frames) answer remained remains held holds = RefusesSize tool.BadWideSize 1048576 frames answer × StoresScript frames answer remained remains held holds
DoesJob named raced (a_check file) answer remained remains held holds = Keeps remained remains × ChecksNamed (named file) answer held holds
DoesJob named raced (a_resume file) answer remained remains held holds = ResumesFile (named file) answer remained remains held holds
DoesJob named raced (a_resumed_image file) answer remained remains held holds = ImagesFile (named file) answer remained remains held holds
DoesJob named raced (a_race frames rounds) answer remained remains held holds = RefusesSize tool.BadSize 4096 frames answer × Keeps remained remains × PlaysRace raced frames rounds answer held holds

-- ---- Command lines

-- `clap` takes the arguments, and the job that they request was done; or it refuses them, or there was no memory for them,
-- and nothing was read or written
abbrev pub AnswersWords : (Text → Content) → Rounds → List (List ℕ) → Answer → Option (List ℕ) → Option (List ℕ) → Option (List ℕ) → Option (List ℕ) → Type 0
AnswersWords named raced words answer remained remains held holds =
    ((clap_faults tower_app words ≡ []) × (asked : Asked) × (job_asked (subcommand_of tower_app words) ≡ Some asked) × DoesJob named raced asked answer remained remains held holds)
    ⊎ ((error : Error) × HasKind (clap_faults tower_app words) error × Refuses error answer × Keeps remained remains × Keeps held holds)
