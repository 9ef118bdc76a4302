-- The drawing of the bytes of an image, and the answer to a command line that requests it.
use Rattle.std.specs.Prelude.{◌≡◌, ◌⊎◌, ℕ, Bool, true, false, List, [], Option, Some, option_and_then, slice_get, codes}
use Rattle.std.specs.Option.{option_map_or}
use Rattle.std.specs.Str.{bytes_eq}
use Rattle.std.specs.Io.KnownBytes.{Appends, Keeps}
use Rattle.clap.specs.Words.{App, HasKind, Row, Rule, Text, all_of, fault_of as clap_faults, matches_of, new_app, new_rule, with_rule}
use Rattle.clap.specs.declared.builder.action.ArgAction.TheVariants.{SetTrue}
use Rattle.clap.specs.declared.error.Error.{Error}
use Rattle.image_check.specs.Told.{fails_nothing, verdict_on}
use Rattle.memory_image.specs.Image.{Image}
use Rattle.memory_image.specs.Reading.{IsRefusal}
use Rattle.memory_image.specs.Spelling.{Spells}
use Rattle.memory_image.specs.declared.faults.ImageFault.{ImageFault}
use Rattle.text_output.specs.Output.{AppendsFront}
use Rattle.command_answers.specs.Answers.{Refuses}
use Rattle.command_answers.specs.Faults.{IsFileFault, tool_of_image}
use Rattle.command_answers.specs.Files.{Content, IsContent, IsRead, SaysWhole, file_argument, file_in}
use Rattle.command_answers.specs.declared.answers.Answer.{Answer}
use Rattle.command_answers.specs.declared.answers.Answer.TheVariants.{Done, NotSound, Failed, NotText, Refused}
use Rattle.command_answers.specs.declared.faults.ToolFault.{ToolFault}
use Rattle.command_answers.specs.declared.faults.ToolFault.TheVariants as tool
use Rattle.map_jobs.specs.declared.drawing.Form.{Form}
use Rattle.map_jobs.specs.declared.drawing.Form.TheVariants as form
use Rattle.map_jobs.specs.declared.jobs.Request.{Request}
use Rattle.image_map.specs.Text.{map_text}
use Rattle.image_map.specs.declared.formats.Format.{Format}
use Rattle.image_map.specs.declared.formats.Format.TheVariants as format
use Rattle.wide_image.specs.Streams.{EncodesAll}
use Rattle.wide_image.specs.Wide.{WideImage}

-- ---- Drawings

-- the text of a file of this format was written; of a picture nothing is said
abbrev pub Shows : Form → Format → Image → Option (List ℕ) → Option (List ℕ) → Type 0
Shows form.Text kind image held holds = Appends held holds (map_text kind image)
Shows form.Picture kind image held holds = Unit {0}

-- a front of the text was written, and at least one byte of it was not
abbrev pub ShowsFront : Form → Format → Image → Option (List ℕ) → Option (List ℕ) → Type 0
ShowsFront form.Text kind image held holds = AppendsFront held holds (map_text kind image)
ShowsFront form.Picture kind image held holds = Unit {0}

-- there is no memory for a picture, and nothing was written; or a write failed
abbrev pub EndsForm : Form → Format → Image → ToolFault → Option (List ℕ) → Option (List ℕ) → Type 0
EndsForm form kind image fault held holds = ((fault ≡ tool.NoMemory) × Keeps held holds) ⊎ ((fault ≡ tool.WriteFailed) × ShowsFront form kind image held holds)

-- the bytes encode an image, which was drawn; the result is whether the image is sound
abbrev pub Draws : Form → List ℕ → Bool → Option (List ℕ) → Option (List ℕ) → Type 0
Draws form bytes sound held holds = (image : Image) × Spells bytes image × (sound ≡ fails_nothing (verdict_on image)) × Shows form (format.Image image.version) image held holds

-- the bytes are refused, or there is no memory, and nothing was written; or a write failed
abbrev pub EndsDrawing : Form → List ℕ → ToolFault → Option (List ℕ) → Option (List ℕ) → Type 0
EndsDrawing form bytes fault held holds =
    ((refusal : ImageFault) × (fault ≡ tool_of_image refusal) × IsRefusal bytes refusal × Keeps held holds)
    ⊎ ((image : Image) × (fault ≡ tool.WriteFailed) × Spells bytes image × ShowsFront form (format.Image image.version) image held holds)

-- the file's bytes encode a snapshot, which was drawn; the result is whether it is sound apart from its offers
abbrev pub DrawsWhole : Form → Option (List ℕ) → Bool → Option (List ℕ) → Option (List ℕ) → Type 0
DrawsWhole form file sound held holds = (image : WideImage) × EncodesAll file image × (sound ≡ fails_nothing (verdict_on image.image)) × Shows form format.Snapshot image.image held holds

-- the file gives no image, or there is no memory, and nothing was written; or a write failed
abbrev pub EndsWhole : Form → Option (List ℕ) → ToolFault → Option (List ℕ) → Option (List ℕ) → Type 0
EndsWhole form file fault held holds =
    (IsFileFault file fault × Keeps held holds)
    ⊎ ((image : WideImage) × (fault ≡ tool.WriteFailed) × EncodesAll file image × ShowsFront form format.Snapshot image.image held holds)

-- ---- Command lines

-- --svg
abbrev pub svg_flag : Rule
svg_flag = record (new_rule (codes "svg")) { long = Some (codes "svg"); action = Some SetTrue }

-- memory_map [--svg] FILE
abbrev pub map_app : App
map_app = with_rule (with_rule (new_app (codes "memory_map")) svg_flag) file_argument

-- a picture where the flag is there, and else text
abbrev pub form_of : Bool → Form
form_of true = form.Picture
form_of false = form.Text

-- whether the flag is there
abbrev pub is_svg : List Row → Bool
is_svg rows = option_map_or (λ text. bytes_eq text (codes "true")) (option_and_then (λ (values : List Text). slice_get values 0) (all_of (codes "svg") rows)) false

-- the form that the arguments request: SVG, or text
abbrev pub form_in : List Row → Form
form_in rows = form_of (is_svg rows)

-- what the arguments request: a form, and a file's name
abbrev pub Asked : Type 0
Asked = Form × Text

-- a request as the definitions name it
abbrev pub as_asked : Request → Asked
as_asked request = (request.form, request.file.now)

-- the request in what `clap` found
abbrev pub request_in : List Row → Asked
request_in rows = (form_in rows, file_in rows)

-- the request in a command line
abbrev pub request_asked : List Text → Asked
request_asked words = request_in (matches_of map_app words)

-- ---- Answers

-- what was read encodes an image of version 1 or 2, which was drawn, and it is sound or not; or the file was not read; or
-- what was read is refused
abbrev pub DrawsPlain : Form → Answer → Option (List ℕ) → Option (List ℕ) → Option (List ℕ) → Type 0
DrawsPlain form Done file held holds = (bytes : List ℕ) × IsRead file bytes × Draws form bytes true held holds
DrawsPlain form NotSound file held holds = (bytes : List ℕ) × IsRead file bytes × Draws form bytes false held holds
DrawsPlain form (Failed fault) file held holds = (((fault ≡ tool.NoMemory) ⊎ (fault ≡ tool.ReadFailed)) × Keeps held holds) ⊎ ((bytes : List ℕ) × IsRead file bytes × EndsDrawing form bytes fault held holds)
DrawsPlain form NotText file held holds = ⊥
DrawsPlain form (Refused error) file held holds = ⊥

-- the file's bytes encode a snapshot, which was drawn, and it is sound or not; or they encode none
abbrev pub DrawsStored : Form → Answer → Option (List ℕ) → Option (List ℕ) → Option (List ℕ) → Type 0
DrawsStored form Done file held holds = DrawsWhole form file true held holds
DrawsStored form NotSound file held holds = DrawsWhole form file false held holds
DrawsStored form (Failed fault) file held holds = EndsWhole form file fault held holds
DrawsStored form NotText file held holds = ⊥
DrawsStored form (Refused error) file held holds = ⊥

-- a file that begins as a snapshot does, or another
abbrev pub DrawsAs : Bool → Form → Answer → Option (List ℕ) → Option (List ℕ) → Option (List ℕ) → Type 0
DrawsAs true form answer file held holds = DrawsStored form answer file held holds
DrawsAs false form answer file held holds = DrawsPlain form answer file held holds

-- the file was drawn as its first bytes say; or these were not read
abbrev pub DrawsFile : Form → Answer → Option (List ℕ) → Option (List ℕ) → Option (List ℕ) → Type 0
DrawsFile form answer file held holds =
    ((answer ≡ Failed tool.ReadFailed) × Keeps held holds)
    ⊎ ((content : Option (List ℕ)) × (whole : Bool) × IsContent file content × SaysWhole whole content × DrawsAs whole form answer content held holds)

-- a named file was drawn so; or it was not opened
abbrev pub DrawsNamed : Content → Form → Answer → Option (List ℕ) → Option (List ℕ) → Type 0
DrawsNamed named form answer held holds =
    ((answer ≡ Failed tool.ReadFailed) × Keeps held holds)
    ⊎ ((file : Option (List ℕ)) × named file × DrawsFile form answer file held holds)

-- `clap` takes the words, and the file that they name was drawn; or it refuses them, or there was no memory for them, and
-- nothing was written
abbrev pub AnswersWords : (Text → Content) → List (List ℕ) → Answer → Option (List ℕ) → Option (List ℕ) → Type 0
AnswersWords named words answer held holds =
    ((clap_faults map_app words ≡ []) × DrawsNamed (named (request_asked words).1) (request_asked words).0 answer held holds)
    ⊎ ((error : Error) × HasKind (clap_faults map_app words) error × Refuses error answer × Keeps held holds)
