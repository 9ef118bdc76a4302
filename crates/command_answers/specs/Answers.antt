-- The answer to a command line, its exit status, and its message on standard error.
--     status_of answer      0 done; 1 out of memory, a device's fault or a failed race; 2 a refused command line, size, script or image; 3 an image that isn't sound
--     Tells program answer held holds      what standard error holds afterwards, for the program of that name
use Rattle.std.specs.Prelude.{◌≡◌, ◌⊎◌, ℕ, List, [], ◌∷◌, ◌++◌, Option, codes}
use Rattle.std.specs.Io.KnownBytes.{Appends, Keeps}
use Rattle.clap.specs.Words.{kind_of}
use Rattle.clap.specs.declared.error.Error.{Error}
use Rattle.clap.specs.declared.error.kind.ErrorKind.TheVariants as kind
use Rattle.command_answers.specs.Faults.{status_of_tool, tool_message, words_text}
use Rattle.command_answers.specs.declared.answers.Answer.{Answer}
use Rattle.command_answers.specs.declared.answers.Answer.TheVariants.{Done, NotSound, Failed, NotText, Refused}
use Rattle.command_answers.specs.declared.faults.ToolFault.TheVariants as tool
use Rattle.command_answers.specs.declared.given_words.WordsFault.{WordsFault}
use Rattle.command_answers.specs.declared.given_words.WordsFault.TheVariants as words

-- ---- Statuses and texts

-- the exit status of an answer
abbrev pub status_of : Answer → ℕ
status_of Done = 0
status_of NotSound = 3
status_of (Failed fault) = status_of_tool fault
status_of NotText = 2
status_of (Refused error) = 2

-- a fault's text behind the program's name
unfoldable pub told_line : List ℕ → List ℕ → List ℕ
told_line program text = program ++ (codes ": " ++ (text ++ 10 ∷ []))

-- nothing, or a line with the fault's text; what `clap` says of words that it refuses is its own
abbrev pub Tells : List ℕ → Answer → Option (List ℕ) → Option (List ℕ) → Type 0
Tells program Done held holds = Keeps held holds
Tells program NotSound held holds = Keeps held holds
Tells program (Failed fault) held holds = Appends held holds (told_line program (tool_message fault))
Tells program NotText held holds = Appends held holds (told_line program (words_text words.NotText))
Tells program (Refused error) held holds = Unit {0}

-- the answer to arguments that could not be read
abbrev pub answer_of_words : WordsFault → Answer
answer_of_words words.NoMemory = Failed tool.NoMemory
answer_of_words words.NotText = NotText

-- ---- Words that are refused

-- out of memory is a fault of the program; `clap` reports any other error
abbrev pub Refuses : Error → Answer → Type 0
Refuses error answer = ((kind_of error ≡ kind.OutOfMemory) × (answer ≡ Failed tool.NoMemory)) ⊎ (((kind_of error ≡ kind.OutOfMemory) → ⊥) × (answer ≡ Refused error))
