-- The film of a script, and the answer to a command line that requests it.
--     page_text rows      the page of a film with these rows
--     FilmsScript frames answer ..      what a film with that answer read and wrote
--     AnswersAll named words answer ..      what any command line with that answer read and wrote, by what says which file it names
use Rattle.std.specs.Prelude.{◌≡◌, ◌⊎◌, ℕ, Bool, true, false, List, [], ◌++◌, Option, Some, unwrap_or, codes}
use Rattle.std.specs.List.{list_any}
use Rattle.std.specs.Str.{bytes_eq}
use Rattle.std.specs.Io.KnownBytes.{Appends, Keeps}
use Rattle.clap.specs.Words.{App, HasKind, Rule, Text, fault_of as clap_faults, matches_of, new_app, new_rule, with_rule}
use Rattle.clap.specs.declared.builder.action.ArgAction.TheVariants.{SetTrue}
use Rattle.clap.specs.declared.error.Error.{Error}
use Rattle.script_film.specs.Film.{IsFilm, IsRefused}
use Rattle.script_film.specs.declared.ends.End.{End}
use Rattle.script_film.specs.declared.ends.End.TheVariants.{Whole, Malformed, Cut}
use Rattle.script_run.specs.declared.faults.ScriptFault.{ScriptFault}
use Rattle.text_output.specs.Output.{AppendsFront}
use Rattle.command_answers.specs.Answers.{Refuses}
use Rattle.command_answers.specs.Faults.{tool_of_script}
use Rattle.command_answers.specs.Files.{Content, IsRead}
use Rattle.command_answers.specs.Options.{frames_option, frames_in}
use Rattle.command_answers.specs.declared.answers.Answer.{Answer}
use Rattle.command_answers.specs.declared.answers.Answer.TheVariants.{Done, Failed}
use Rattle.command_answers.specs.declared.faults.ToolFault.{ToolFault}
use Rattle.command_answers.specs.declared.faults.ToolFault.TheVariants as tool
use Rattle.map_jobs.specs.Drawings.{AnswersWords}
use Rattle.map_jobs.specs.declared.film_page.TheConstants.{HEAD, TAIL}

-- ---- Pages

-- between the same front and the same back for each film
unfoldable pub page_text : List ℕ → List ℕ
page_text rows = HEAD.now ++ (rows ++ TAIL.now)

-- the page of a film of the script that ends so was written
abbrev pub WritesFilm : ℕ → List ℕ → End → Option (List ℕ) → Option (List ℕ) → Type 0
WritesFilm frames script end held holds = (rows : List ℕ) × IsFilm frames script rows end × Appends held holds (page_text rows)

-- a front of such a page was written, and at least one byte of it was not
abbrev pub WritesFront : ℕ → List ℕ → Option (List ℕ) → Option (List ℕ) → Type 0
WritesFront frames script held holds = (rows : List ℕ) × (end : End) × IsFilm frames script rows end × AppendsFront held holds (page_text rows)

-- the script has no film, and nothing was written; or a write failed
abbrev pub EndsFilm : ℕ → List ℕ → ToolFault → Option (List ℕ) → Option (List ℕ) → Type 0
EndsFilm frames script fault held holds =
    ((refusal : ScriptFault) × (fault ≡ tool_of_script refusal) × IsRefused refusal frames script × Keeps held holds)
    ⊎ ((fault ≡ tool.WriteFailed) × WritesFront frames script held holds)

-- ---- Command lines

-- --film
abbrev pub film_flag : Rule
film_flag = record (new_rule (codes "film")) { long = Some (codes "film"); action = Some SetTrue }

-- memory_map --film [--frames N]
abbrev pub film_app : App
film_app = with_rule (with_rule (new_app (codes "memory_map")) film_flag) frames_option

-- whether an argument is --film
abbrev pub is_film : Text → Bool
is_film word = bytes_eq word (codes "--film")

-- whether --film is one of the words
abbrev pub asks_film : List Text → Bool
asks_film words = list_any is_film words

-- the number of frames that the arguments give, or 16
abbrev pub frames_asked : List Text → ℕ
frames_asked words = unwrap_or (frames_in (matches_of film_app words)) 16

-- ---- Answers

-- the answer for the end of a film
abbrev pub answer_of_end : End → Answer
answer_of_end Whole = Done
answer_of_end Cut = Done
answer_of_end (Malformed line) = Failed (tool.Malformed line)

-- a film was written whose end gives this answer
abbrev pub WritesSome : ℕ → List ℕ → Answer → Option (List ℕ) → Option (List ℕ) → Type 0
WritesSome frames script answer held holds = (end : End) × (answer ≡ answer_of_end end) × WritesFilm frames script end held holds

-- the script was not read; or it has no film, or a write failed
abbrev pub FailsScript : ℕ → ToolFault → Option (List ℕ) → Option (List ℕ) → Option (List ℕ) → Type 0
FailsScript frames fault remained held holds =
    (((fault ≡ tool.NoMemory) ⊎ (fault ≡ tool.ReadFailed)) × Keeps held holds)
    ⊎ ((script : List ℕ) × IsRead remained script × EndsFilm frames script fault held holds)

-- a film was written of the script that was read; or it failed
abbrev pub FilmsScript : ℕ → Answer → Option (List ℕ) → Option (List ℕ) → Option (List ℕ) → Type 0
FilmsScript frames answer remained held holds =
    ((script : List ℕ) × IsRead remained script × WritesSome frames script answer held holds)
    ⊎ ((fault : ToolFault) × (answer ≡ Failed fault) × FailsScript frames fault remained held holds)

-- `clap` takes the words, and the script is filmed; or it refuses them, or there was no memory for them, and nothing
-- was written
abbrev pub AnswersFilm : List (List ℕ) → Answer → Option (List ℕ) → Option (List ℕ) → Option (List ℕ) → Type 0
AnswersFilm words answer remained held holds =
    ((clap_faults film_app words ≡ []) × FilmsScript (frames_asked words) answer remained held holds)
    ⊎ ((error : Error) × HasKind (clap_faults film_app words) error × Refuses error answer × Keeps held holds)

-- arguments with --film request a film, and all others a drawing
abbrev pub AnswersBy : (Text → Content) → Bool → List (List ℕ) → Answer → Option (List ℕ) → Option (List ℕ) → Option (List ℕ) → Type 0
AnswersBy named true words answer remained held holds = AnswersFilm words answer remained held holds
AnswersBy named false words answer remained held holds = AnswersWords named words answer held holds

-- what any command line with that answer read and wrote
abbrev pub AnswersAll : (Text → Content) → List (List ℕ) → Answer → Option (List ℕ) → Option (List ℕ) → Option (List ℕ) → Type 0
AnswersAll named words answer remained held holds = AnswersBy named (asks_film words) words answer remained held holds
