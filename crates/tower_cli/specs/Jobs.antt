-- What a command line requests.
--     tower_app      the program's commands, as `clap` reads them
--     job_asked found      the job of the subcommand that the words name, and of the arguments after it
use Rattle.std.specs.Prelude.{ℕ, Bool, ◌&&◌, ◌≤◌, true, false, nat_le, List, Option, Some, None, pos, codes, option_map, option_and_then, slice_get, if◌then◌else◌}
use Rattle.std.specs.Option.{option_map_or}
use Rattle.std.specs.Str.{bytes_eq}
use Rattle.clap.specs.Words.{App, Row, Rule, Text, all_of, new_app, new_rule, with_rule, with_subcommand}
use Rattle.clap.specs.declared.builder.action.ArgAction.TheVariants.{SetTrue}
use Rattle.clap.specs.declared.builder.value_parser.ValueParser.TheVariants as parser
use Rattle.command_answers.specs.Files.{file_argument, file_in}
use Rattle.command_answers.specs.Options.{frames_option, frames_in, number_in}
use Rattle.tower_cli.specs.declared.jobs.Job.{Job}
use Rattle.tower_cli.specs.declared.jobs.Job.TheVariants.{Run, Race, Image, Whole, Check, Resume, ResumeImage}

-- tower run [--frames N]
abbrev pub run_app : App
run_app = with_rule (new_app (codes "run")) frames_option

-- --whole
abbrev pub whole_flag : Rule
whole_flag = record (new_rule (codes "whole")) { long = Some (codes "whole"); action = Some SetTrue }

-- tower image [--frames N] [--whole]
abbrev pub image_app : App
image_app = with_rule (with_rule (new_app (codes "image")) frames_option) whole_flag

-- tower check FILE
abbrev pub check_app : App
check_app = with_rule (new_app (codes "check")) file_argument

-- --image
abbrev pub image_flag : Rule
image_flag = record (new_rule (codes "image")) { long = Some (codes "image"); action = Some SetTrue }

-- tower resume [--image] FILE
abbrev pub resume_app : App
resume_app = with_rule (with_rule (new_app (codes "resume")) image_flag) file_argument

-- --rounds N, 1 to 1000
abbrev pub rounds_option : Rule
rounds_option = record (new_rule (codes "rounds")) {
  long = Some (codes "rounds");
  value_names = 1;
  parser = Some (parser.Signed (pos 1) (pos 1000));
}

-- tower race [--frames N] [--rounds N]
abbrev pub race_app : App
race_app = with_rule (with_rule (new_app (codes "race")) frames_option) rounds_option

-- the program's commands, as `clap` reads them
abbrev pub tower_app : App
tower_app = let app = with_subcommand (with_subcommand (with_subcommand (with_subcommand (with_subcommand (new_app (codes "tower")) run_app.top) race_app.top) image_app.top) check_app.top) resume_app.top in record app { top = record app.top { subcommand_required = true } }

-- a number of rounds that may be played
abbrev pub playable : ℕ → Option ℕ
playable rounds = if nat_le 1 rounds && nat_le rounds 1000 then Some rounds else None

-- the number of rounds in what `clap` found, 100 without the option
abbrev pub rounds_in : List Row → Option ℕ
rounds_in rows = option_and_then playable (number_in (codes "rounds") 100 rows)

-- a job with the text of its file's name
pub data Asked : Type 0 where
  a_run : ℕ → Asked
  an_image : ℕ → Asked
  a_whole : ℕ → Asked
  a_check : Text → Asked
  a_resume : Text → Asked
  a_resumed_image : Text → Asked
  a_race : ℕ → ℕ → Asked

-- a job as the definitions name it
abbrev pub as_asked : Job → Asked
as_asked (Run frames) = a_run frames
as_asked (Image frames) = an_image frames
as_asked (Whole frames) = a_whole frames
as_asked (Check file) = a_check file.now
as_asked (Resume file) = a_resume file.now
as_asked (ResumeImage file) = a_resumed_image file.now
as_asked (Race frames rounds) = a_race frames rounds

-- a race of so many frames, where the rounds can be played
abbrev pub race_in : List Row → Option Asked
race_in rows = option_and_then (λ frames. option_map (λ rounds. a_race frames rounds) (rounds_in rows)) (frames_in rows)

-- whether the flag of that name is among the arguments
abbrev pub asks : Text → List Row → Bool
asks name rows = option_map_or (λ text. bytes_eq text (codes "true")) (option_and_then (λ (values : List Text). slice_get values 0) (all_of name rows)) false

-- the image of a run's last state on a machine of so many frames, of version 2, or with `--whole` its snapshot
abbrev pub image_in : List Row → Option Asked
image_in rows = option_map (λ frames. if asks (codes "whole") rows then a_whole frames else an_image frames) (frames_in rows)

-- a run on the machine of an image, for its replies or for the image of its last state
abbrev pub resume_in : List Row → Asked
resume_in rows = if asks (codes "image") rows then a_resumed_image (file_in rows) else a_resume (file_in rows)

-- the job of a subcommand's name and of the arguments after it
abbrev pub job_named : Text → List Row → Option Asked
job_named name rows =
    if bytes_eq name (codes "run") then option_map (λ frames. a_run frames) (frames_in rows) else
    if bytes_eq name (codes "race") then race_in rows else
    if bytes_eq name (codes "image") then image_in rows else
    if bytes_eq name (codes "check") then Some (a_check (file_in rows)) else
    if bytes_eq name (codes "resume") then Some (resume_in rows) else
    None

-- the job of the subcommand that the arguments name
abbrev pub job_asked : Option (Text × List Row) → Option Asked
job_asked None = None
job_asked (Some found) = job_named found.0 found.1

-- a race has at least one round
abbrev pub HasRounds : Job → Type 0
HasRounds (Run frames) = Unit {0}
HasRounds (Image frames) = Unit {0}
HasRounds (Whole frames) = Unit {0}
HasRounds (Check file) = Unit {0}
HasRounds (Resume file) = Unit {0}
HasRounds (ResumeImage file) = Unit {0}
HasRounds (Race frames rounds) = (1 ≤ rounds) × (rounds ≤ 1000)
