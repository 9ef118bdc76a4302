-- The film of a script: its data, row by row.
use Rattle.std.specs.Prelude.{◌≡◌, ℕ, ◌+◌, ◌<◌, ◌≤◌, List, [], ◌∷◌, ◌++◌, length, Some, None}
use Rattle.process_table.specs.State.{State, open_with}
use Rattle.kernel_calls.specs.Machine.{answer, next}
use Rattle.kernel_calls.specs.declared.calls.Event.{Event}
use Rattle.kernel_calls.specs.declared.calls.Reply.{Reply}
use Rattle.memory_image.specs.Image.{Image}
use Rattle.memory_image.specs.Sound.{StandsFor}
use Rattle.script_run.specs.declared.lines.Line.TheVariants as line
use Rattle.script_run.specs.Lines.{line_of}
use Rattle.script_run.specs.Script.{limit, lines_of}
use Rattle.script_run.specs.declared.faults.ScriptFault.{ScriptFault}
use Rattle.script_run.specs.declared.faults.ScriptFault.TheVariants as fault
use Rattle.script_film.specs.declared.ends.End.{End}
use Rattle.script_film.specs.declared.ends.End.TheVariants.{Whole, Malformed, Cut}
use Rattle.script_film.specs.Rows.{line_row, reply_row, frames_row, end_row}
use Rattle.script_film.specs.Changes.{changes}

-- the most events that a film shows
abbrev pub most_events : ℕ
most_events = 2000

-- the rows of a line with an event: the line, the reply, and what changed
unfoldable pub event_rows : List ℕ → Reply → Image → Image → List ℕ
event_rows bytes reply before after = line_row bytes ++ (reply_row reply ++ changes (Some before) after)

-- What a film has shown: the lines so far and how many events they had, their rows, and the state and its image after
-- them. Each line is the script's next. Each event is carried out on the state that the lines before left, and its row
-- of the reply is the answer to it.
pub data Shows (frames : ℕ) : List (List ℕ) → ℕ → List ℕ → State → Image → Type 0 where
  -- the machine as it boots
  boots : {image : Image} → StandsFor image (open_with frames) → Shows frames [] 0 (changes None image) (open_with frames) image
  -- a line without an event
  skips : {lines : List (List ℕ)} {events : ℕ} {rows : List ℕ} {s : State} {image : Image}
      → Shows frames lines events rows s image → (bytes : List ℕ) → line_of bytes ≡ line.Skipped → Shows frames (lines ++ bytes ∷ []) events (rows ++ line_row bytes) s image
  -- a line with an event
  steps : {lines : List (List ℕ)} {events : ℕ} {rows : List ℕ} {s : State} {before after : Image}
      → Shows frames lines events rows s before → (bytes : List ℕ) (event : Event) → line_of bytes ≡ line.Event event → StandsFor after (next s event)
      → Shows frames (lines ++ bytes ∷ []) (events + 1) (rows ++ event_rows bytes (answer s event) before after) (next s event) after

-- Why a film ends where it does, by the lines that it shows, how many events they asked for, and the lines behind them.
abbrev pub EndsAt : End → List (List ℕ) → ℕ → List (List ℕ) → Type 0
-- the script has no more lines
EndsAt Whole shown events rest = rest ≡ []
-- the next line, whose number counts from 1, is malformed
EndsAt (Malformed number) shown events rest = (number ≡ length shown + 1) × ((bad : List ℕ) × (others : List (List ℕ)) × (rest ≡ bad ∷ others) × (line_of bad ≡ line.Malformed))
-- the next line has one event more than a film shows
EndsAt Cut shown events rest = (events ≡ most_events) × ((bytes : List ℕ) × (others : List (List ℕ)) × (event : Event) × (rest ≡ bytes ∷ others) × (line_of bytes ≡ line.Event event))

-- The data of a script's film on a machine of so many frames.
pub record IsFilm (frames : ℕ) (script data_rows : List ℕ) (end : End) : Type 0 where
  pub shown : List (List ℕ)
  pub rest : List (List ℕ)
  pub lines : lines_of script ≡ shown ++ rest
  pub events : ℕ
  pub rows : List ℕ
  pub state : State
  pub image : Image
  pub shows : Shows frames shown events rows state image
  pub ends : EndsAt end shown events rest
  pub whole : data_rows ≡ frames_row frames ++ (rows ++ end_row end)

-- Why a script has no film: the number of frames may not be, the script is too long, or memory ran out.
abbrev pub IsRefused : ScriptFault → ℕ → List ℕ → Type 0
IsRefused fault.BadSize frames script = 16 ≤ frames → frames ≤ 4096 → ⊥
IsRefused fault.TooLong frames script = limit < length script
IsRefused fault.NoMemory frames script = Unit {0}
IsRefused (fault.Malformed number) frames script = ⊥
IsRefused fault.ReadFailed frames script = ⊥
IsRefused fault.WriteFailed frames script = ⊥
