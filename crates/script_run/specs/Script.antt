-- What a script means: its events, and its fault, if it has one.
--     lines_of bytes      the lines, which line feeds separate
--     judged bytes      the lines that count, of a script that may be longer than the limit
--     events_of bytes      the events of the lines before the first malformed one
--     fault_of bytes      the first malformed line, or else that the script is too long
--     replies_text begun events      the replies to events from a state on, a line for each
use Rattle.std.specs.Prelude.{ℕ, ◌+◌, Bool, true, false, not, ◌||◌, ◌==◌, nat_le, List, [], ◌∷◌, ◌++◌, length, take, filter, position, take_while, Option, None, Some, if◌then◌else◌}
use Rattle.std.specs.Option.{option_map, option_or}
use Rattle.std.specs.List.{slice_split, filter_map}
use Rattle.process_table.specs.State.{State}
use Rattle.kernel_calls.specs.Machine.{answers}
use Rattle.kernel_calls.specs.declared.calls.Event.{Event}
use Rattle.script_run.specs.declared.faults.ScriptFault.{ScriptFault}
use Rattle.script_run.specs.declared.faults.ScriptFault.TheVariants.{Malformed, TooLong}
use Rattle.script_run.specs.declared.lines.Line.{Line}
use Rattle.script_run.specs.declared.lines.Line.TheVariants as line
use Rattle.script_run.specs.Lines.{line_of, is_too_long}
use Rattle.script_run.specs.Replies.{text_of}

-- the most bytes of a script
unfoldable pub limit : ℕ
limit = 16777216

-- ---- Lines

-- whether a byte is a line feed
abbrev pub is_line_feed : ℕ → Bool
is_line_feed byte = byte == 10

-- what stands between line feeds: one line more than there are line feeds
unfoldable pub lines_of : List ℕ → List (List ℕ)
lines_of bytes = slice_split is_line_feed bytes

-- all lines except the last
abbrev pub all_but_last : List (List ℕ) → List (List ℕ)
all_but_last [] = []
all_but_last (line ∷ []) = []
all_but_last (line ∷ next ∷ lines) = line ∷ all_but_last (next ∷ lines)

-- the last line, empty if there is none
abbrev pub last_of : List (List ℕ) → List ℕ
last_of [] = []
last_of (line ∷ []) = line
last_of (line ∷ next ∷ lines) = last_of (next ∷ lines)

-- the lines that end with a line feed
unfoldable pub closed_lines : List ℕ → List (List ℕ)
closed_lines bytes = all_but_last (lines_of bytes)

-- what stands after the last line feed
unfoldable pub open_line : List ℕ → List ℕ
open_line bytes = last_of (lines_of bytes)

-- The lines that count: each that ends with a line feed. The last counts too where the script ends
-- there, or where it has more bytes already than a line may have.
unfoldable pub judged_to : Bool → List ℕ → List (List ℕ)
judged_to is_whole bytes = closed_lines bytes ++ filter (λ line. is_whole || is_too_long line) (open_line bytes ∷ [])

-- whether a script is within the limit
unfoldable pub is_whole : List ℕ → Bool
is_whole bytes = nat_le (length bytes) limit

-- of a longer script, the bytes within the limit
unfoldable pub judged : List ℕ → List (List ℕ)
judged bytes = judged_to (is_whole bytes) (take limit bytes)

-- ---- Events and faults

-- whether a line is malformed
abbrev pub says_malformed : Line → Bool
says_malformed line.Malformed = true
says_malformed line.Skipped = false
says_malformed (line.Event event) = false

-- the event of a line
abbrev pub said_event : Line → Option Event
said_event line.Malformed = None
said_event line.Skipped = None
said_event (line.Event event) = Some event

-- whether the bytes of a line are malformed
unfoldable pub is_malformed : List ℕ → Bool
is_malformed bytes = says_malformed (line_of bytes)

-- whether the bytes of a line are not malformed
abbrev pub is_sound : List ℕ → Bool
is_sound bytes = not (is_malformed bytes)

-- the events of lines, none of which is malformed
unfoldable pub events_in : List (List ℕ) → List Event
events_in lines = filter_map (λ bytes. said_event (line_of bytes)) lines

-- the events of the lines before the first malformed one
unfoldable pub events_of : List ℕ → List Event
events_of bytes = events_in (take_while is_sound (judged bytes))

-- the first malformed line, counted from 1, or else that the script is too long
unfoldable pub fault_of : List ℕ → Option ScriptFault
fault_of bytes = option_or (option_map (λ place. Malformed (place + 1)) (position is_malformed (judged bytes))) (if is_whole bytes then None else Some TooLong)

-- ---- Replies

-- the replies to events from a state on, a line for each
unfoldable pub replies_text : State → List Event → List ℕ
replies_text begun events = text_of (answers begun events)
