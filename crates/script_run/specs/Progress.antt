-- How far a session has come in a script, when some bytes of it were read.
--     Reached      no line is malformed so far, and all of them were carried out
--     FromReached      what follows from there
--     Begins, Breaks      how the lines of any script that begins with these bytes begin;  that one of them is malformed
--     Stops      why the session stopped at a line
--     Finished, StopsAtLast      the last line, without a line feed, was carried out too;  why it was not
--     Ran, RanInto      the result of a run, with replies that wait to be written
--     EndsReading      what a run that ended by a failed read did
--     EndsBy      what a run that ended by a fault did
--     MayEnd      by which faults a run may end, where no write fails
use Rattle.std.specs.Prelude.{◌≡◌, ℕ, ◌+◌, ◌≤◌, Bool, true, false, List, [], ◌∷◌, ◌++◌, length, Option, Some, None, IfSome}
use Rattle.std.specs.List.{list_all}
use Rattle.std.specs.Io.KnownBytes.{Appends, Keeps, Consumes}
use Rattle.process_table.specs.State.{State}
use Rattle.kernel_calls.specs.Machine.{answer, next, end_of}
use Rattle.script_run.specs.declared.faults.ScriptFault.{ScriptFault}
use Rattle.script_run.specs.declared.faults.ScriptFault.TheVariants.{BadSize, NoMemory, Malformed, TooLong, ReadFailed, WriteFailed}
use Rattle.script_run.specs.declared.lines.Line.{Line}
use Rattle.script_run.specs.declared.lines.Line.TheVariants as line
use Rattle.script_run.specs.declared.session.Session.{Session}
use Rattle.script_run.specs.Lines.{is_too_long}
use Rattle.text_output.specs.Output.{LeavesUnwritten, AppendsFront}
use Rattle.script_run.specs.Replies.{reply_line}
use Rattle.script_run.specs.Script.{lines_of, closed_lines, open_line, judged_to, limit, is_malformed, is_sound, events_in, events_of, fault_of, replies_text}

-- a fault that comes before the first read
abbrev pub IsBeforeReading : ScriptFault → Type 0
IsBeforeReading BadSize = Unit {0}
IsBeforeReading NoMemory = Unit {0}
IsBeforeReading (Malformed line) = ⊥
IsBeforeReading TooLong = ⊥
IsBeforeReading ReadFailed = ⊥
IsBeforeReading WriteFailed = ⊥

-- a fault by which a run may end: by a failed write only if a write may fail
abbrev pub MayEnd : Type 0 → ScriptFault → Type 0
MayEnd may_fail BadSize = Unit {0}
MayEnd may_fail NoMemory = Unit {0}
MayEnd may_fail (Malformed line) = Unit {0}
MayEnd may_fail TooLong = Unit {0}
MayEnd may_fail ReadFailed = Unit {0}
MayEnd may_fail WriteFailed = may_fail

-- ---- One line

-- the state after a line
abbrev pub state_after : State → Line → State
state_after state (line.Event event) = next state event
state_after state line.Skipped = state
state_after state line.Malformed = state

-- the text of a line's reply
abbrev pub text_after : State → Line → List ℕ
text_after state (line.Event event) = reply_line (answer state event)
text_after state line.Skipped = []
text_after state line.Malformed = []

-- why a line of that number was not carried out
abbrev pub LineFails : ScriptFault → ℕ → List ℕ → List ℕ → List ℕ → Option (List ℕ) → Option (List ℕ) → Type 0
LineFails (Malformed found) number bytes waited waits held holds = (found ≡ number) × (is_malformed bytes ≡ true) × (waits ≡ waited) × Keeps held holds
LineFails WriteFailed number bytes waited waits held holds = (waits ≡ []) × AppendsFront held holds waited
LineFails BadSize number bytes waited waits held holds = ⊥
LineFails NoMemory number bytes waited waits held holds = ⊥
LineFails TooLong number bytes waited waits held holds = ⊥
LineFails ReadFailed number bytes waited waits held holds = ⊥

-- the bytes have no line feed
unfoldable pub IsOneLine : List ℕ → Type 0
IsOneLine bytes = lines_of bytes ≡ bytes ∷ []

-- ---- Many lines

-- what the writer held when the session began, and holds now
pub record Reached (begun : State) (read : List ℕ) (session : Session) (start now : Option (List ℕ)) : Type 0 where
  pub sound : list_all is_sound (closed_lines read) ≡ true
  pub line : session.line.items ≡ open_line read
  pub short : length session.line.items ≤ 100
  pub lines : session.lines ≡ length (closed_lines read)
  pub state : session.core.state ≡ end_of begun (events_in (closed_lines read))
  pub text : LeavesUnwritten start now (replies_text begun (events_in (closed_lines read))) session.output

-- what holds of a session that has come so far, wherever it began, whatever it has read, and whatever the writer held then
abbrev pub FromReached : Session → Option (List ℕ) → (State → List ℕ → Option (List ℕ) → Type 0) → Type 0
FromReached session now Then = (begun : State) (read : List ℕ) (start : Option (List ℕ)) → Reached begun read session start now → Then begun read start

-- each script that begins with these bytes begins with these lines, none of which is malformed
pub record Begins (read : List ℕ) (good : List (List ℕ)) : Type 0 where
  pub sound : list_all is_sound good ≡ true
  pub next : (is_whole : Bool) (more : List ℕ) → (others : List (List ℕ)) × (judged_to is_whole (read ++ more) ≡ good ++ others)

-- and the line after them is malformed
pub record Breaks (read : List ℕ) (good : List (List ℕ)) : Type 0 where
  pub sound : list_all is_sound good ≡ true
  pub next : (is_whole : Bool) (more : List ℕ) → (bad : List ℕ) × (others : List (List ℕ)) × (judged_to is_whole (read ++ more) ≡ good ++ bad ∷ others) × (is_malformed bad ≡ true)

-- why a session stopped at a line: what waits, and what the writer held and holds
abbrev pub Stops : State → List ℕ → ScriptFault → List ℕ → Option (List ℕ) → Option (List ℕ) → Type 0
Stops begun read (Malformed found) waits start now = (good : List (List ℕ)) × Breaks read good × (found ≡ length good + 1) × LeavesUnwritten start now (replies_text begun (events_in good)) waits
Stops begun read WriteFailed waits start now = (good : List (List ℕ)) × (waits ≡ []) × Begins read good × AppendsFront start now (replies_text begun (events_in good))
Stops begun read BadSize waits start now = ⊥
Stops begun read NoMemory waits start now = ⊥
Stops begun read TooLong waits start now = ⊥
Stops begun read ReadFailed waits start now = ⊥

-- ---- The last line, without a line feed

-- the last line, without a line feed, was carried out too
pub record Finished (begun : State) (read : List ℕ) (session : Session) (start now : Option (List ℕ)) : Type 0 where
  pub sound : list_all is_sound (closed_lines read ++ open_line read ∷ []) ≡ true
  pub state : session.core.state ≡ end_of begun (events_in (closed_lines read ++ open_line read ∷ []))
  pub text : LeavesUnwritten start now (replies_text begun (events_in (closed_lines read ++ open_line read ∷ []))) session.output

-- why the last line was not carried out
abbrev pub StopsAtLast : State → List ℕ → ScriptFault → List ℕ → Option (List ℕ) → Option (List ℕ) → Type 0
StopsAtLast begun read (Malformed found) waits start now = (list_all is_sound (closed_lines read) ≡ true) × (is_malformed (open_line read) ≡ true) × (found ≡ length (closed_lines read) + 1)
    × LeavesUnwritten start now (replies_text begun (events_in (closed_lines read))) waits
StopsAtLast begun read WriteFailed waits start now = (waits ≡ []) × Begins read (closed_lines read) × AppendsFront start now (replies_text begun (events_in (closed_lines read)))
StopsAtLast begun read BadSize waits start now = ⊥
StopsAtLast begun read NoMemory waits start now = ⊥
StopsAtLast begun read TooLong waits start now = ⊥
StopsAtLast begun read ReadFailed waits start now = ⊥

-- ---- Whole runs

-- what the reader had left at the start is the script
abbrev pub Ran : State → Option (List ℕ) → Session → Option (List ℕ) → Option (List ℕ) → Type 0
Ran begun remained session held holds = IfSome remained (λ input. (fault_of input ≡ None) × (session.core.state ≡ end_of begun (events_of input)) × LeavesUnwritten held holds (replies_text begun (events_of input)) session.output)

-- a whole run of the script that the reader had left, with all replies written
abbrev pub EndsWhole : State → Option (List ℕ) → Session → Option (List ℕ) → Option (List ℕ) → Type 0
EndsWhole begun remained session held holds = IfSome remained (λ input. (fault_of input ≡ None) × (session.core.state ≡ end_of begun (events_of input)) × Appends held holds (replies_text begun (events_of input)))

-- the replies to the complete lines of what was read: what the reader had left and has left, and what the writer held
-- and holds
pub record ReadSome (begun : State) (remained remains : Option (List ℕ)) (waits : List ℕ) (held holds : Option (List ℕ)) : Type 0 where
  pub read : List ℕ
  pub within : length read ≤ limit
  pub taken : Consumes remained remains read
  pub sound : list_all is_sound (closed_lines read) ≡ true
  pub short : is_too_long (open_line read) ≡ false
  pub text : LeavesUnwritten held holds (replies_text begun (events_in (closed_lines read))) waits

-- a run that ended by a fault, with replies that wait to be written
abbrev pub RanInto : State → ScriptFault → Option (List ℕ) → Option (List ℕ) → List ℕ → Option (List ℕ) → Option (List ℕ) → Type 0
RanInto begun (Malformed line) remained remains waits held holds = IfSome remained (λ input. (fault_of input ≡ Some (Malformed line)) × LeavesUnwritten held holds (replies_text begun (events_of input)) waits)
RanInto begun TooLong remained remains waits held holds = IfSome remained (λ input. (fault_of input ≡ Some TooLong) × LeavesUnwritten held holds (replies_text begun (events_of input)) waits)
RanInto begun ReadFailed remained remains waits held holds = ReadSome begun remained remains waits held holds
RanInto begun WriteFailed remained remains waits held holds = (waits ≡ []) × IfSome remained (λ input. AppendsFront held holds (replies_text begun (events_of input)))
RanInto begun BadSize remained remains waits held holds = ⊥
RanInto begun NoMemory remained remains waits held holds = ⊥

-- What was read before a read failed is within the limit of a script. None of its complete lines is malformed, and the
-- line after them is not too long so far. The replies to the complete lines, and nothing else, were written.
pub record EndsReading (begun : State) (remained remains held holds : Option (List ℕ)) : Type 0 where
  pub read : List ℕ
  pub within : length read ≤ limit
  pub taken : Consumes remained remains read
  pub sound : list_all is_sound (closed_lines read) ≡ true
  pub short : is_too_long (open_line read) ≡ false
  pub text : Appends held holds (replies_text begun (events_in (closed_lines read)))

-- What a run that ended by this fault read and wrote. A refused number of frames, and out of memory, come before the
-- first read. The fault of a malformed line and of a long script is the script's own, and all replies before it were
-- written. After a read that failed, those to the complete lines that were read were written. A write fails only if
-- there is text to write: a prefix of the replies was written then, and at least one byte of them was not.
abbrev pub EndsBy : State → ScriptFault → Option (List ℕ) → Option (List ℕ) → Option (List ℕ) → Option (List ℕ) → Type 0
EndsBy begun BadSize remained remains held holds = Keeps remained remains × Keeps held holds
EndsBy begun NoMemory remained remains held holds = Keeps remained remains × Keeps held holds
EndsBy begun (Malformed line) remained remains held holds = IfSome remained (λ input. (fault_of input ≡ Some (Malformed line)) × Appends held holds (replies_text begun (events_of input)))
EndsBy begun TooLong remained remains held holds = IfSome remained (λ input. (fault_of input ≡ Some TooLong) × Appends held holds (replies_text begun (events_of input)))
EndsBy begun ReadFailed remained remains held holds = EndsReading begun remained remains held holds
EndsBy begun WriteFailed remained remains held holds = IfSome remained (λ input. AppendsFront held holds (replies_text begun (events_of input)))
