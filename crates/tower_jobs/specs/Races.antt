-- Races: what is written of all rounds.
--     Raced      that so many rounds were played with a referee
--     race_text rounds rows      the text of so many rounds, with the report of the last one
--     EndsRace      what a race that ended by a fault wrote
use Rattle.std.specs.Prelude.{ℕ, List, [], ◌∷◌, ◌++◌, Option, codes, decimal}
use Rattle.std.specs.Io.KnownBytes.{Appends, Keeps}
use Rattle.guest_race.specs.Asked.{Times}
use Rattle.guest_race.specs.Rounds.{IsReported}
use Rattle.guest_race.specs.declared.faults.RoundFault.{RoundFault}
use Rattle.guest_race.specs.declared.faults.RoundFault.TheVariants as round
use Rattle.memory_report.specs.declared.rows.Row.{Row}
use Rattle.memory_report.specs.Text.{report_text}
use Rattle.text_output.specs.Output.{AppendsFront}
use Rattle.command_answers.specs.declared.faults.ToolFault.{ToolFault}
use Rattle.command_answers.specs.declared.faults.ToolFault.TheVariants as tool

-- a round with a referee, on a kernel of its own of so many frames, and its rows
abbrev pub IsRoundBy : {S : Type 0} → (S → List (Option Row) → S → Type 0) → ℕ → S → List (Option Row) → S → Type 0
IsRoundBy asks frames before rows after = asks before rows after × IsReported frames rows

-- so many rounds in sequence with a referee, each such a round, and the rows of the last
abbrev pub Raced : {S : Type 0} → (S → List (Option Row) → S → Type 0) → S → S → ℕ → ℕ → List (Option Row) → Type 0
Raced asks before after frames rounds rows = Times (IsRoundBy asks frames) rounds before rows after

-- ---- Texts

-- a text with a line feed
abbrev pub line : List ℕ → List ℕ
line text = text ++ 10 ∷ []

-- of so many rounds, each was legal, its reports were equal, and its image sound
unfoldable pub race_heading : ℕ → List ℕ
race_heading rounds = line (codes "rounds " ++ decimal rounds) ++ (line (codes "history legal") ++ (line (codes "report equal") ++ line (codes "verdict sound")))

-- and the report of the last one
unfoldable pub race_text : ℕ → List (Option Row) → List ℕ
race_text rounds rows = race_heading rounds ++ report_text rows

-- a race was played with these last rows, and then its text was written
abbrev pub Writes : (List (Option Row) → Type 0) → ℕ → Option (List ℕ) → Option (List ℕ) → Type 0
Writes raced rounds held holds = (rows : List (Option Row)) × raced rows × Appends held holds (race_text rounds rows)

-- what ends a round early ends the race
abbrev pub fault_of_round : RoundFault → ToolFault
fault_of_round round.NoMemory = tool.NoMemory
fault_of_round round.Turns = tool.RaceTurns
fault_of_round round.Failed = tool.RaceFailed

-- What a race that ended by this fault wrote: nothing, unless a write failed, before which all rounds were played.
abbrev pub EndsRace : (List (Option Row) → Type 0) → ℕ → ToolFault → Option (List ℕ) → Option (List ℕ) → Type 0
EndsRace raced rounds tool.WriteFailed held holds = (rows : List (Option Row)) × raced rows × AppendsFront held holds (race_text rounds rows)
EndsRace raced rounds tool.BadSize held holds = Keeps held holds
EndsRace raced rounds tool.BadWideSize held holds = ⊥
EndsRace raced rounds (tool.Malformed line) held holds = ⊥
EndsRace raced rounds tool.TooLong held holds = ⊥
EndsRace raced rounds tool.ReadFailed held holds = ⊥
EndsRace raced rounds tool.NotImage held holds = ⊥
EndsRace raced rounds tool.BadVersion held holds = ⊥
EndsRace raced rounds tool.BadLength held holds = ⊥
EndsRace raced rounds (tool.BadField offset) held holds = ⊥
EndsRace raced rounds tool.NoMemory held holds = Keeps held holds
EndsRace raced rounds tool.RaceTurns held holds = Keeps held holds
EndsRace raced rounds tool.RaceFailed held holds = Keeps held holds
