-- The text of a verdict: the line `sound`, or a line for each process and then each frame that fails a clause.
use Rattle.std.specs.Prelude.{ℕ, ◌+◌, List, [], ◌∷◌, ◌++◌, Option, Some, None, if◌then◌else◌, codes, decimal}
use Rattle.image_check.specs.declared.clauses.ProcessClause.{ProcessClause}
use Rattle.image_check.specs.declared.clauses.FrameClause.{FrameClause}
use Rattle.image_check.specs.Codes.{process_number, frame_number}
use Rattle.image_check.specs.Told.{Told, fails_nothing}

-- the line of a process that fails a clause
unfoldable pub process_line : ℕ → Option ProcessClause → List ℕ
process_line p None = []
process_line p (Some c) = codes "process " ++ decimal p ++ codes " P" ++ decimal (process_number c) ++ 10 ∷ []

-- the line of a frame that fails one
unfoldable pub frame_line : ℕ → Option FrameClause → List ℕ
frame_line f None = []
frame_line f (Some c) = codes "frame " ++ decimal f ++ codes " F" ++ decimal (frame_number c) ++ 10 ∷ []

-- the lines of several, of which the first has this number
abbrev pub lines_from : {C : Type 0} → (ℕ → C → List ℕ) → ℕ → List C → List ℕ
lines_from line n [] = []
lines_from line n (c ∷ cs) = line n c ++ lines_from line (n + 1) cs

-- the lines of the processes that fail a clause
abbrev pub process_lines : Told → List ℕ
process_lines told = lines_from process_line 0 told.processes

-- the lines of the frames that fail a clause
abbrev pub frame_lines : Told → List ℕ
frame_lines told = lines_from frame_line 0 told.frames

-- the text of a verdict
unfoldable pub verdict_text : Told → List ℕ
verdict_text told = if fails_nothing told then codes "sound" ++ 10 ∷ [] else process_lines told ++ frame_lines told
