-- The codes of clauses and of a verdict's parts, so that a model's `Value` may be one.
use Rattle.std.proofs.Common.{ℕ, List, Option, refl, ◌≡◌, ◌==◌, if◌then◌else◌}
use Rattle.std.specs.Coded.{Coded, code_by, coded×, coded_list, coded_ℕ, coded_option}
use Rattle.image_check.specs.declared.clauses.ProcessClause.{ProcessClause}
use Rattle.image_check.specs.declared.clauses.ProcessClause.TheVariants as of_process
use Rattle.image_check.specs.declared.clauses.FrameClause.{FrameClause}
use Rattle.image_check.specs.declared.clauses.FrameClause.TheVariants as of_frame
use Rattle.image_check.specs.Told.{Told}

-- the number of a clause, from 1 on, in the order in which they are asked
abbrev pub process_number : ProcessClause → ℕ
process_number of_process.Parent = 1
process_number of_process.Directory = 2
process_number of_process.Tables = 3
process_number of_process.Pages = 4
process_number of_process.Used = 5
process_number of_process.Given = 6
process_number of_process.Quota = 7

-- the clause of processes with this number
abbrev pub numbered_process : ℕ → ProcessClause
numbered_process n =
    if n == 1 then of_process.Parent
    else if n == 2 then of_process.Directory
    else if n == 3 then of_process.Tables
    else if n == 4 then of_process.Pages
    else if n == 5 then of_process.Used
    else if n == 6 then of_process.Given
    else of_process.Quota

pub same_process : (c : ProcessClause) → numbered_process (process_number c) ≡ c
same_process of_process.Parent = refl
same_process of_process.Directory = refl
same_process of_process.Tables = refl
same_process of_process.Pages = refl
same_process of_process.Used = refl
same_process of_process.Given = refl
same_process of_process.Quota = refl

-- the number of a clause of frames
abbrev pub frame_number : FrameClause → ℕ
frame_number of_frame.Reserved = 1
frame_number of_frame.Directory = 2
frame_number of_frame.Table = 3
frame_number of_frame.Page = 4
frame_number of_frame.Free = 5

-- the clause of frames with this number
abbrev pub numbered_frame : ℕ → FrameClause
numbered_frame n =
    if n == 1 then of_frame.Reserved
    else if n == 2 then of_frame.Directory
    else if n == 3 then of_frame.Table
    else if n == 4 then of_frame.Page
    else of_frame.Free

pub same_frame : (c : FrameClause) → numbered_frame (frame_number c) ≡ c
same_frame of_frame.Reserved = refl
same_frame of_frame.Directory = refl
same_frame of_frame.Table = refl
same_frame of_frame.Page = refl
same_frame of_frame.Free = refl

-- the code of clauses of processes
abbrev pub process_clause_code : Coded ProcessClause
process_clause_code = code_by ℕ coded_ℕ process_number numbered_process same_process

-- the code of clauses of frames
abbrev pub frame_clause_code : Coded FrameClause
frame_clause_code = code_by ℕ coded_ℕ frame_number numbered_frame same_frame

-- the code of verdicts
abbrev pub told_code : Coded Told
told_code =
    code_by (List (Option ProcessClause) × List (Option FrameClause))
    (coded× (coded_list (coded_option process_clause_code)) (coded_list (coded_option frame_clause_code)))
    (λ t. (t.processes, t.frames))
    (λ p. record { processes = p.0; frames = p.1 })
    (λ _. refl)
