-- What was found of the processes that were drawn.
use Rattle.std.specs.Prelude.{◌≡◌, ◌==◌, ℕ, ◌+◌, ◌<◌, ◌^◌, List, length, sum_by, slice_index, slice_get, Option, Some, None, if◌then◌else◌}
use Rattle.std.specs.Option.{unwrap_or}
use Rattle.memory_image.specs.Image.{Image, frames}
use Rattle.image_check.specs.declared.clauses.ProcessClause.{ProcessClause}
use Rattle.image_check.specs.Counts.{names_by, maps_by}
use Rattle.image_check.specs.Verdict.{process_clause}
use Rattle.image_check.specs.Adds.{Counts}
use Rattle.image_check.specs.Draws.{times}

-- the clause that a process fails, where it was drawn
abbrev pub clause_found : Image → List ℕ → ℕ → Option ProcessClause
clause_found image drawn p = if times p drawn == 0 then None else process_clause image p

-- the clause of process p in a list
abbrev pub clause_at : List (Option ProcessClause) → ℕ → Option ProcessClause
clause_at clauses p = unwrap_or (slice_get clauses p) None

-- the clauses of the drawn processes, and how often they name and map each frame
pub record IsFound (image : Image) (drawn : List ℕ) (found : List (Option ProcessClause)) (named mapped : List ℕ) : Type 0 where
  pub long : length found ≡ 64
  pub clauses : (p : ℕ) → p < 64 → clause_at found p ≡ clause_found image drawn p
  pub names : Counts named (frames image) (λ f. sum_by (λ p. names_by image p f) drawn)
  pub maps : Counts mapped (frames image) (λ f. sum_by (λ p. maps_by image p f) drawn)

-- the first of two, where there is one
abbrev pub either : Option ProcessClause → Option ProcessClause → Option ProcessClause
either (Some clause) other = Some clause
either None other = other

-- each count of one list and that of another may be added
pub record HaveRoomFor (into counts : List ℕ) : Type 0 where
  pub same : length counts ≡ length into
  pub room : (f : ℕ) → f < length into → slice_index into f + slice_index counts f < 2 ^ 32
