-- A verdict: the first failing clause of each process and of each frame.
use Rattle.std.specs.Prelude.{ℕ, Bool, ◌&&◌, List, map, Option, None, is_none, slice_get}
use Rattle.std.specs.Option.{unwrap_or}
use Rattle.std.specs.List.{list_all, range_with_len}
use Rattle.image_check.specs.declared.clauses.ProcessClause.{ProcessClause}
use Rattle.image_check.specs.declared.clauses.FrameClause.{FrameClause}
use Rattle.memory_image.specs.Image.{Image, frames}
use Rattle.image_check.specs.Verdict.{process_clause, frame_clause}

-- the first failing clause of each process and of each frame
pub record Told : Type 0 where
  -- for each of the 64 processes the first clause that it fails
  pub processes : List (Option ProcessClause)
  -- for each frame the first clause that it fails
  pub frames : List (Option FrameClause)

-- the verdict on an image
abbrev pub verdict_on : Image → Told
verdict_on image = record {
  processes = map (process_clause image) (range_with_len 0 64);
  frames = map (frame_clause image) (range_with_len 0 (frames image));
}

-- no clause fails
abbrev pub fails_nothing : Told → Bool
fails_nothing told = list_all is_none told.processes && list_all is_none told.frames

-- the first clause that process p fails
abbrev pub process_told : Told → ℕ → Option ProcessClause
process_told told p = unwrap_or (slice_get told.processes p) None

-- the first clause that frame f fails
abbrev pub frame_told : Told → ℕ → Option FrameClause
frame_told told f = unwrap_or (slice_get told.frames f) None
