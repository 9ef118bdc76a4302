use Rattle.std.proofs.Common.{◌≡◌, ◌<◌, ◌++◌, drop}
use Rattle.arrayvec.specs.ArrayVec.{array_vec_len}
use Rattle.image_map.specs.Runs.{runs_from, runs_of}
use Rattle.image_map.proofs.runs.runs_of.Given as goal

abbrev pub invariant-loop-place : goal.invariant-loop-place
invariant-loop-place l = (l.runs.items ++ runs_from l.current (drop l.place l.pages) ≡ runs_of l.pages) × (array_vec_len l.runs < l.place)
