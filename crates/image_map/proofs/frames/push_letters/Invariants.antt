use Rattle.std.proofs.Common.{◌≡◌, ◌+◌, ◌++◌}
use Rattle.arrayvec.specs.ArrayVec.{array_vec_len}
use Rattle.image_map.specs.Text.{letters}
use Rattle.image_map.proofs.frames.push_letters.Given as goal

abbrev pub invariant-loop-place : goal.invariant-loop-place
invariant-loop-place l = (l.line.items ≡ l.initial.line.items ++ letters l.image l.first l.place) × (array_vec_len l.line ≡ array_vec_len l.initial.line + l.place)
