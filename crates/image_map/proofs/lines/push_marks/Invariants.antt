use Rattle.std.proofs.Common.{◌≡◌, ◌+◌, ◌++◌, replicate}
use Rattle.arrayvec.specs.ArrayVec.{array_vec_len}
use Rattle.image_map.proofs.lines.push_marks.Given as goal

abbrev pub invariant-loop-place : goal.invariant-loop-place
invariant-loop-place l = (l.line.items ≡ l.initial.line.items ++ replicate l.place l.mark) × (array_vec_len l.line ≡ array_vec_len l.initial.line + l.place)
