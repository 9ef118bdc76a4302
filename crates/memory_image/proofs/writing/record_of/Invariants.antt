use Rattle.std.proofs.Common.{◌≡◌, ◌*◌, take}
use Rattle.std.specs.List.{flat_map}
use Rattle.arrayvec.specs.ArrayVec.{array_vec_len}
use Rattle.memory_image.specs.Spelling.{number}
use Rattle.memory_image.proofs.writing.record_of.Given as goal

abbrev pub invariant-loop-n : goal.invariant-loop-n
invariant-loop-n l = (l.record.items ≡ flat_map number (take l.n-index l.numbers)) × (array_vec_len l.record ≡ 4 * l.n-index)
