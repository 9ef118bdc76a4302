use Rattle.std.proofs.Common.{◌≡◌, ◌≤◌, ◌+◌, ◌*◌}
use Rattle.std.specs.List.{flat_map, range_with_len}
use Rattle.arrayvec.specs.ArrayVec.{array_vec_len}
use Rattle.address_space.specs.Image.{word_of}
use Rattle.memory_image.specs.Image.{memory_of}
use Rattle.image_map.specs.Runs.{page_of}
use Rattle.image_map.proofs.runs.pages_of.Given as goal

abbrev pub invariant-loop-index : goal.invariant-loop-index
invariant-loop-index l =
    (l.pages.items ≡ flat_map (λ i. page_of (1024 * l.slot + i) (word_of (memory_of l.image) l.fn.table i)) (range_with_len 0 l.index))
    × (array_vec_len l.pages ≤ l.index)
