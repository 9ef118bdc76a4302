use Rattle.std.proofs.Common.{◌≡◌, ◌-◌}
use Rattle.address_space.specs.Image.{word_of}
use Rattle.memory_image.specs.Image.{memory_of}
use Rattle.image_check.specs.Counts.{all_range}
use Rattle.image_check.specs.Verdict.{links_table}
use Rattle.image_check.proofs.walking.links_all.Given as goal

abbrev pub invariant-loop-slot : goal.invariant-loop-slot
invariant-loop-slot l = l.links ≡ all_range (λ s. links_table l.image l.fn.pid s (word_of (memory_of l.image) l.fn.directory s)) 0 (l.slot - 0)
