use Rattle.std.proofs.Common.{◌≡◌, ◌-◌}
use Rattle.page_map.specs.Pages.{count_range}
use Rattle.address_space.specs.Image.{table_at}
use Rattle.memory_image.specs.Image.{memory_of}
use Rattle.image_check.specs.Counts.{is_this}
use Rattle.image_check.proofs.repeated_names.names_before.Given as goal

abbrev pub invariant-loop-slot : goal.invariant-loop-slot
invariant-loop-slot l = l.names ≡ count_range (λ s. is_this l.fn.frame (table_at (memory_of l.image) l.fn.pid s)) 256 (l.slot - 256)
