use Rattle.std.proofs.Common.{◌≡◌, ◌-◌, ◌*◌, ◌≤◌, is_some}
use Rattle.page_map.specs.Pages.{count_range}
use Rattle.address_space.specs.Image.{table_at, page_word}
use Rattle.address_space.specs.Spaces.{at_page}
use Rattle.memory_image.specs.Image.{memory_of}
use Rattle.image_check.specs.Counts.{all_range, is_this, frame_of}
use Rattle.image_check.specs.Adds.{Adds}
use Rattle.image_check.specs.Verdict.{table_is_right}
use Rattle.image_check.proofs.walking.walk_tables.Given as goal

abbrev pub invariant-loop-slot : goal.invariant-loop-slot
invariant-loop-slot l =
    (l.right ≡ all_range (λ s. table_is_right l.image (table_at (memory_of l.image) l.fn.pid s)) 256 (l.slot - 256))
    × (l.tables ≡ count_range (λ s. is_some (table_at (memory_of l.image) l.fn.pid s)) 256 (l.slot - 256)) × (l.tables ≤ l.slot - 256)
    × (l.pages ≡ count_range (λ page. is_some (page_word (memory_of l.image) (at_page l.fn.pid page))) 0x40000 (1024 * (l.slot - 256))) × (l.pages ≤ 1024 * (l.slot - 256))
    × Adds l.fn.names l.names (λ f. count_range (λ s. is_this f (table_at (memory_of l.image) l.fn.pid s)) 256 (l.slot - 256))
    × Adds l.fn.maps l.maps (λ f. count_range (λ page. is_this f (frame_of l.image l.fn.pid page)) 0x40000 (1024 * (l.slot - 256)))
