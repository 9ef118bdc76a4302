use Rattle.std.proofs.Common.{◌≡◌, ◌-◌, ◌≤◌}
use Rattle.page_words.specs.Words.{is_present}
use Rattle.page_map.specs.Pages.{count_range}
use Rattle.address_space.specs.Image.{word_of}
use Rattle.memory_image.specs.Image.{memory_of}
use Rattle.image_check.specs.Counts.{all_range, is_this}
use Rattle.image_check.specs.Adds.{Adds, frame_named}
use Rattle.image_check.specs.Verdict.{maps_page}
use Rattle.image_check.proofs.walking.walk_table.Given as goal

abbrev pub invariant-loop-index : goal.invariant-loop-index
invariant-loop-index l =
    (l.right ≡ all_range (λ i. maps_page l.image (word_of (memory_of l.image) l.fn.table i)) 0 (l.index - 0))
    × (l.words ≡ count_range (λ i. is_present (word_of (memory_of l.image) l.fn.table i)) 0 l.index) × (l.words ≤ l.index)
    × Adds l.fn.maps l.maps (λ f. count_range (λ i. is_this f (frame_named l.image l.fn.table i)) 0 (l.index - 0))
