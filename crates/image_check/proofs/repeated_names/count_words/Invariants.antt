use Rattle.std.proofs.Common.{◌*◌}
use Rattle.page_map.specs.Pages.{count_range}
use Rattle.image_check.specs.Counts.{is_this}
use Rattle.image_check.specs.Adds.{Adds, frame_named}
use Rattle.image_check.proofs.repeated_names.count_words.Given as goal

abbrev pub invariant-loop-index : goal.invariant-loop-index
invariant-loop-index l = Adds l.fn.maps l.maps (λ f. l.fn.times * count_range (λ i. is_this f (frame_named l.image l.fn.table i)) 0 l.index)
