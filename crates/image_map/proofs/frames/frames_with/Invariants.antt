use Rattle.std.proofs.Common.{◌≡◌, ◌≤◌, ◌==◌}
use Rattle.page_map.specs.Pages.{count_range}
use Rattle.memory_image.specs.Image.{role_at}
use Rattle.image_map.specs.Text.{letter}
use Rattle.image_map.proofs.frames.frames_with.Given as goal

abbrev pub invariant-loop-frame : goal.invariant-loop-frame
invariant-loop-frame l = (l.count ≡ count_range (λ f. letter (role_at l.image f) == l.wanted) 0 l.frame) × (l.count ≤ l.frame)
