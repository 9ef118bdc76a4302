use Rattle.page_map.proofs.Prelude
use Prelude.{◌≡◌, ℕ, ◌*◌, ◌<◌, ◌≤◌, None, frame_bytes, table_of}
use Rattle.page_map.proofs.regions.next_region.Given as goal

abbrev pub invariant-loop-pair : goal.invariant-loop-pair
invariant-loop-pair l = (s : ℕ) → l.fn.first ≤ s → s < 2 * l.pair → s < 960 → table_of (frame_bytes l.memory) l.fn.directory s ≡ None
