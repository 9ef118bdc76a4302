use Rattle.page_map.proofs.Prelude
use Prelude.{◌≡◌, ℕ, ◌*◌, ◌<◌, ◌≤◌, None, frame_bytes, word_in, word_entry}
use Rattle.page_map.proofs.regions.next_listed.Given as goal

abbrev pub invariant-loop-pair : goal.invariant-loop-pair
invariant-loop-pair l = (i : ℕ) → l.fn.first ≤ i → i < 2 * l.pair → i < 1024 → word_entry (word_in (frame_bytes l.memory l.fn.table) i) ≡ None
