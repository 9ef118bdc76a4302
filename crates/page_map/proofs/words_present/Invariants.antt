use Rattle.page_map.proofs.Prelude
use Prelude.{◌≡◌, ◌≤◌, is_present, frame_bytes, word_in, count_range}
use Rattle.page_map.proofs.words_present.Given as goal

abbrev pub invariant-loop-index : goal.invariant-loop-index
invariant-loop-index l = (l.count ≡ count_range (λ i. is_present (word_in (frame_bytes l.memory l.fn.table) i)) 0 l.index) × (l.count ≤ l.index)
