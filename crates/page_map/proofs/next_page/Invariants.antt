use Rattle.page_map.proofs.Prelude
use Prelude.{◌≡◌, ℕ, ◌-◌, ◌<◌, ◌≤◌, false, is_some, frame_bytes, entry_at, max}
use Rattle.page_map.proofs.next_page.Given as goal

-- no page so far is mapped
abbrev pub invariant-loop-region : goal.invariant-loop-region
invariant-loop-region l = record {
  low : max l.fn.from 0x40000 ≤ l.first;
  none : (p : ℕ) → max l.fn.from 0x40000 ≤ p → p < l.first → is_some (entry_at (frame_bytes l.memory) l.fn.directory p) ≡ false;
}

abbrev pub decreases-loop-region : goal.decreases-loop-region
decreases-loop-region l = 0xf0000 - l.first
