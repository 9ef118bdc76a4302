use Rattle.page_map.proofs.Prelude
use Prelude.{◌≡◌, ◌-◌, ◌*◌, ◌≤◌, is_some, frame_bytes, entry_at, count_range}
use Rattle.page_map.proofs.pages.Given as goal

abbrev pub invariant-loop-slot : goal.invariant-loop-slot
invariant-loop-slot l = (l.pages ≡ count_range (λ page. is_some (entry_at (frame_bytes l.memory) l.fn.directory page)) 0x40000 (1024 * (l.slot - 256))) × (l.pages ≤ 1024 * (l.slot - 256))
