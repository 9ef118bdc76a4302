use Rattle.std.proofs.Common.{◌≡◌, ℕ, ◌<◌, List, replicate, ap, ◌∙◌, arith}
use Rattle.phys_memory.specs.Bytes.{blank_bytes, frame_bytes}
use Rattle.phys_memory.proofs.Frames.{frame-blank}
use Rattle.page_map.proofs.LawProofs.{blank_frames_are_maps, blank_fresh}
use Rattle.base_tests.proofs.page_map_tests.empty_map.Goals as goal

blank_directory : (bytes : List ℕ) (n d : ℕ) → bytes ≡ blank_bytes n → d < n → frame_bytes bytes d ≡ replicate 4096 0
blank_directory bytes n d is below = ap (λ b. frame_bytes b d) is ∙ frame-blank n d below

pub returns-clause-map : goal.returns-clause-map
returns-clause-map c = blank_frames_are_maps c.in_ok-memory.memory 1 (omega (arith, c.in_ok-memory.ensures.length)) (blank_directory c.in_ok-memory.memory 16 1 c.in_ok-memory.ensures.zero (omega arith))

pub returns-clause-fresh : goal.returns-clause-fresh
returns-clause-fresh c = blank_fresh (frame_bytes c.in_ok-memory.memory) 1 256 2 (blank_directory c.in_ok-memory.memory 16 1 c.in_ok-memory.ensures.zero (omega arith)) (omega arith) (omega arith) (omega arith)
