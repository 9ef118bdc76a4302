-- A word of memory read and written, by frames.
use Rattle.page_map.proofs.Prelude
use Prelude.{◌≡◌, ◌≢◌, ℕ, ◌+◌, ◌*◌, ◌<◌, ◌≤◌, List, length, replicate, ap, ◌∙◌, arith, word_in, with_word_in, with_frame, word_in-frame, frames-with_word, with_frame-other}
use Rattle.phys_memory.specs.Bytes.{word_at, with_word, frame_bytes}

place : (frame index : ℕ) → 4096 * frame + index * 4 ≡ 4096 * frame + 4 * index
place frame index = omega arith

pub word_read : (bytes : List ℕ) (frame index : ℕ) → index < 1024 → 4096 * frame + 4096 ≤ length bytes → word_at bytes (4096 * frame + index * 4) ≡ word_in (frame_bytes bytes frame) index
word_read bytes frame index i l = ap (word_at bytes) (place frame index) ∙ word_in-frame bytes frame index i

pub word_written : (bytes : List ℕ) (frame index word : ℕ) → index < 1024 → 4096 * frame + 4096 ≤ length bytes
    → frame_bytes (with_word bytes (4096 * frame + index * 4) word) ≡ with_frame (frame_bytes bytes) frame (with_word_in (frame_bytes bytes frame) index word)
word_written bytes frame index word i l = ap (λ p. frame_bytes (with_word bytes p word)) (place frame index) ∙ frames-with_word bytes frame index word i l

-- a blank frame that is then linked
pub linked : (m one two : ℕ → List ℕ) (directory slot table word : ℕ) → table ≢ directory → one ≡ with_frame m table (replicate 4096 0)
    → two ≡ with_frame one directory (with_word_in (one directory) slot word)
    → two ≡ with_frame (with_frame m table (replicate 4096 0)) directory (with_word_in (m directory) slot word)
linked m one two directory slot table word n first second = grind (arith, with_frame-other)
