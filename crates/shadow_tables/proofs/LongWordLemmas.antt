-- What a word of eight bytes reads as after a word or zeros were written, and what the words of shadow tables say.
use Rattle.std.proofs.Common.{◌≡◌, ℕ, ◌+◌, ◌-◌, ◌*◌, ◌^◌, ◌<◌, ◌≤◌, Bool, true, false, List, ◌++◌, length, take, drop, replicate, sym, ap, ◌∙◌, arith, inl, inr, length-drop}
use Rattle.std.specs.Prelude.{slice_index, ◌⊎◌}
use Rattle.std.proofs.lemmas.Bool.{cases_lt}
use Rattle.std.proofs.lemmas.List.{get_or-drop, get_or-replicate, take_at, drop_at, length-take-le, length-replicate, drop-drop}
use Rattle.std.specs.List.{splice}
use borrow.Rule.Slice.PartMut.{put_mid}
use Rattle.byteorder.specs.Endian.{little_bytes}
use Rattle.page_words.specs.Words.{is_present, is_writable, is_user, is_accessed, is_dirty}
use Rattle.phys_memory.proofs.Words.{byte-splice_below, byte-splice_in, byte-splice_above, length-splice}
use Rattle.shadow_tables.specs.LongWords.{long_at, with_long, long_place, target_of, is_foreign, entry_word}

-- words of the same eight bytes are the same
pub long_by_bytes : (xs ys : List ℕ) (p q : ℕ) → ((k : ℕ) → k < 8 → slice_index xs (p + k) ≡ slice_index ys (q + k)) → long_at xs p ≡ long_at ys q
unfolding long_at
long_by_bytes xs ys p q h = grind (arith, get_or-drop)

pub long_at-with_long_same : (xs : List ℕ) (p w : ℕ) → p + 8 ≤ length xs → w < 2 ^ 64 → long_at (with_long xs p w) p ≡ w
unfolding long_at with_long
long_at-with_long_same xs p w h l = grind (arith, take_at, drop_at, length-take-le)

pub byte-with_long_other : (xs : List ℕ) (p i w : ℕ) → p + 8 ≤ length xs → (i < p) ⊎ (p + 8 ≤ i) → slice_index (with_long xs p w) i ≡ slice_index xs i
unfolding with_long
byte-with_long_other xs p i w h (inl l) = byte-splice_below xs (little_bytes 8 w) p (p + 8) i (omega arith) l
byte-with_long_other xs p i w h (inr l) = byte-splice_above xs (little_bytes 8 w) p (p + 8) i (omega arith) (omega arith) (omega arith) l

-- another word of the tables
pub long_at-with_long_other : (xs : List ℕ) (p q w : ℕ) → p + 8 ≤ length xs → (q + 8 ≤ p) ⊎ (p + 8 ≤ q) → long_at (with_long xs p w) q ≡ long_at xs q
long_at-with_long_other xs p q w h (inl l) = long_by_bytes _ _ q q (λ k b. byte-with_long_other xs p (q + k) w h (inl (omega arith)))
long_at-with_long_other xs p q w h (inr l) = long_by_bytes _ _ q q (λ k b. byte-with_long_other xs p (q + k) w h (inr (omega arith)))

-- two words of frames are one, or lie apart
pub long_apart : (f i g j : ℕ) → i < 512 → j < 512 → ((g ≡ f) × (j ≡ i)) ⊎ ((long_place g j + 8 ≤ long_place f i) ⊎ (long_place f i + 8 ≤ long_place g j))
long_apart f i g j l m = grind (arith, cases_lt)

-- a byte of a frame made zero, and one of another
pub byte-zero_frame : (xs : List ℕ) (f k : ℕ) → 4096 * f + 4096 ≤ length xs → k < 4096 → slice_index (splice xs (4096 * f) (4096 * f + 4096) (replicate 4096 0)) (4096 * f + k) ≡ 0
byte-zero_frame xs f k h l =
    byte-splice_in xs (replicate 4096 0) (4096 * f) (4096 * f + 4096) k (omega arith) (omega (arith, length-replicate {A = ℕ} 4096 0)) ∙ get_or-replicate 4096 k 0 0 l

pub byte-zero_other : (xs : List ℕ) (f k : ℕ) → 4096 * f + 4096 ≤ length xs → (k < 4096 * f) ⊎ (4096 * f + 4096 ≤ k) → slice_index (splice xs (4096 * f) (4096 * f + 4096) (replicate 4096 0)) k ≡ slice_index xs k
byte-zero_other xs f k h (inl l) = byte-splice_below xs (replicate 4096 0) (4096 * f) (4096 * f + 4096) k (omega arith) l
byte-zero_other xs f k h (inr l) = byte-splice_above xs (replicate 4096 0) (4096 * f) (4096 * f + 4096) k (omega arith) (omega (arith, length-replicate {A = ℕ} 4096 0)) (omega arith) l

pub length-zero_frame : (xs : List ℕ) (f : ℕ) → 4096 * f + 4096 ≤ length xs → length (splice xs (4096 * f) (4096 * f + 4096) (replicate 4096 0)) ≡ length xs
length-zero_frame xs f h = length-splice xs (replicate 4096 0) (4096 * f) (4096 * f + 4096) (omega arith) h (omega (arith, length-replicate {A = ℕ} 4096 0))

-- eight zeros are the word 0
pub long_of_zeros : (xs : List ℕ) (p : ℕ) → ((k : ℕ) → k < 8 → slice_index xs (p + k) ≡ 0) → long_at xs p ≡ 0
unfolding long_at
long_of_zeros xs p h = grind (arith, get_or-drop)

-- a word of shadow tables, by what it names
pub record SaysEntry (word target : ℕ) (write : Bool) : Type 0 where
  pub present : is_present word ≡ true
  pub user : is_user word ≡ true
  pub writable : is_writable word ≡ write
  pub accessed : is_accessed word ≡ true
  pub dirty : is_dirty word ≡ write
  pub foreign : is_foreign word ≡ false
  pub target_is : target_of word ≡ target
  pub fits : word < 2 ^ 52

pub says_entry : (n : ℕ) (write : Bool) → n < 2 ^ 40 → SaysEntry (entry_word (4096 * n) write) (4096 * n) write
says_entry n true h = record {
  present = grind arith;
  user = grind arith;
  writable = grind arith;
  accessed = grind arith;
  dirty = grind arith;
  foreign = grind arith;
  target_is = omega arith;
  fits = omega arith;
}
says_entry n false h = record {
  present = grind arith;
  user = grind arith;
  writable = grind arith;
  accessed = grind arith;
  dirty = grind arith;
  foreign = grind arith;
  target_is = omega arith;
  fits = omega arith;
}

-- a list written over another of its length, as it comes back through a Vec
pub written_over : (xs ys : List ℕ) (len : ℕ) → len ≡ length xs → length ys ≡ length xs → take len (ys ++ drop (length ys) xs) ≡ ys
written_over xs ys len e h = take_at ys (drop (length ys) xs) len (h ∙ sym e)

-- zeros over a part
pub zeroed : (xs part : List ℕ) (a k : ℕ) → a + k ≤ length xs → part ≡ replicate (length (take (a + k - a) (drop a xs))) 0 → put_mid a (a + k - a) xs part ≡ splice xs a (a + k) (replicate k 0)
zeroed xs part a k h e =
    let count : a + k - a ≡ k = omega arith in
    let size : length (take (a + k - a) (drop a xs)) ≡ k = length-take-le (a + k - a) (drop a xs) (omega (arith, length-drop a xs)) ∙ count in
    let zeros : part ≡ replicate k 0 = e ∙ ap (λ n. replicate n 0) size in
    ap (λ n. put_mid a n xs part) count ∙ ap (put_mid a k xs) zeros ∙ written_in xs (replicate k 0) a k
  where
    written_in : (xs ys : List ℕ) (a k : ℕ) → put_mid a k xs ys ≡ splice xs a (a + k) ys
    written_in xs ys a k = grind (arith, drop-drop, put_mid)
