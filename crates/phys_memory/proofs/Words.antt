-- What a word reads as after a word was written.
use Rattle.std.proofs.Common.{◌≡◌, ℕ, ◌+◌, ◌-◌, ◌^◌, ◌<◌, ◌≤◌, List, ◌++◌, length, take, drop, arith, length-append}
use Rattle.std.proofs.Common.{length-drop, inl, inr}
use Rattle.std.specs.Prelude.{slice_index, ◌⊎◌}
use Rattle.std.proofs.lemmas.List.{length-take-le, get_or-append_right, get_or-take, get_or-drop, get_or_append_left, drop_at}
use Rattle.std.specs.List.{splice}
use Rattle.byteorder.specs.Endian.{little_bytes}
use Rattle.byteorder.specs.Numbers.{little_from-lt}
use Rattle.phys_memory.specs.Bytes.{word_at, with_word}

-- a byte before a part that was replaced
pub byte-splice_below : (xs ys : List ℕ) (a e i : ℕ) → a ≤ length xs → i < a → slice_index (splice xs a e ys) i ≡ slice_index xs i
byte-splice_below xs ys a e i h l = grind (arith, length-take-le, get_or_append_left, get_or-take)

-- a byte of the part that replaces another
pub byte-splice_in : (xs ys : List ℕ) (a e k : ℕ) → a ≤ length xs → k < length ys → slice_index (splice xs a e ys) (a + k) ≡ slice_index ys k
byte-splice_in xs ys a e k h l = grind (arith, get_or-append_right, length-take-le, get_or_append_left)

-- a byte behind a part that was replaced by one of the same length
pub byte-splice_above : (xs ys : List ℕ) (a e i : ℕ) → a ≤ length xs → length ys ≡ e - a → a ≤ e → e ≤ i → slice_index (splice xs a e ys) i ≡ slice_index xs i
byte-splice_above xs ys a e i h m o l = grind (arith, get_or-append_right, length-take-le, get_or-drop)

pub length-splice : (xs ys : List ℕ) (a e : ℕ) → a ≤ e → e ≤ length xs → length ys ≡ e - a → length (splice xs a e ys) ≡ length xs
length-splice xs ys a e o h m = omega (arith, length-append (take a xs) (ys ++ drop e xs), length-append ys (drop e xs), length-drop e xs, length-take-le a xs (omega arith))

-- words of the same four bytes are the same
pub word_by_bytes : (xs ys : List ℕ) (p q : ℕ) → ((k : ℕ) → k < 4 → slice_index xs (p + k) ≡ slice_index ys (q + k)) → word_at xs p ≡ word_at ys q
unfolding word_at
word_by_bytes xs ys p q h = grind (arith, get_or-drop)

pub word_at-with_word_same : (xs : List ℕ) (p w : ℕ) → p + 4 ≤ length xs → w < 2 ^ 32 → word_at (with_word xs p w) p ≡ w
unfolding word_at with_word
word_at-with_word_same xs p w h l = grind (arith, drop_at, length-take-le)

pub word_at-with_word_other : (xs : List ℕ) (p q w : ℕ) → p + 4 ≤ length xs → (q + 4 ≤ p) ⊎ (p + 4 ≤ q) → word_at (with_word xs p w) q ≡ word_at xs q
unfolding with_word
word_at-with_word_other xs p q w h (inl l) = word_by_bytes _ _ q q (λ k b. byte-splice_below xs (little_bytes 4 w) p (p + 4) (q + k) (omega arith) (omega arith))
word_at-with_word_other xs p q w h (inr l) = word_by_bytes _ _ q q (λ k b. byte-splice_above xs (little_bytes 4 w) p (p + 4) (q + k) (omega arith) (omega arith) (omega arith) (omega arith))

-- a byte outside a word that is written
pub byte-with_word_other : (xs : List ℕ) (p i w : ℕ) → p + 4 ≤ length xs → (i < p) ⊎ (p + 4 ≤ i) → slice_index (with_word xs p w) i ≡ slice_index xs i
unfolding with_word
byte-with_word_other xs p i w h (inl l) = byte-splice_below xs (little_bytes 4 w) p (p + 4) i (omega arith) l
byte-with_word_other xs p i w h (inr l) = byte-splice_above xs (little_bytes 4 w) p (p + 4) i (omega arith) (omega arith) (omega arith) l

pub length-with_word : (xs : List ℕ) (p w : ℕ) → p + 4 ≤ length xs → length (with_word xs p w) ≡ length xs
unfolding with_word
length-with_word xs p w h = length-splice xs (little_bytes 4 w) p (p + 4) (omega arith) h (omega arith)

pub word_at-lt : (xs : List ℕ) (p : ℕ) → ((i : ℕ) → slice_index xs i < 256) → word_at xs p < 2 ^ 32
unfolding word_at
word_at-lt xs p h = little_from-lt 0 4 (drop p xs) (λ k. let e : slice_index (drop p xs) k ≡ slice_index xs (p + k) = get_or-drop p xs k 0 in let l = h (p + k) in omega arith)
