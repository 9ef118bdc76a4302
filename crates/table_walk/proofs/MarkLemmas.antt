-- A mark changes two words, and leaves every walk as it was.
use Rattle.std.proofs.Common.{◌≡◌, ◌≢◌, ℕ, ◌+◌, ◌*◌, ◌^◌, ◌<◌, ◌≤◌, true, List, length, refl, ap, ◌∙◌, arith, inl, inr}
use Rattle.std.specs.Prelude.{◌⊎◌, slice_index, bit_or}
use Rattle.std.proofs.lemmas.Nat.{or_lt}
use Rattle.std.proofs.lemmas.Nat.Bits.{bit_at_or, same_from_bits}
use Rattle.std.proofs.lemmas.Bool.{cases_lt}
use Rattle.page_words.specs.Words.{with_flag, frame_number, is_present, is_user, is_writable}
use Rattle.page_words.specs.Addresses.{page_number, slot_number, index_number}
use Rattle.page_words.proofs.Flags.{set_flag_other, set_flag_frame}
use Rattle.phys_memory.specs.Bytes.{word_at, with_word, word_place}
use Rattle.phys_memory.proofs.Words.{word_at-with_word_same, word_at-with_word_other, byte-with_word_other, length-with_word}
use Rattle.table_walk.proofs.Leads.{walked}
use Rattle.table_walk.specs.declared.Access.{Access}
use Rattle.table_walk.specs.declared.Access.TheVariants.{Read, Write}
use Rattle.table_walk.specs.Walk.{walk_of, dir_word, table_place, table_word}
use Rattle.table_walk.specs.Marks.{marked, accessed_word, touched_word, CanBeMarked, MarksChangeTwoWords, MarksKeepWalks}

-- a walk reads the same of both words
record SameForWalk (v w : ℕ) : Type 0 where
  pub present : is_present v ≡ is_present w
  pub writable : is_writable v ≡ is_writable w
  pub user : is_user v ≡ is_user w
  pub frame : frame_number v ≡ frame_number w

same : (w : ℕ) → SameForWalk w w
same w = record { present = refl; writable = refl; user = refl; frame = refl }

then : (u v w : ℕ) → SameForWalk u v → SameForWalk v w → SameForWalk u w
then u v w a b = record { present = a.present ∙ b.present; writable = a.writable ∙ b.writable; user = a.user ∙ b.user; frame = a.frame ∙ b.frame }

set_same : (w k : ℕ) → 5 ≤ k → k < 12 → SameForWalk (with_flag w k true) w
set_same w k h i = record {
  present = set_flag_other w k 0 (omega arith);
  writable = set_flag_other w k 1 (omega arith);
  user = set_flag_other w k 2 (omega arith);
  frame = set_flag_frame w k i;
}

touched_same : (access : Access) (w : ℕ) → SameForWalk (touched_word access w) w
touched_same Read w = set_same w 5 (omega arith) (omega arith)
touched_same Write w = then _ _ w (set_same (with_flag w 5 true) 6 (omega arith) (omega arith)) (set_same w 5 (omega arith) (omega arith))

-- a flag set twice is set once
set_twice : (w m : ℕ) → bit_or (bit_or w m) m ≡ bit_or w m
set_twice w m = same_from_bits _ _ (λ i. omega (arith, bit_at_or (bit_or w m) m i, bit_at_or w m i))

touched_twice : (access : Access) (w : ℕ) → touched_word access (accessed_word w) ≡ touched_word access w
touched_twice access w = grind (arith, set_twice)

-- the walk's words of two lists of bytes are alike
record SameWalks (xs ys : List ℕ) : Type 0 where
  pub size : length xs ≡ length ys
  pub word : (frame index : ℕ) → SameForWalk (word_at xs (word_place frame index)) (word_at ys (word_place frame index))

-- two words at multiples of four are one word or stand apart
apart : (a i b j : ℕ) → (word_place a i ≡ word_place b j) ⊎ ((word_place b j + 4 ≤ word_place a i) ⊎ (word_place a i + 4 ≤ word_place b j))
apart a i b j = grind (arith, cases_lt)

-- a word that walks read as the one before is written
written_same : (bytes : List ℕ) (a i w : ℕ) → word_place a i + 4 ≤ length bytes → w < 2 ^ 32
    → SameForWalk w (word_at bytes (word_place a i)) → SameWalks (with_word bytes (word_place a i) w) bytes
written_same bytes a i w h l s = record {
  size = length-with_word bytes (word_place a i) w h;
  word = λ b j. elim (apart a i b j) [
    | inl e ↦ grind (arith, word_at-with_word_same)
    | inr n ↦ grind (arith, word_at-with_word_other, same)
  ];
}

-- and every word is below 2 ^ 32 that was
written_lt : (bytes : List ℕ) (a i w : ℕ) → word_place a i + 4 ≤ length bytes → w < 2 ^ 32
    → (b j : ℕ) → word_at bytes (word_place b j) < 2 ^ 32 → word_at (with_word bytes (word_place a i) w) (word_place b j) < 2 ^ 32
written_lt bytes a i w h l b j fits = grind (arith, apart, word_at-with_word_same, word_at-with_word_other)

pub touched_lt : (access : Access) (w : ℕ) → w < 2 ^ 32 → touched_word access w < 2 ^ 32
touched_lt Read w h = or_lt 32 w 32 h (omega arith)
touched_lt Write w h = or_lt 32 (bit_or w 32) 64 (or_lt 32 w 32 h (omega arith)) (omega arith)

same_walks : (xs ys : List ℕ) → SameWalks xs ys → (other at : ℕ) (kind : Access) → walk_of xs other at kind ≡ walk_of ys other at kind
unfolding walk_of
same_walks xs ys s other at kind = grind arith

then_walks : (xs ys zs : List ℕ) → SameWalks xs ys → SameWalks ys zs → SameWalks xs zs
then_walks xs ys zs a b = record { size = a.size ∙ b.size; word = λ f i. then _ _ _ (a.word f i) (b.word f i) }

-- the bytes once the first word is marked
abbrev halfway : List ℕ → ℕ → ℕ → List ℕ
halfway bytes a i = with_word bytes (word_place a i) (accessed_word (word_at bytes (word_place a i)))

-- and once the second is, too: it may be the same word
abbrev written_twice : List ℕ → ℕ → ℕ → ℕ → ℕ → Access → List ℕ
written_twice bytes a i b j access = with_word (halfway bytes a i) (word_place b j) (touched_word access (word_at (halfway bytes a i) (word_place b j)))

record TwoWrites (bytes : List ℕ) (a i b j : ℕ) (access : Access) (after : List ℕ) : Type 0 where
  pub walks : SameWalks after bytes
  pub second : word_at after (word_place b j) ≡ touched_word access (word_at bytes (word_place b j))
  pub first : word_place a i ≢ word_place b j → word_at after (word_place a i) ≡ accessed_word (word_at bytes (word_place a i))
  pub others : (k : ℕ) → (k < word_place a i) ⊎ (word_place a i + 4 ≤ k) → (k < word_place b j) ⊎ (word_place b j + 4 ≤ k) → slice_index after k ≡ slice_index bytes k

second_word : (bytes : List ℕ) (a i b j : ℕ) (access : Access) → word_place a i + 4 ≤ length bytes → accessed_word (word_at bytes (word_place a i)) < 2 ^ 32
    → touched_word access (word_at (halfway bytes a i) (word_place b j)) ≡ touched_word access (word_at bytes (word_place b j))
second_word bytes a i b j access inside fits =
    grind (arith, apart, word_at-with_word_same, touched_twice, word_at-with_word_other)

first_word : (bytes : List ℕ) (a i b j : ℕ) (access : Access) → word_place a i + 4 ≤ length bytes → word_place b j + 4 ≤ length (halfway bytes a i)
    → accessed_word (word_at bytes (word_place a i)) < 2 ^ 32 → word_place a i ≢ word_place b j
    → word_at (written_twice bytes a i b j access) (word_place a i) ≡ accessed_word (word_at bytes (word_place a i))
first_word bytes a i b j access inside also fits n =
    grind (arith, apart, word_at-with_word_other, word_at-with_word_same)

two_writes : (bytes : List ℕ) (a i b j : ℕ) (access : Access) → word_at bytes (word_place a i) < 2 ^ 32 → word_at bytes (word_place b j) < 2 ^ 32 → word_place a i + 4 ≤ length bytes → word_place b j + 4 ≤ length bytes
    → TwoWrites bytes a i b j access (written_twice bytes a i b j access)
two_writes bytes a i b j access lt_v lt_w inside also =
    let v = word_at bytes (word_place a i) in
    let mid = halfway bytes a i in
    let w = word_at mid (word_place b j) in
    let fits_v : accessed_word v < 2 ^ 32 = or_lt 32 v 32 lt_v (omega arith) in
    let size : length mid ≡ length bytes = length-with_word bytes (word_place a i) (accessed_word v) inside in
    let room : word_place b j + 4 ≤ length mid = omega arith in
    let fits_w : touched_word access w < 2 ^ 32 = touched_lt access w (written_lt bytes a i (accessed_word v) inside fits_v b j lt_w) in
    let one = written_same bytes a i (accessed_word v) inside fits_v (set_same v 5 (omega arith) (omega arith)) in
    let two = written_same mid b j (touched_word access w) room fits_w (touched_same access w) in
    record {
      walks = then_walks (written_twice bytes a i b j access) mid bytes two one;
      second = word_at-with_word_same mid (word_place b j) (touched_word access w) room fits_w ∙ second_word bytes a i b j access inside fits_v;
      first = first_word bytes a i b j access inside room fits_v;
      others = λ k x y. byte-with_word_other mid (word_place b j) k (touched_word access w) room y ∙ byte-with_word_other bytes (word_place a i) k (accessed_word v) inside x;
    }

mark_writes : (bytes : List ℕ) (directory address : ℕ) (access : Access) → CanBeMarked bytes directory address access
    → TwoWrites bytes directory (slot_number (page_number address)) (frame_number (dir_word bytes directory address)) (index_number (page_number address)) access (marked bytes directory address access)
unfolding marked
mark_writes bytes directory address access can =
    let whole = can.whole in
    let fits = can.fits in
    let size = can.size in
    let leads = walked bytes directory address access can.found in
    let in_directory : 4096 * directory < length bytes = leads.directory_inside in
    let in_table : 4096 * frame_number (dir_word bytes directory address) < length bytes = leads.table_inside in
    let in_page : 4096 * frame_number (table_word bytes directory address) < length bytes = omega (arith, leads.inside, leads.named) in
    two_writes bytes directory (slot_number (page_number address)) (frame_number (dir_word bytes directory address)) (index_number (page_number address)) access (omega arith) (omega arith) (omega arith) (omega arith)

pub marks_keep_walks : MarksKeepWalks
marks_keep_walks bytes directory address access can other at kind = same_walks _ bytes (mark_writes bytes directory address access can).walks other at kind

pub marks_change_two_words : MarksChangeTwoWords
marks_change_two_words bytes directory address access can =
    let two = mark_writes bytes directory address access can in
    let frame = (two.walks.word directory (slot_number (page_number address))).frame in
    let place : table_place (marked bytes directory address access) directory address ≡ table_place bytes directory address = ap (λ f. word_place f (index_number (page_number address))) frame in
    record {
      same_length = two.walks.size;
      same_place = place;
      table = ap (word_at (marked bytes directory address access)) place ∙ two.second;
      directory_alone = two.first;
      others = two.others;
    }
