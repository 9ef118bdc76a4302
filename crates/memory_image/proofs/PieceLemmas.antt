-- The words and pieces of a list of bytes, as parts of it.
use Rattle.std.proofs.Common.{◌≡◌, ℕ, zero, suc, ◌+◌, ◌*◌, ◌<◌, ◌≤◌, List, [], ◌∷◌, ◌++◌, length, length-take, length-drop, take, drop, get_or, get_or-take, get_or-drop, refl, sym, ap, ◌∙◌, arith, inl, inr}
use Rattle.std.specs.Prelude.{slice_index}
use Rattle.std.specs.Int.{w32, from_le_bytes}
use Rattle.std.specs.List.{flat_map, range_with_len}
use Rattle.std.proofs.lemmas.Bool.{cases_lt}
use Rattle.std.proofs.lemmas.List.{get_or_past, drop-drop}
use Rattle.std.proofs.lemmas.Nat.{le_bytes_4}
use Rattle.phys_memory.specs.Bytes.{word_at}
use Rattle.memory_image.specs.Spelling.{number}

pub four : (xs : List ℕ) → 4 ≤ length xs → slice_index xs 0 + 256 * (slice_index xs 1 + 256 * (slice_index xs 2 + 256 * (slice_index xs 3 + 256 * 0))) ≡ from_le_bytes w32 (take 4 xs)
four [] h = absurd (omega arith)
four (a ∷ []) h = absurd (omega arith)
four (a ∷ b ∷ []) h = absurd (omega arith)
four (a ∷ b ∷ c ∷ []) h = absurd (omega arith)
four (a ∷ b ∷ c ∷ d ∷ rest) h = omega arith

small-part : (xs : List ℕ) (k place : ℕ) → ((i : ℕ) → slice_index xs i < 256) → (i : ℕ) → get_or (take k (drop place xs)) i 0 < 256
small-part xs k place small i = elim (cases_lt i k) [
  | inl low ↦ rw (get_or-take k (drop place xs) i 0 low) (rw get_or-drop (small (place + i)))
  | inr high ↦ rw (get_or_past (take k (drop place xs)) i 0 (omega (arith, length-take k (drop place xs)))) (omega arith)
]

-- four bytes at a place, as a number
pub number_of_four : (xs : List ℕ) (place : ℕ) → from_le_bytes w32 (slice_index xs place ∷ slice_index xs (place + 1) ∷ slice_index xs (place + 2) ∷ slice_index xs (place + 3) ∷ []) ≡ word_at xs place
unfolding word_at
number_of_four xs place =
    let a : slice_index (drop place xs) 0 ≡ slice_index xs place = get_or-drop place xs 0 0 ∙ ap (slice_index xs) (let e : place + 0 ≡ place = omega arith in e) in
    let b : slice_index (drop place xs) 1 ≡ slice_index xs (place + 1) = get_or-drop place xs 1 0 in
    let c : slice_index (drop place xs) 2 ≡ slice_index xs (place + 2) = get_or-drop place xs 2 0 in
    let d : slice_index (drop place xs) 3 ≡ slice_index xs (place + 3) = get_or-drop place xs 3 0 in
    omega (arith, a, b, c, d)

-- the number of four bytes spells them
pub number_spells : (xs : List ℕ) (place : ℕ) → ((i : ℕ) → slice_index xs i < 256) → place + 4 ≤ length xs → number (word_at xs place) ≡ take 4 (drop place xs)
unfolding word_at
number_spells xs place small inside =
    let long = length-drop place xs in
    le_bytes_4 (take 4 (drop place xs)) (word_at xs place) (omega (arith, length-take 4 (drop place xs), long)) (small-part xs 4 place small) (four (drop place xs) (omega (arith, long)))

take-nil : (n : ℕ) → take {A = ℕ} n [] ≡ []
take-nil zero = refl
take-nil (suc n) = refl

pub take-more : (i j : ℕ) (xs : List ℕ) → take i xs ++ take j (drop i xs) ≡ take (i + j) xs
take-more zero j xs = ap (λ n. take n xs) (let e : j ≡ 0 + j = omega arith in e)
take-more (suc i) j [] = take-nil j ∙ sym (take-nil (suc i + j))
take-more (suc i) j (x ∷ xs) = ap (λ ys. x ∷ ys) (take-more i j xs) ∙ ap (λ n. take n (x ∷ xs)) (let e : suc (i + j) ≡ suc i + j = omega arith in e)

-- pieces of one width, one after the other
pub pieces : (xs : List ℕ) (width start first count : ℕ)
    → flat_map (λ k. take width (drop (start + width * k) xs)) (range_with_len first count) ≡ take (width * count) (drop (start + width * first) xs)
pieces xs width start first zero = sym (ap (λ n. take n (drop (start + width * first) xs)) (let e : width * 0 ≡ 0 = omega arith in e))
pieces xs width start first (suc count) =
    let a : start + width * (first + 1) ≡ start + width * first + width = omega arith in
    let b : width * suc count ≡ width + width * count = omega arith in
    ap (λ ys. take width (drop (start + width * first) xs) ++ ys) (pieces xs width start (first + 1) count ∙ ap (λ p. take (width * count) (drop p xs)) a ∙ ap (take (width * count)) (sym (drop-drop width (start + width * first) xs)))
    ∙ take-more width (width * count) (drop (start + width * first) xs)
    ∙ ap (λ n. take n (drop (start + width * first) xs)) (sym b)

pub small-drop : (xs : List ℕ) (place : ℕ) → ((i : ℕ) → slice_index xs i < 256) → (i : ℕ) → slice_index (drop place xs) i < 256
small-drop xs place small i = rw get_or-drop (small (place + i))
