-- Which numbers a list of truth values marks, and how many.
use Rattle.std.proofs.Common.{◌≡◌, ◌≢◌, ℕ, zero, suc, ◌+◌, ◌<◌, ◌≤◌, Bool, true, false, cond, ◌&&◌, ◌||◌, List, [], ◌∷◌}
use Rattle.std.proofs.Common.{length, replicate, get_or, refl, sym, ap, ◌∙◌, arith, count_by}
use Rattle.std.specs.Prelude.{slice_set}
use Rattle.std.specs.List.{range_with_len}
use Rattle.std.proofs.lemmas.List.{get_or-set_same, get_or-set_other}
use Rattle.std.proofs.lemmas.List.Sums.{sum_by-cons}
use Rattle.page_words.specs.FiniteMap.{nat_order, same}
use Rattle.page_words.specs.FiniteSet as set
use Rattle.page_words.specs.FiniteSet.{Set}
use Rattle.page_words.specs.Marked.{marked_from, marked_numbers}
use Rattle.page_words.proofs.MapLemmas.{contains-insert, len-insert, same_itself, same_set}
use Rattle.page_words.proofs.SetLemmas.{contains-remove, same_cases}
use Rattle.std.proofs.Math.Bool.{and-false, and-true, or-false}
use Rattle.page_words.proofs.SetLemmas.{same_apart}

contains-one_more : (mark : Bool) (s : Set nat_order) (k q : ℕ) → set.contains (cond mark (set.insert s k) s) q ≡ ((mark && same nat_order q k) || set.contains s q)
contains-one_more true s k q = contains-insert s k q
contains-one_more false s k q = refl

pub contains-below : (start : ℕ) (marks : List Bool) (q : ℕ) → q < start → set.contains (marked_from start marks) q ≡ false
contains-below start [] q h = refl
contains-below start (mark ∷ marks) q h =
    let rest = contains-below (start + 1) marks q (omega arith) in
    let other : q ≢ start = omega arith in
    contains-one_more mark (marked_from (start + 1) marks) start q
    ∙ (λ i. (mark && same_apart nat_order q start other i) || rest i)
    ∙ ap (λ b. b || false) (and-false mark)

contains-at : (start : ℕ) (marks : List Bool) (i q : ℕ) → q ≡ start + i → set.contains (marked_from start marks) q ≡ get_or marks i false
contains-at start [] i q e = refl
contains-at start (mark ∷ marks) zero q e =
    grind (arith, contains-below, contains-one_more, same_itself, or-false, and-true)
contains-at start (mark ∷ marks) (suc i) q e =
    let other : q ≢ start = omega arith in
    contains-one_more mark (marked_from (start + 1) marks) start q
    ∙ ap (λ b. (mark && b) || set.contains (marked_from (start + 1) marks) q) (same_apart nat_order q start other)
    ∙ ap (λ b. b || set.contains (marked_from (start + 1) marks) q) (and-false mark)
    ∙ contains-at (start + 1) marks i q (omega arith)

-- a number is marked exactly where the list is true at it
pub contains-marked : (marks : List Bool) (q : ℕ) → set.contains (marked_numbers marks) q ≡ get_or marks q false
unfolding marked_numbers
contains-marked marks q = contains-at 0 marks q q (omega arith)

one_more : (mark : Bool) (s : Set nat_order) (k : ℕ) → set.contains s k ≡ false → set.len (cond mark (set.insert s k) s) ≡ cond mark 1 0 + set.len s
one_more true s k none = len-insert s k tt ∙ ap (λ b. cond b (set.len s) (set.len s + 1)) none ∙ (omega arith)
one_more false s k none = omega arith

len-marked_from : (start : ℕ) (marks : List Bool) → set.len (marked_from start marks) ≡ count_by (λ mark. mark) marks
len-marked_from start [] = refl
len-marked_from start (mark ∷ marks) =
    one_more mark (marked_from (start + 1) marks) start (contains-below (start + 1) marks start (omega arith))
    ∙ ap (λ n. cond mark 1 0 + n) (len-marked_from (start + 1) marks)
    ∙ sym (sum_by-cons (λ b. cond b 1 0) mark marks)

-- as many numbers are marked as the list is true at
pub len-marked : (marks : List Bool) → set.len (marked_numbers marks) ≡ count_by (λ mark. mark) marks
unfolding marked_numbers
len-marked marks = len-marked_from 0 marks

-- a run of marked numbers
pub marked_from-replicate : (start n : ℕ) → marked_from start (replicate n true) ≡ set.from_list (range_with_len start n)
marked_from-replicate start zero = refl
marked_from-replicate start (suc n) = ap (λ s. set.insert s start) (marked_from-replicate (start + 1) n)

-- one mark more
pub marked-set_true : (marks : List Bool) (f : ℕ) → f < length marks → marked_numbers (slice_set marks f true) ≡ set.insert (marked_numbers marks) f
marked-set_true marks f h = same_set (marked_numbers (slice_set marks f true)) (set.insert (marked_numbers marks) f) each
  where
    each : (q : ℕ) → set.contains (marked_numbers (slice_set marks f true)) q ≡ set.contains (set.insert (marked_numbers marks) f) q
    each q = grind (arith, contains-marked, same_cases, get_or-set_same, get_or-set_other, contains-insert)

-- one mark less
pub marked-set_false : (marks : List Bool) (f : ℕ) → f < length marks → marked_numbers (slice_set marks f false) ≡ set.remove (marked_numbers marks) f
marked-set_false marks f h = same_set (marked_numbers (slice_set marks f false)) (set.remove (marked_numbers marks) f) each
  where
    each : (q : ℕ) → set.contains (marked_numbers (slice_set marks f false)) q ≡ set.contains (set.remove (marked_numbers marks) f) q
    each q = grind (arith, contains-marked, same_cases, get_or-set_same, get_or-set_other, contains-remove)

-- a list that isn't true at 0 marks numbers from 1 to its length less 1
pub contains-within : (marks : List Bool) (f : ℕ) → get_or marks 0 false ≡ false → set.contains (marked_numbers marks) f ≡ true → (1 ≤ f) × (f < length marks)
contains-within marks f reserved member =
    let marks_it : get_or marks f false ≡ true = sym (contains-marked marks f) ∙ member in
    (first f marks_it, below marks f marks_it)
  where
    first : (f : ℕ) → get_or marks f false ≡ true → 1 ≤ f
    first k h = grind arith

    below : (marks : List Bool) (f : ℕ) → get_or marks f false ≡ true → f < length marks
    below [] f h = cc
    below (mark ∷ marks) zero h = omega arith
    below (mark ∷ marks) (suc f) h = let l = below marks f h in omega arith
