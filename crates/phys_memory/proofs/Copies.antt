-- What a slice has after a part of one half was put into the other.
use Rattle.std.proofs.Common.{◌≡◌, ℕ, ◌+◌, ◌-◌, ◌≤◌, List, ◌++◌, length, take, drop, ap, sym, subst, ◌∙◌, arith, append_assoc}
use Rattle.std.proofs.lemmas.List.{take-take, take-append-drop, drop-drop, drop-take, drop-append-le, length-take-le}
use Rattle.std.specs.List.{splice, slice_range}

-- a part of the first half is that part of the whole
part_below : (xs : List ℕ) (s t : ℕ) → s + 4096 ≤ t → slice_range (take t xs) s (s + 4096) ≡ slice_range xs s (s + 4096)
part_below xs s t h =
    let whole : s + (t - s) ≡ t = omega arith in
    ap (take (s + 4096 - s)) (subst (λ (u : ℕ). drop s (take u xs) ≡ take (t - s) (drop s xs)) whole (drop-take s (t - s) xs))
    ∙ take-take (s + 4096 - s) (t - s) (drop s xs) (omega arith)

-- into the second half
pub copied_up : (xs : List ℕ) (s t : ℕ) → s + 4096 ≤ t
    → take t xs ++ splice (drop t xs) 0 4096 (slice_range (take t xs) s (s + 4096))
    ≡ splice xs t (t + 4096) (slice_range xs s (s + 4096))
copied_up xs s t h = rw (part_below xs s t h, drop-drop 4096 t xs)

-- what is behind a place of the first half
rest_of : (xs : List ℕ) (s n : ℕ) → n ≤ s → s ≤ length xs → drop n (take s xs) ++ drop s xs ≡ drop n xs
rest_of xs s n h k =
    sym (drop-append-le n (take s xs) (drop s xs) (omega (arith, length-take-le s xs k))) ∙ ap (drop n) (take-append-drop s xs)

-- into the first half
pub copied_down : (xs : List ℕ) (s t : ℕ) → t + 4096 ≤ s → s + 4096 ≤ length xs
    → splice (take s xs) t (t + 4096) (slice_range (drop s xs) 0 4096) ++ drop s xs
    ≡ splice xs t (t + 4096) (slice_range xs s (s + 4096))
copied_down xs s t h k =
    let size : s + 4096 - s ≡ 4096 = omega arith in
    rw (size, take-take t s xs (omega arith), append_assoc, append_assoc, rest_of xs s (t + 4096) h (omega arith))
