-- The places of a list that are behind a number of them.
use Rattle.kernel_acts.proofs.Prelude.{◌≡◌, ℕ, ◌+◌, ◌≤◌, ◌-◌, ◌∙◌, ◌++◌, Bool, refl, sym, ap, List, [], ◌∷◌, map, filter, drop, set, arith, if◌then◌else◌, range_with_len, drop-set-lt, drop-drop}
use Rattle.std.proofs.lemmas.List.FromFn.{filter_of_map_range_with_len_more}

-- they stay, where one place more is used
pub set_rest : {A : Type 0} (xs ys : List A) (count : ℕ) (x : A) → drop count xs ≡ drop count ys → drop (count + 1) (set xs count x) ≡ drop (count + 1) ys
set_rest xs ys count x same =
    drop-set-lt (count + 1) xs count x (omega arith) ∙ sym (drop-drop 1 count xs) ∙ ap (drop 1) same ∙ drop-drop 1 count ys

-- and those behind more places
pub rest_later : {A : Type 0} (xs ys : List A) (count later : ℕ) → count ≤ later → drop count xs ≡ drop count ys → drop later xs ≡ drop later ys
rest_later xs ys count later more same =
    let n : count + (later - count) ≡ later = omega (arith, more) in
    ap (λ k. drop k xs) (sym n) ∙ sym (drop-drop (later - count) count xs) ∙ ap (drop (later - count)) same ∙ drop-drop (later - count) count ys ∙ ap (λ k. drop k ys) n

map_same : (xs : List ℕ) → map (λ x. x) xs ≡ xs
map_same [] = refl
map_same (x ∷ xs) = ap (λ l. x ∷ l) (map_same xs)

-- those of the first numbers that pass a test, with one number more
pub filter_range_more : (p : ℕ → Bool) (n : ℕ) → filter p (range_with_len 0 (n + 1)) ≡ filter p (range_with_len 0 n) ++ (if p n then n ∷ [] else [])
filter_range_more p n =
    ap (filter p) (sym (map_same (range_with_len 0 (n + 1)))) ∙ filter_of_map_range_with_len_more p (λ x. x) 0 n n (omega arith)
    ∙ ap (λ l. filter p l ++ (if p n then n ∷ [] else [])) (map_same (range_with_len 0 n))

pub one_more_or_none : (b : Bool) (n : ℕ) → (n ≤ n + (if b then 1 else 0)) × (n + (if b then 1 else 0) ≤ n + 1)
one_more_or_none b n = grind arith
