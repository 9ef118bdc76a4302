-- What processors keep apart from what was ended.
use Rattle.shootdowns.proofs.Prelude.{◌≡◌, ℕ, zero, suc, Bool, true, false, ◌==◌, eq-eqb, List, [], ◌∷◌, refl, ap, sym, subst, inl, inr, Some, cases_eq, ne_eqb, ◌⊎◌, if◌then◌else◌, slice_get, View, Processors, with_kept, AllAreRead, AreAmong, Kept, translation, directory_entry, IsRead, AreRead, is_invalidated, left_by, Ended, read_at, among_read, Acknowledged, with_one, usable, KeepsNone, arith}
use Rattle.kernel_calls.specs.declared.translations.Ended.TheVariants as end

none_there : (n : ℕ) (k : Kept) → slice_get {X = Kept} [] n ≡ Some k → ⊥
none_there x0 k h = grind arith

-- each that isn't ended is read
pub spared : (x : Ended) (w : View) (kept : List Kept) → AreRead w (left_by x kept) → (n : ℕ) (k : Kept) → slice_get kept n ≡ Some k
    → is_invalidated x k ≡ false → IsRead w k
spared x w [] all n k there not = absurd (none_there n k there)
spared x w (y ∷ kept) all zero k there not = grind arith
spared x w (y ∷ kept) all (suc n) k there not = spared x w kept (rest (is_invalidated x y) all) n k there not
  where
    rest : (b : Bool) → AreRead w (if b then left_by x kept else y ∷ left_by x kept) → AreRead w (left_by x kept)
    rest x0 h = grind arith

pub sparing : (x : Ended) (w : View) (kept : List Kept)
    → ((n : ℕ) (k : Kept) → slice_get kept n ≡ Some k → is_invalidated x k ≡ false → IsRead w k) → AreRead w (left_by x kept)
sparing x w [] each = tt
sparing x w (y ∷ kept) each = by (is_invalidated x y) (each 0 y refl) (sparing x w kept (λ n k there not. each (suc n) k there not))
  where
    by : (b : Bool) → (b ≡ false → IsRead w y) → AreRead w (left_by x kept) → AreRead w (if b then left_by x kept else y ∷ left_by x kept)
    by x0 own rest = grind arith

-- all that is kept
pub reading : (w : View) (kept : List Kept) → ((n : ℕ) (k : Kept) → slice_get kept n ≡ Some k → IsRead w k) → AreRead w kept
reading w [] each = tt
reading w (y ∷ kept) each = (each 0 y refl, reading w kept (λ n k there. each (suc n) k there))

pub none_left : (kept : List Kept) → left_by end.Nothing kept ≡ kept
none_left [] = refl
none_left (translation t ∷ kept) = ap (λ (l : List Kept). translation t ∷ l) (none_left kept)
none_left (directory_entry e ∷ kept) = ap (λ (l : List Kept). directory_entry e ∷ l) (none_left kept)

-- ---- What may be used

-- of one processor, which has invalidated or not
abbrev pub Usable : Ended → Bool → List Kept → List Kept
Usable x b kept = if b then kept else left_by x kept

among : (x : Ended) (w : View) (left kept : List Kept) → AreAmong left kept → (b : Bool) → AreRead w (Usable x b kept) → AreRead w (Usable x b left)
among x w left kept one true all = among_read w left kept one all
among x w left kept one false all = sparing x w left (λ m k there not. let n = one m k there in spared x w kept all n.0 k n.1 not)

more : (x : Ended) (w : View) (k : Kept) (kept : List Kept) → IsRead w k → (b : Bool) → AreRead w (Usable x b kept) → AreRead w (Usable x b (k ∷ kept))
more x w k kept read x5 all = grind (arith, sparing, spared)

-- what is left once these are invalidated
pub left_all : (x : Ended) (w : View) (kept : List Kept) → AreRead w kept → AreRead w (left_by x kept)
left_all x w kept all = sparing x w kept (λ n k there not. read_at w kept n k all there)

left_usable : (x : Ended) (w : View) (kept : List Kept) (b : Bool) → AreRead w (Usable x b kept) → AreRead w (left_by x kept)
left_usable x w kept x3 all = grind (arith, left_all)

-- one processor begins to keep one more
pub left_more : (x : Ended) (done : Acknowledged) (w : View) (keeps : Processors) (i : ℕ) (k : Kept) → IsRead w k → AllAreRead w (usable x done keeps)
    → AllAreRead w (usable x done (with_kept keeps i (k ∷ keeps i)))
left_more x done w keeps i k read all j = elim (cases_eq j i) [
  | inl same ↦ subst (λ (l : List Kept). AreRead w (Usable x (done j) l)) (sym (ap (λ b. if b then k ∷ keeps i else keeps j) (eq-eqb j i same)))
      (more x w k (keeps i) read (done j) (subst (λ n. AreRead w (Usable x (done j) (keeps n))) same (all j)))
  | inr other ↦ subst (λ (l : List Kept). AreRead w (Usable x (done j) l)) (sym (ap (λ b. if b then k ∷ keeps i else keeps j) (ne_eqb j i other))) (all j)
]

-- or forgets some
pub left_fewer : (x : Ended) (done : Acknowledged) (w : View) (keeps : Processors) (i : ℕ) (left : List Kept) → AreAmong left (keeps i) → AllAreRead w (usable x done keeps)
    → AllAreRead w (usable x done (with_kept keeps i left))
left_fewer x done w keeps i left one all j = elim (cases_eq j i) [
  | inl same ↦ subst (λ (l : List Kept). AreRead w (Usable x (done j) l)) (sym (ap (λ b. if b then left else keeps j) (eq-eqb j i same)))
      (among x w left (keeps i) one (done j) (subst (λ n. AreRead w (Usable x (done j) (keeps n))) same (all j)))
  | inr other ↦ subst (λ (l : List Kept). AreRead w (Usable x (done j) l)) (sym (ap (λ b. if b then left else keeps j) (ne_eqb j i other))) (all j)
]

-- or invalidates
pub left_done : (x : Ended) (done : Acknowledged) (w : View) (keeps : Processors) (i : ℕ) → AllAreRead w (usable x done keeps)
    → AllAreRead w (usable x (with_one done i) (with_kept keeps i (left_by x (keeps i))))
left_done x done w keeps i all j = by (j == i) refl
  where
    by : (b : Bool) → (j == i) ≡ b → AreRead w (Usable x (if j == i then true else done j) (if j == i then left_by x (keeps i) else keeps j))
    by true is =
        subst (λ b. AreRead w (Usable x (if b then true else done j) (if b then left_by x (keeps i) else keeps j))) (sym is)
        (left_usable x w (keeps i) (done i) (all i))
    by false is =
        subst (λ b. AreRead w (Usable x (if b then true else done j) (if b then left_by x (keeps i) else keeps j))) (sym is) (all j)

-- all that is kept is read, where all have invalidated or keep nothing of it
pub all_told : (x : Ended) (b : Bool) (w : View) (kept : List Kept) → ((b ≡ true) ⊎ KeepsNone x kept) → AreRead w (Usable x b kept) → AreRead w kept
all_told x true w kept h all = all
all_told x false w kept (inl is) all = absurd (let n : false ≡ true = is in cc)
all_told x false w kept (inr clear) all = reading w kept (λ n k there. spared x w kept all n k there (clear n k there))

-- so it is where nothing was ended
pub nothing_read : (w : View) (kept : List Kept) (b : Bool) → AreRead w (Usable end.Nothing b kept) → AreRead w kept
nothing_read w kept x2 all = grind (arith, none_left)
