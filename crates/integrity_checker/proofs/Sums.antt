-- Sums over views, and how often a number is in a list.
use Rattle.std.proofs.Common.{◌≡◌, ℕ, zero, suc, ◌+◌, ◌<◌, ◌≤◌, ◌==◌, min, List, [], ◌∷◌, ◌++◌, length, set, All, Bool, true, false, refl, sym, ap, arith, eq-eqb, ne_eqb}
use Rattle.std.specs.Prelude.{slice_index, slice_index_or, sum_by}
use Rattle.integrity_checker.specs.declared.parts.Helper.{Helper}
use Rattle.std.specs.List.{list_all}
use Rattle.std.proofs.lemmas.Bool.{and_parts, lt-ltb, le-ltb}
use Rattle.std.proofs.lemmas.List.Sums.{sum_by-append}
use mathlib.Core.Option.{some, some-injective, some-ne-none}
use mathlib.Core.Logic.{dite}
use native.Mathlib.Decide.{ℕ_discrete, dec_le}
use lib.ListN.{get_elem?}
use Rattle.page_map.specs.Pages.{counted}
use Rattle.image_check.specs.Draws.{times}
use Rattle.integrity_checker.specs.declared.draw.Drawer.{Drawer}
use Rattle.integrity_checker.specs.Drawn.{total, once_below, share_of, spent_of, where_so}

pub total_set : (f : Drawer → ℕ) (views : List Drawer) (seat : ℕ) (v w : Drawer) → get_elem? views seat ≡ some v → total f (set views seat w) + f v ≡ total f views + f w
unfolding total
total_set f [] seat v w e = absurd (some-ne-none v (sym e))
total_set f (u ∷ us) zero v w e = let same : f u ≡ f v = ap f (some-injective u v e) in omega arith
total_set f (u ∷ us) (suc seat) v w e = let h = total_set f us seat v w e in omega arith

pub total_push : (f : Drawer → ℕ) (views : List Drawer) (w : Drawer) → total f (views ++ w ∷ []) ≡ total f views + f w
unfolding total
total_push f [] w = omega arith
total_push f (u ∷ us) w = let h = total_push f us w in omega arith

pub total_least : (f : Drawer → ℕ) (views : List Drawer) (seat : ℕ) (v : Drawer) → get_elem? views seat ≡ some v → f v ≤ total f views
unfolding total
total_least f [] seat v e = absurd (some-ne-none v (sym e))
total_least f (u ∷ us) zero v e = let same : f u ≡ f v = ap f (some-injective u v e) in omega arith
total_least f (u ∷ us) (suc seat) v e = let h = total_least f us seat v e in omega arith

total_none : (f : Drawer → ℕ) (views : List Drawer) → ((j : ℕ) (u : Drawer) → get_elem? views j ≡ some u → u.share ≡ 0 → f u ≡ 0) → total share_of views ≡ 0 → total f views ≡ 0
unfolding total
total_none f [] idle none = refl
total_none f (u ∷ us) idle none =
    let s : ℕ = total share_of us in
    let here : u.share ≡ 0 = omega arith in
    let there : s ≡ 0 = omega arith in
    let a = idle zero u refl here in
    let b = total_none f us (λ j w e. idle (suc j) w e) there in
    omega arith

-- one seat with all shares has all of f
pub total_one : (f : Drawer → ℕ) (views : List Drawer) (seat : ℕ) (v : Drawer) → get_elem? views seat ≡ some v → ((j : ℕ) (u : Drawer) → get_elem? views j ≡ some u → u.share ≡ 0 → f u ≡ 0)
    → total share_of views ≡ v.share → total f views ≡ f v
unfolding total
total_one f [] seat v e idle all = absurd (some-ne-none v (sym e))
total_one f (u ∷ us) zero v e idle all =
    let is : u ≡ v = some-injective u v e in
    let same : f u ≡ f v = ap f is in
    let shares : u.share ≡ v.share = ap share_of is in
    let s : ℕ = total share_of us in
    let there : s ≡ 0 = omega arith in
    let b = total_none f us (λ j w e'. idle (suc j) w e') there in
    omega arith
total_one f (u ∷ us) (suc seat) v e idle all =
    let s : ℕ = total share_of us in
    let most : v.share ≤ s = total_least share_of us seat v e in
    let here : u.share ≡ 0 = omega arith in
    let there : s ≡ v.share = omega arith in
    let a = idle zero u refl here in
    let b = total_one f us seat v e (λ j w e'. idle (suc j) w e') there in
    omega arith

pub times_append : (x : ℕ) (xs ys : List ℕ) → times x (xs ++ ys) ≡ times x xs + times x ys
times_append x [] ys = omega arith
times_append x (z ∷ xs) ys = let h = times_append x xs ys in let t : ℕ = counted (z == x) in omega arith

pub times_nil : (x : ℕ) → times x [] ≡ 0
times_nil x = refl

pub times_one : (x y : ℕ) → times x (y ∷ []) ≡ counted (y == x)
times_one x y = omega arith

-- one more number
pub once_more : (x w : ℕ) → w < 64 → once_below x (min (w + 1) 64) ≡ once_below x (min w 64) + counted (w == x)
once_more x w low =
    let a : min (w + 1) 64 ≡ w + 1 = omega arith in
    let b : min w 64 ≡ w = omega arith in
    rw (a, b) (dite (ℕ_discrete w x)
    (λ same. rw (lt-ltb x (w + 1) (omega arith), le-ltb x w (omega arith), eq-eqb w x same) refl)
    (λ other. rw (ne_eqb w x other) (dite (dec_le w x)
    (λ ge. rw (le-ltb x (w + 1) (omega arith), le-ltb x w ge) refl)
    (λ lt. rw (lt-ltb x (w + 1) (omega arith), lt-ltb x w (omega arith)) refl))))

pub none_yet : (w : ℕ) → w < 64 → once_below w (min w 64) ≡ 0
none_yet w low = let b : min w 64 ≡ w = omega arith in rw (b, le-ltb w w (omega arith)) refl

pub full : (x w : ℕ) → 64 ≤ w → once_below x (min w 64) ≡ once_below x 64
full x w high = let b : min w 64 ≡ 64 = omega arith in rw b refl

pub spent_share : (views : List Drawer) → total spent_of views ≤ total share_of views
unfolding total
spent_share [] = omega arith
spent_share (v ∷ vs) = let h = spent_share vs in let one : spent_of v ≤ v.share = by_case v.done v.share in let a : ℕ = spent_of v in omega arith
  where
    by_case : (b : Bool) (k : ℕ) → where_so b k ≤ k
    by_case true k = omega arith
    by_case false k = omega arith

pub total_single : (f : Drawer → ℕ) (v : Drawer) → total f (v ∷ []) ≡ f v
unfolding total
total_single f v = omega arith

pub first_set : (words : List ℕ) (k : ℕ) → length words ≡ 1 → (length (set words 0 k) ≡ 1) × (slice_index (set words 0 k) 0 ≡ k)
first_set [] k e = absurd (omega arith)
first_set (w ∷ ws) k e = (e, refl)

pub every_last : {X : Type 0} (P : X → Type 0) (xs : List X) (x : X) → All P (xs ++ x ∷ []) → P x × All P xs
every_last P [] x h = (h 0 x (omega arith), λ k d lt. absurd (omega arith))
every_last {X} P (y ∷ ys) x h = let r = every_last P ys x (λ k d lt. h (suc k) d (omega arith)) in (r.0, by_case r.1)
  where
    by_case : All P ys → (k : ℕ) (d : X) → k < length (y ∷ ys) → P (slice_index_or (y ∷ ys) k d)
    by_case r zero d lt = h zero d (omega arith)
    by_case r (suc k) d lt = r k d (omega arith)

pub sum_last : {X : Type 0} (f : X → ℕ) (xs : List X) (x : X) → sum_by f (xs ++ x ∷ []) ≡ sum_by f xs + f x
sum_last f xs x = let a = sum_by-append f xs (x ∷ []) in omega arith

pub all_done : (hs : List Helper) → list_all (λ h. h.done) hs ≡ true → All (λ h. h.done ≡ true) hs
all_done [] are = λ k d lt. absurd (omega arith)
all_done (h ∷ hs) are = by_case (and_parts h.done (list_all (λ h. h.done) hs) are) (λ e. all_done hs e)
  where
    by_case : (h.done ≡ true) × (list_all (λ h. h.done) hs ≡ true) → (list_all (λ h. h.done) hs ≡ true → All (λ h. h.done ≡ true) hs) → (k : ℕ) (d : Helper) → k < length (h ∷ hs) → (slice_index_or (h ∷ hs) k d).done ≡ true
    by_case both rest zero d lt = both.0
    by_case both rest (suc k) d lt = rest both.1 k d (omega arith)

pub every_push : {X : Type 0} (P : X → Type 0) (xs : List X) (x : X) → All P xs → P x → All P (xs ++ x ∷ [])
every_push P [] x h p zero d lt = p
every_push P [] x h p (suc k) d lt = absurd (omega arith)
every_push P (y ∷ ys) x h p zero d lt = h zero d (omega arith)
every_push P (y ∷ ys) x h p (suc k) d lt = every_push P ys x (λ j e l. h (suc j) e (omega arith)) p k d (omega arith)

pub once_in : (x n : ℕ) → x < n → once_below x n ≡ 1
once_in x n low = ap counted (lt-ltb x n low)

pub once_out : (x n : ℕ) → n ≤ x → once_below x n ≡ 0
once_out x n high = ap counted (le-ltb x n high)
