-- What the list of roles says after a frame was taken.
use Rattle.std.proofs.Common.{◌≡◌, ◌≢◌, ℕ, zero, suc, ◌+◌, ◌-◌, ◌<◌, ◌≤◌, Bool, true, cond, List, [], ◌∷◌, length}
use Rattle.std.proofs.Common.{get_or, refl, ap, Some, arith}
use Rattle.std.specs.Prelude.{slice_get, slice_set, nat_lt}
use Rattle.std.proofs.lemmas.List.Sums.{sum_by-cons, sum_by-set}
use Rattle.std.proofs.lemmas.Option.{get_or_from_slice_get, slice_get_within}
use Rattle.alloc_table.specs.Roles.{is_free, is_in_use, free_frames, frames_in_use, frames_weight, weight, IsTaken, IsHeld, IsReleased, released}
use Rattle.alloc_table.specs.declared.Role.{Role}
use Rattle.alloc_table.specs.declared.Role.TheVariants.{Reserved, Free, Page}

abbrev counted : Bool → ℕ
counted b = cond b 1 0

pub free_is : (r : Role) → is_free r ≡ true → r ≡ Free
free_is r h = grind arith

module _ {X : Type 0} where
  pub get-set_same : (xs : List X) (i : ℕ) (v : X) → i < length xs → slice_get (slice_set xs i v) i ≡ Some v
  get-set_same [] i v h = absurd (omega arith)
  get-set_same (x ∷ xs) zero v h = refl
  get-set_same (x ∷ xs) (suc i) v h = get-set_same xs i v (omega arith)

  pub get-set_other : (xs : List X) (i j : ℕ) (v : X) → j ≢ i → slice_get (slice_set xs i v) j ≡ slice_get xs j
  get-set_other [] i j v n = refl
  get-set_other (x ∷ xs) zero zero v n = absurd (n refl)
  get-set_other (x ∷ xs) zero (suc j) v n = refl
  get-set_other (x ∷ xs) (suc i) zero v n = refl
  get-set_other (x ∷ xs) (suc i) (suc j) v n = get-set_other xs i j v (λ e. n (ap suc e))

-- one role in place of another
pub weight-set : (old : List Role) (f : ℕ) (was role : Role) → slice_get old f ≡ Some was → frames_weight (slice_set old f role) + weight was ≡ frames_weight old + weight role
weight-set old f was role h =
    let is : get_or old f role ≡ was = get_or_from_slice_get old f was role h in
    let s = sum_by-set weight old f role role (slice_get_within old f was h) in
    let a : weight (get_or old f role) ≡ weight was = ap weight is in
    omega (arith, s, a)

pub weight-taken : (old new : List Role) (f : ℕ) (role : Role) → IsTaken old f role new → frames_weight new ≡ frames_weight old + weight role
weight-taken old new f role h = grind (arith, weight-set)

-- where each page has a holder, a frame that weighs nothing is free
pub free-by-weight : (roles : List Role) → ((i c : ℕ) → slice_get roles i ≡ Some (Page c) → 0 < c) → length roles ≤ free_frames roles + frames_weight roles
free-by-weight [] held = omega arith
free-by-weight (r ∷ rs) held =
    let a = sum_by-cons (λ x. counted (is_free x)) r rs in
    let b = sum_by-cons weight r rs in
    let rest = free-by-weight rs (λ i c is. held (suc i) c is) in
    let own = one r (λ c is. held 0 c (ap Some is)) in
    omega (arith, a, b, rest, own)
  where
    one : (r : Role) → ((c : ℕ) → r ≡ Page c → 0 < c) → 1 ≤ counted (is_free r) + weight r
    one k h = grind arith

-- frames in use weigh at least 1 each
in-use-by-weight : (roles : List Role) → ((i c : ℕ) → slice_get roles i ≡ Some (Page c) → 0 < c) → frames_in_use roles ≤ frames_weight roles
in-use-by-weight [] held = omega arith
in-use-by-weight (r ∷ rs) held =
    let a = sum_by-cons (λ x. counted (is_in_use x)) r rs in
    let b = sum_by-cons weight r rs in
    let rest = in-use-by-weight rs (λ i c is. held (suc i) c is) in
    let this = one r (λ c is. held 0 c (ap Some is)) in
    omega (arith, a, b, rest, this)
  where
    one : (r : Role) → ((c : ℕ) → r ≡ Page c → 0 < c) → counted (is_in_use r) ≤ weight r
    one k h = grind arith

-- and frame 0, which is reserved, weighs 1 too
pub in-use-and-reserved : (roles : List Role) → slice_get roles 0 ≡ Some Reserved → ((i c : ℕ) → slice_get roles i ≡ Some (Page c) → 0 < c) → frames_in_use roles + 1 ≤ frames_weight roles
in-use-and-reserved [] first held = cc
in-use-and-reserved (r ∷ rs) first held =
    let is : r ≡ Reserved = cc in
    let a = sum_by-cons (λ x. counted (is_in_use x)) r rs in
    let b = sum_by-cons weight r rs in
    let c = ap (λ x. counted (is_in_use x)) is in
    let d = ap weight is in
    let rest = in-use-by-weight rs (λ i c is. held (suc i) c is) in
    omega (arith, a, b, c, d, rest)

pub weight-held : (old new : List Role) (f : ℕ) → IsHeld old f new → frames_weight new ≡ frames_weight old + 1
weight-held old new f h = grind (arith, weight-set)

pub weight-released : (old new : List Role) (f : ℕ) (h : IsReleased old f new) → 1 ≤ weight h.role → frames_weight new + 1 ≡ frames_weight old
weight-released old new f h heavy =
    let s = weight-set old f h.role (released h.role) h.was in
    let c : frames_weight new ≡ frames_weight (slice_set old f (released h.role)) = ap frames_weight h.now in
    let less = weight_of_released h.role heavy in
    omega (arith, s, c, less)
  where
    weight_of_released : (r : Role) → 1 ≤ weight r → weight (released r) + 1 ≡ weight r
    weight_of_released Free h = absurd (omega arith)
    weight_of_released (Page n) h = by (nat_lt 1 n) refl
      where
        by : (b : Bool) → nat_lt 1 n ≡ b → weight (cond b (Page (n - 1)) Free) + 1 ≡ n
        by k is = grind arith
    weight_of_released _ h = refl
