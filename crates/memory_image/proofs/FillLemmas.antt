-- A list that is filled from the front.
use Rattle.std.proofs.Common.{◌≡◌, ℕ, suc, ◌+◌, ◌<◌, List, [], ◌∷◌, length, length-set, get_or, map, refl, sym, ap, ◌∙◌, arith, inl, inr, Some}
use Rattle.std.specs.Prelude.{slice_get, slice_set}
use Rattle.std.specs.Option.{unwrap_or}
use Rattle.std.specs.List.{range_with_len}
use Rattle.std.proofs.lemmas.Bool.{cases_eq}
use Rattle.std.proofs.lemmas.Option.{slice_get-get_or}
use Rattle.std.proofs.lemmas.List.{get_or-set_same, get_or-set_other}

pub fill_goes_on : {X : Type 0} (g : ℕ → X) (xs : List X) (k : ℕ) → k < length xs → ((p : ℕ) → p < k → slice_get xs p ≡ Some (g p))
    → (p : ℕ) → p < k + 1 → slice_get (slice_set xs k (g k)) p ≡ Some (g p)
fill_goes_on g xs k inside so_far p low = elim (cases_eq p k) [
  | inl e ↦
      slice_get-get_or (slice_set xs k (g k)) p (g k) (let s = length-set xs k (g k) in omega arith)
      ∙ ap Some (ap (λ j. get_or (slice_set xs k (g k)) j (g k)) e ∙ get_or-set_same xs k (g k) (g k) inside ∙ ap g (sym e))
  | inr n ↦
      slice_get-get_or (slice_set xs k (g k)) p (g k) (let s = length-set xs k (g k) in omega arith)
      ∙ ap Some (get_or-set_other xs k p (g k) (g k) n)
      ∙ sym (slice_get-get_or xs p (g k) (omega arith))
      ∙ so_far p (omega arith)
]

-- a list that is filled to its end
pub filled : {X : Type 0} (g : ℕ → X) (first : ℕ) (xs : List X) → ((p : ℕ) → p < length xs → slice_get xs p ≡ Some (g (first + p))) → xs ≡ map g (range_with_len first (length xs))
filled g first [] h = refl
filled g first (x ∷ xs) h =
    let a : x ≡ g first = ap (λ o. unwrap_or o x) (h 0 (omega arith)) ∙ ap g (let e : first + 0 ≡ first = omega arith in e) in
    let r = filled g (first + 1) xs (λ p low. h (suc p) (omega arith) ∙ ap (λ k. Some (g k)) (let e : first + suc p ≡ first + 1 + p = omega arith in e)) in
    λ i. a i ∷ r i

pub filled_to : {X : Type 0} (g : ℕ → X) (n : ℕ) (xs : List X) → length xs ≡ n → ((p : ℕ) → p < n → slice_get xs p ≡ Some (g p)) → xs ≡ map g (range_with_len 0 n)
filled_to g n xs l h = filled g 0 xs (λ p low. h p (omega arith) ∙ ap (λ k. Some (g k)) (let e : p ≡ 0 + p = omega arith in e)) ∙ ap (λ k. map g (range_with_len 0 k)) l
