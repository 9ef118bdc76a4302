-- What a write of one container leaves of the others, and a charge of the book.
use Rattle.quota_tree.proofs.Prelude
use Prelude.{arith, ◌≡◌, ◌≢◌, ℕ, ◌<◌, ◌⊎◌, inl, inr, Bool, true, false, cond, List, length, get_or, is_some, refl, sym, ap, ◌∙◌, Option, Some, None, subst, length-set, slice_set, get_or-set_same, get_or-set_other, Map, nat_order, same, get-insert, same_map, same_cases, Container, Book, collected, with_used, member_of, seen_as, IsBooked, IsQuotas, same_Some}
use Rattle.quota_tree.proofs.CollectedLemmas.{collected-set}
use Rattle.quota_tree.proofs.Views.{get-member}
use Rattle.page_words.specs.FiniteMap as map

-- ---- Writes into the list

-- what stands at a place after a write
pub after_set : (cs : List (Option Container)) (a : ℕ) (x : Option Container) (p : ℕ) (c : Container) → a < length cs → get_or (slice_set cs a x) p None ≡ Some c
    → ((p ≡ a) × (x ≡ Some c)) ⊎ ((p ≢ a) × (get_or cs p None ≡ Some c))
after_set cs a x p c within h = grind (arith, same_cases, get_or-set_same, get_or-set_other)

-- to write a value that is there changes nothing
pub insert_same : {X : Type 0} (m : Map nat_order X) (k : ℕ) (v : X) → map.get m k ≡ Some v → map.insert m k v ≡ m
insert_same m k v h = same_map (map.insert m k v) m (λ q. get-insert m k v q ∙ elim (same_cases nat_order q k) [
  | inl is ↦ rw is.1 (sym h ∙ ap (map.get m) (sym is.0))
  | inr other ↦ rw other.1 refl
])

-- the later of two values at one key is what stands there
pub insert_twice : {X : Type 0} (m : Map nat_order X) (k : ℕ) (v w : X) → map.insert (map.insert m k v) k w ≡ map.insert m k w
insert_twice {X} m k v w = same_map (map.insert (map.insert m k v) k w) (map.insert m k w) (λ q.
    get-insert (map.insert m k v) k w q
    ∙ ap (cond (same nat_order q k) (Some w)) (get-insert m k v q)
    ∙ twice (same nat_order q k) (map.get m q)
    ∙ sym (get-insert m k w q))
  where
    twice : (b : Bool) (o : Option X) → cond b (Some w) (cond b (Some v) o) ≡ cond b (Some w) o
    twice h o = grind arith

-- ---- A charge changes what a process uses

module _ (cs : List (Option Container)) (kept : IsQuotas cs) (p : ℕ) (within : p < length cs) (c d : Container) (h : get_or cs p None ≡ Some c) (same_member : member_of d ≡ member_of c) where
  pub book-set : collected member_of (slice_set cs p (Some d)) ≡ collected member_of cs
  book-set = collected-set member_of cs p d within ∙ insert_same (collected member_of cs) p (member_of d) (get-member cs p c h ∙ ap Some (sym same_member))

  pub quotas-charged : IsBooked (collected member_of cs) p d → IsQuotas (slice_set cs p (Some d))
  quotas-charged new = record {
    places = length-set cs p (Some d) ∙ kept.places;
    root = record { quota = kept.root.quota; is = ap (λ b. map.get b 0) book-set ∙ kept.root.is };
    each = λ q x at. subst (λ (b : Book). IsBooked b q x) (sym book-set) (elim (after_set cs p (Some d) q x within at) [
      | inl is ↦ (let e : d ≡ x = same_Some d x is.1 in subst (λ (n : ℕ). IsBooked (collected member_of cs) n x) (sym is.0) (subst (λ (y : Container). IsBooked (collected member_of cs) p y) e new))
      | inr other ↦ kept.each q x other.1
    ]);
  }

  pub seen_as-charged : seen_as (slice_set cs p (Some d)) ≡ with_used (seen_as cs) p d.used
  seen_as-charged = λ i. record { book = book-set i; used = collected-set (λ x. x.used) cs p d within i }

-- ---- Live and absent

pub live_and_absent : (book : Book) (x y : ℕ) → map.contains_key book x ≡ true → map.get book y ≡ None → x ≢ y
live_and_absent book x y live none e = let f : true ≡ false = sym live ∙ ap (map.contains_key book) e ∙ ap is_some none in cc

-- n where the test holds, and else 0
abbrev pub only_if : Bool → ℕ → ℕ
only_if b n = cond b n 0
