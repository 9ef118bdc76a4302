-- A set of some of another's members is no larger, and fewer pages cost no more.
use Rattle.address_space.proofs.Prelude.{◌≡◌, ℕ, ◌≤◌, Bool, true, List, [], ◌∷◌, length, sym, subst, ◌∙◌, arith, where_key, Order, Set, same_set, contains-retain, Spaces, cost, pages_of, regions_of, at_page}
use Rattle.std.specs.declared.cmp.Ordering.{Ordering}
use Rattle.address_space.proofs.costs.Costs.{contains-pages_of}
use Rattle.address_space.proofs.costs.CostSteps.{region_member, region_there}
use Rattle.page_words.specs.FiniteMap as map
use Rattle.page_words.specs.FiniteSet as set

module _ {K X : Type 0} (R : K → K → Ordering) where
  pub length-where_key : (t : K → Bool) (es : List (K × X)) → length (where_key R t es) ≤ length es
  length-where_key t [] = omega arith
  length-where_key t (e ∷ es) = let rest = length-where_key t es in (grind arith)

-- a set of some of another's members has no more of them
pub len-subset : {K : Type 0} {o : Order K} (s t : Set o) → ((k : K) → set.contains s k ≡ true → set.contains t k ≡ true) → set.len s ≤ set.len t
len-subset {K} {o} s t inside =
    subst (λ (x : Set o). set.len x ≤ set.len t) (same_set (set.retain t (set.contains s)) s (λ k. contains-retain t (set.contains s) k ∙ (grind arith)))
    (length-where_key o.cmp (set.contains s) t.entries)

-- a process with some of another's pages costs no more
pub cost-within : (S T : Spaces) (p q : ℕ) → ((page : ℕ) → map.contains_key T (at_page q page) ≡ true → map.contains_key S (at_page p page) ≡ true) → cost T q ≤ cost S p
cost-within S T p q inside =
    let regions = len-subset (regions_of (pages_of T q)) (regions_of (pages_of S p)) region in
    omega (arith, len-subset (pages_of T q) (pages_of S p) page, regions)
  where
    page : (n : ℕ) → set.contains (pages_of T q) n ≡ true → set.contains (pages_of S p) n ≡ true
    page n h = contains-pages_of S p n ∙ inside n (sym (contains-pages_of T q n) ∙ h)

    region : (r : ℕ) → set.contains (regions_of (pages_of T q)) r ≡ true → set.contains (regions_of (pages_of S p)) r ≡ true
    region r h = grind (arith, region_member, contains-pages_of, region_there)
