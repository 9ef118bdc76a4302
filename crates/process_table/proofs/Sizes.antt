-- What fewer members, offers or pages leave of sizes and costs.
use Rattle.process_table.proofs.Prelude.{◌≡◌, ℕ, ◌+◌, ◌≤◌, Bool, true, false, cond, List, [], ◌∷◌, length, ap, ◌∙◌, arith, Order, Map, nat_order, Set, same_set, Slot, Spaces, cost, pages_of, regions_of, at_page, contains-pages_of, where_key}
use Rattle.std.specs.declared.cmp.Ordering.{Ordering}
use Rattle.address_space.proofs.costs.Sizes.{cost-within}
use Rattle.page_words.specs.FiniteMap as map
use Rattle.page_words.specs.FiniteSet as set

module _ {K X : Type 0} (R : K → K → Ordering) where
  length-where_both : (f g : K → Bool) (es : List (K × X)) → length (where_key R g (where_key R f es)) ≤ length (where_key R g es)
  length-where_both f g [] = omega arith
  length-where_both f g (e ∷ es) = one (f e.0) (length-where_both f g es)
    where
      one : (b : Bool) → length (where_key R g (where_key R f es)) ≤ length (where_key R g es) → length (where_key R g (cond b (e ∷ where_key R f es) (where_key R f es))) ≤ length (where_key R g (e ∷ es))
      one b rest = grind arith

-- what passes one more test is no more
pub len-retain : {K X : Type 0} {o : Order K} (m : Map o X) (f g : K → Bool) → map.len (map.retain_keys (map.retain_keys m f) g) ≤ map.len (map.retain_keys m g)
len-retain {o} m f g = length-where_both o.cmp f g m.entries

-- fewer pages cost no more
pub cost-fewer : (S T : Spaces) (p : ℕ) → ((slot : Slot) → map.contains_key T slot ≡ true → map.contains_key S slot ≡ true) → cost T p ≤ cost S p
cost-fewer S T p inside = cost-within S T p p (λ page. inside (at_page p page))

-- a process without pages costs its directory
pub cost-no_pages : (S : Spaces) (p : ℕ) → ((page : ℕ) → map.contains_key S (at_page p page) ≡ false) → cost S p ≡ 1
cost-no_pages S p none =
    ap (λ (pages : Set nat_order). 1 + set.len (regions_of pages) + set.len pages) (same_set (pages_of S p) set.empty (λ page. contains-pages_of S p page ∙ none page))
