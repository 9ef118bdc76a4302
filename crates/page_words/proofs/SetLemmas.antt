-- What is left after a removal, and how many members a set has.
use Rattle.std.proofs.Common.{◌≡◌, ◌≢◌, ◌⊎◌, inl, inr, Bool, true, false, cond, not, ◌&&◌, List, [], ◌∷◌, length, is_some, refl, sym, ap, ◌∙◌, Option, Some, None, arith}
use Rattle.std.specs.Cmp.{eq_by_cmp_equiv}
use Rattle.std.specs.FinMap.Entries.{find}
use Rattle.page_words.specs.FiniteMap as map
use Rattle.page_words.specs.FiniteMap.{Order, Map, same}
use Rattle.page_words.specs.FiniteSet as set
use Rattle.page_words.specs.FiniteSet.{Set}
use Rattle.page_words.proofs.MapLemmas.{get-insert, get-retain_keys, same_itself, same_map, same_or_not}

negated : {A : Type 0} (b : Bool) (x y : A) → cond (not b) x y ≡ cond b y x
negated b x y = grind arith

module _ {K : Type 0} (o : Order K) where
  pub same_sym : (x y : K) → same o x y ≡ same o y x
  same_sym x y = (eq_by_cmp_equiv o.total).symm x y

  -- the two cases, with what each says of the keys and of the test
  pub same_cases : (x y : K) → ((x ≡ y) × (same o x y ≡ true)) ⊎ ((x ≢ y) × (same o x y ≡ false))
  same_cases x y = grind (arith, same_or_not, same_itself)

  pub same_apart : (x y : K) → x ≢ y → same o x y ≡ false
  same_apart x y n = grind (arith, same_cases)

module _ {K X : Type 0} {o : Order K} where
  pub get-remove : (m : Map o X) (k q : K) → map.get (map.remove m k) q ≡ cond (same o q k) None (map.get m q)
  get-remove m k q = grind (arith, get-retain_keys, negated, same_sym)

  -- a key that was removed is gone
  pub get-removed : (m : Map o X) (k : K) → map.get (map.remove m k) k ≡ None
  get-removed m k = get-remove m k k ∙ ap (λ b. cond b None (map.get m k)) (same_itself o k)

  -- the other keys stay
  pub get-remove_other : (m : Map o X) (k q : K) → q ≢ k → map.get (map.remove m k) q ≡ map.get m q
  get-remove_other m k q n = get-remove m k q ∙ ap (λ b. cond b None (map.get m q)) (same_apart o q k n)

  -- what was removed, put back
  pub put_back : (m : Map o X) (k : K) (v : X) → map.get m k ≡ Some v → map.insert (map.remove m k) k v ≡ m
  put_back m k v h = same_map (map.insert (map.remove m k) k v) m (λ q.
      get-insert (map.remove m k) k v q
      ∙ elim (same_cases o q k) [
        | inl is ↦ rw is.1 (sym h ∙ ap (map.get m) (sym is.0))
        | inr other ↦ rw other.1 (get-remove_other m k q other.0)
      ])

module _ {K : Type 0} (o : Order K) where
  nothing : (q : K) (es : List (K × Unit {0})) → length es ≡ 0 → is_some (find o.cmp q es) ≡ false
  nothing q [] h = refl
  nothing q (e ∷ es) h = absurd (omega arith)

module _ {K : Type 0} {o : Order K} where
  pub contains-remove : (s : Set o) (k q : K) → set.contains (set.remove s k) q ≡ (not (same o q k) && set.contains s q)
  contains-remove s k q = ap is_some (get-remove s k q) ∙ by (same o q k) _
    where
      by : (b : Bool) (x : Option (Unit {0})) → is_some (cond b None x) ≡ (not b && is_some x)
      by known x = grind arith

  -- what was removed is gone
  pub contains-removed : (s : Set o) (k : K) → set.contains (set.remove s k) k ≡ false
  contains-removed s k = contains-remove s k k ∙ ap (λ b. not b && set.contains s k) (same_itself o k)

  -- a set of no members has none, and only such a set
  pub contains-no_members : (s : Set o) → set.len s ≡ 0 → (q : K) → set.contains s q ≡ false
  contains-no_members s h q = nothing o q s.entries h
