-- What `get` and `contains` answer of maps and sets, and when two are equal.
use Rattle.std.proofs.Common.{◌≡◌, ◌+◌, ◌⊎◌, suc, length, inl, inr, Bool, true, false, cond, ◌&&◌, ◌||◌, T, List, [], ◌∷◌, map, is_some, refl, sym, ap, ◌∙◌, Option, Some, None, arith}
use mathlib.Core.HLevel.{Σ_prop_path}
use lib.Dec.{T_prop}
use Rattle.std.specs.declared.cmp.Ordering.TheVariants.{Less, Equal, Greater}
use Rattle.std.specs.Option.{option_map}
use Rattle.std.specs.Ordering.{is_eq}
use Rattle.std.specs.Cmp.{tied_itself, Equal-is}
use Rattle.std.specs.FinMap.Entries.{find, find-put, find-where_key, same_entries, is_sorted, length-put, put, by_order}
use Rattle.std.specs.List.{list_any}
use Rattle.page_words.specs.FiniteMap as map
use Rattle.page_words.specs.FiniteMap.{Order, Map, same, change_each}
use Rattle.page_words.specs.FiniteSet as set
use Rattle.page_words.specs.FiniteSet.{Set}

module _ {K : Type 0} (o : Order K) where
  pub same_itself : (x : K) → same o x x ≡ true
  same_itself x = ap is_eq (tied_itself o.total x)

  pub same-true : (x y : K) → same o x y ≡ true → x ≡ y
  same-true x y e = o.same x y ((Equal-is (o.cmp x y)).0 e)

  -- the two cases, each with what the test answers
  pub same_or_not : (x y : K) → ((x ≡ y) × (same o x y ≡ true)) ⊎ (same o x y ≡ false)
  same_or_not x y = elim (same o x y) as (λ b. same o x y ≡ b → ((x ≡ y) × (b ≡ true)) ⊎ (b ≡ false)) [ true ↦ λ e. inl (same-true x y e, refl) | false ↦ λ e. inr refl ] refl

module _ {K X : Type 0} {o : Order K} where
  pub get-insert : (m : Map o X) (k : K) (v : X) (q : K) → map.get (map.insert m k v) q ≡ cond (same o q k) (Some v) (map.get m q)
  get-insert m k v q = find-put o.cmp o.total q k v m.entries

  pub get-retain_keys : (m : Map o X) (p : K → Bool) (q : K) → map.get (map.retain_keys m p) q ≡ cond (p q) (map.get m q) None
  get-retain_keys m p q = find-where_key o.cmp p q (λ x e. sym (ap p (o.same q x e))) m.entries

  pub same_map : (m n : Map o X) → ((q : K) → map.get m q ≡ map.get n q) → m ≡ n
  same_map m n is =
      let e = same_entries o.cmp o.total o.same m.entries n.entries m.sorted n.sorted is in
      let pairs : ◌≡◌ {A = (es : List (K × X)) × T (is_sorted o.cmp es)} (m.entries, m.sorted) (n.entries, n.sorted) = Σ_prop_path (λ es. T_prop _) e in
      λ i. record { entries = (pairs i).0; sorted = (pairs i).1 }

module _ {K X Y : Type 0} (o : Order K) (f : K → X → Y) where
  find-change_each : (q : K) (es : List (K × X)) → find o.cmp q (change_each f es) ≡ option_map (f q) (find o.cmp q es)
  find-change_each q [] = refl
  find-change_each q (e ∷ es) =
      elim (same_or_not o q e.0) [
        | inl h ↦ rw h.1 (ap (λ k. Some (f k e.1)) (sym h.0))
        | inr h ↦ rw h (find-change_each q es)
      ]

  pub get-map_values : (m : Map o X) (q : K) → map.get (map.map_values f m) q ≡ option_map (f q) (map.get m q)
  get-map_values m q = find-change_each q m.entries

unit_or : (b : Bool) (x : Option (Unit {0})) → is_some (cond b (Some tt) x) ≡ (b || is_some x)
unit_or b x = grind arith

or_none : (b : Bool) (x : Option (Unit {0})) → is_some (cond b x None) ≡ (is_some x && b)
or_none b x = grind arith

same_unit : (x y : Option (Unit {0})) → is_some x ≡ is_some y → x ≡ y
same_unit x y e = grind arith

module _ {K : Type 0} {o : Order K} where
  pub contains-insert : (s : Set o) (k q : K) → set.contains (set.insert s k) q ≡ (same o q k || set.contains s q)
  contains-insert s k q = ap is_some (get-insert s k tt q) ∙ unit_or _ _

  pub contains-retain : (s : Set o) (p : K → Bool) (q : K) → set.contains (set.retain s p) q ≡ (set.contains s q && p q)
  contains-retain s p q = ap is_some (get-retain_keys s p q) ∙ or_none (p q) _

  pub same_set : (s t : Set o) → ((q : K) → set.contains s q ≡ set.contains t q) → s ≡ t
  same_set s t is = same_map s t (λ q. same_unit _ _ (is q))

module _ {K X : Type 0} {o : Order K} where
  pub len-insert : (m : Map o X) (k : K) (v : X) → map.len (map.insert m k v) ≡ cond (map.contains_key m k) (map.len m) (map.len m + 1)
  len-insert m k v = length-put o.cmp o.total k v m.entries m.sorted

  -- a key that passes is kept, and one that does not leaves nothing
  pub retain-insert : (m : Map o X) (p : K → Bool) (k : K) (v : X) → p k ≡ true → map.retain_keys (map.insert m k v) p ≡ map.insert (map.retain_keys m p) k v
  retain-insert m p k v passes = same_map _ _ (λ q.
      get-retain_keys (map.insert m k v) p q ∙ ap (λ x. cond (p q) x None) (get-insert m k v q)
      ∙ elim (same_or_not o q k) [
        | inl h ↦ rw h.1 (ap (λ b. cond b (Some v) None) (ap p h.0 ∙ passes))
        | inr h ↦ rw h (sym (get-retain_keys m p q))
      ]
      ∙ sym (get-insert (map.retain_keys m p) k v q))

  pub retain-insert_other : (m : Map o X) (p : K → Bool) (k : K) (v : X) → p k ≡ false → map.retain_keys (map.insert m k v) p ≡ map.retain_keys m p
  retain-insert_other m p k v fails = same_map _ _ (λ q.
      get-retain_keys (map.insert m k v) p q ∙ ap (λ x. cond (p q) x None) (get-insert m k v q)
      ∙ elim (same_or_not o q k) [
        | inl h ↦ rw h.1 (let f : p q ≡ false = ap p h.0 ∙ fails in rw f refl)
        | inr h ↦ rw h refl
      ]
      ∙ sym (get-retain_keys m p q))

or_swap : (a b c : Bool) → (a || (b || c)) ≡ (b || (a || c))
or_swap a b c = grind arith

module _ {K X : Type 0} (o : Order K) (t : K → Bool) where
  -- whether some key passes, after one more
  pub list_any-put : (k : K) (v : X) (es : List (K × X)) → list_any (λ e. t e.0) (put o.cmp k v es) ≡ (t k || list_any (λ e. t e.0) es)
  list_any-put k v [] = refl
  list_any-put k v (e ∷ es) =
      elim (o.cmp k e.0) as (λ r. o.cmp k e.0 ≡ r → list_any (λ e. t e.0) (by_order r ((k, v) ∷ e ∷ es) ((e.0, v) ∷ es) (e ∷ put o.cmp k v es)) ≡ (t k || (t e.0 || list_any (λ e. t e.0) es))) [
        | Less ↦ λ _. refl
        | Equal ↦ λ is. rw (o.same k e.0 is) (twice (t e.0) _)
        | Greater ↦ λ _. ap (λ b. t e.0 || b) (list_any-put k v es) ∙ or_swap (t e.0) (t k) _
      ] refl
    where
      twice : (a b : Bool) → (a || b) ≡ (a || (a || b))
      twice h b = grind arith

pub list_any-map : {A B : Type 0} (g : A → B) (t : B → Bool) (xs : List A) → list_any t (map g xs) ≡ list_any (λ x. t (g x)) xs
list_any-map g t [] = refl
list_any-map g t (x ∷ xs) = ap (λ b. t (g x) || b) (list_any-map g t xs)

pub contains-from_list : {K : Type 0} (o : Order K) (ks : List K) (q : K) → set.contains (set.from_list {o = o} ks) q ≡ list_any (same o q) ks
contains-from_list o [] q = refl
contains-from_list o (k ∷ ks) q = contains-insert (set.from_list {o = o} ks) k q ∙ ap (λ b. same o q k || b) (contains-from_list o ks q)

pub len-change_each : {K X Y : Type 0} (f : K → X → Y) (es : List (K × X)) → length (change_each f es) ≡ length es
len-change_each f [] = refl
len-change_each f (e ∷ es) = ap suc (len-change_each f es)

module _ {K X : Type 0} (o : Order K) (f : K → Option X) where
  -- what is collected, at each key
  pub get-collect : (ks : List K) (q : K) → map.get (map.collect {o = o} f ks) q ≡ cond (list_any (same o q) ks) (f q) None
  get-collect [] q = refl
  get-collect (k ∷ ks) q = one (f k) refl (same_or_not o q k) (get-collect ks q)
    where
      none : (b : Bool) → ◌≡◌ {A = Option X} (cond b None None) None
      none h = grind arith

      one : (x : Option X) → f k ≡ x → ((q ≡ k) × (same o q k ≡ true)) ⊎ (same o q k ≡ false) → map.get (map.collect {o = o} f ks) q ≡ cond (list_any (same o q) ks) (f q) None
          → map.get (map.put_some k x (map.collect {o = o} f ks)) q ≡ cond (same o q k || list_any (same o q) ks) (f q) None
      one known is given rest = grind (arith, none, get-insert)
