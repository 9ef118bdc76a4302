-- A finite map that computes: std's `FinMap` says the same, but does not unfold outside its file.
--     Order K              an order of keys, in which only equal keys tie
--     same o j k           whether two keys are the same
--     Map o X              from keys in the order o to values of X
--     empty, get, contains_key, insert, remove, len, keys, entries      as Rust's `BTreeMap`
--     retain_keys, map_values      the entries whose keys pass a test;  each value changed, by its key
--     collect f ks         what f gives at each of the keys ks, where it gives something
use Rattle.std.proofs.Common.{◌≡◌, ℕ, Bool, not, T, List, [], ◌∷◌, map, length, is_some, refl, sym, ap, subst, Option, Some, None, ◌&&◌}
use Rattle.std.specs.declared.cmp.Ordering.{Ordering}
use Rattle.std.specs.Ordering.{eq_by_cmp, is_lt, nat_cmp}
use Rattle.std.specs.Cmp.{IsTotalOrder, nat_cmp_total}
use Rattle.std.specs.FinMap.{IsAntisymmetric, nat_cmp-IsAntisymmetric}
use Rattle.std.specs.FinMap.Entries.{find, put, is_sorted, where_key, below_all, is_sorted-put, is_sorted-where_key}

-- an order of keys, in which only equal keys tie
pub record Order (K : Type 0) : Type 0 where
  pub cmp : K → K → Ordering
  pub total : IsTotalOrder cmp
  pub same : IsAntisymmetric cmp

-- numbers, from the least
abbrev pub nat_order : Order ℕ
nat_order = record { cmp = nat_cmp; total = nat_cmp_total; same = nat_cmp-IsAntisymmetric }

-- whether two keys are the same
abbrev pub same : {K : Type 0} → Order K → K → K → Bool
same o x y = eq_by_cmp o.cmp x y

-- entries whose keys strictly rise
pub record Map {K : Type 0} (o : Order K) (X : Type 0) : Type 0 where
  pub entries : List (K × X)
  pub sorted : T (is_sorted o.cmp entries)

module _ {K X : Type 0} {o : Order K} where
  abbrev pub empty : Map o X
  empty = record { entries = []; sorted = tt }

  abbrev pub get : Map o X → K → Option X
  get m k = find o.cmp k m.entries

  abbrev pub contains_key : Map o X → K → Bool
  contains_key m k = is_some (get m k)

  abbrev pub insert : Map o X → K → X → Map o X
  insert m k x = record { entries = put o.cmp k x m.entries; sorted = is_sorted-put o.cmp o.total k x m.entries m.sorted }

  -- the entries whose keys pass the test
  abbrev pub retain_keys : Map o X → (K → Bool) → Map o X
  retain_keys m p = record { entries = where_key o.cmp p m.entries; sorted = is_sorted-where_key o.cmp p m.entries m.sorted }

  abbrev pub remove : Map o X → K → Map o X
  remove m k = retain_keys m (λ j. not (eq_by_cmp o.cmp k j))

  abbrev pub len : Map o X → ℕ
  len m = length m.entries

  abbrev pub keys : Map o X → List K
  keys m = map (λ e. e.0) m.entries

-- each entry's value changed by f, which sees its key
abbrev pub change_each : {K X Y : Type 0} → (K → X → Y) → List (K × X) → List (K × Y)
change_each f [] = []
change_each f (e ∷ es) = (e.0, f e.0 e.1) ∷ change_each f es

module _ {K X Y : Type 0} (R : K → K → Ordering) (f : K → X → Y) where
  below-change_each : (k : K) (es : List (K × X)) → below_all R k (change_each f es) ≡ below_all R k es
  below-change_each k [] = refl
  below-change_each k (e ∷ es) = ap (λ b. is_lt (R k e.0) && b) (below-change_each k es)

  sorted-change_each : (es : List (K × X)) → is_sorted R (change_each f es) ≡ is_sorted R es
  sorted-change_each [] = refl
  sorted-change_each (e ∷ es) = λ i. below-change_each e.0 es i && sorted-change_each es i

  pub is_sorted-change_each : (es : List (K × X)) → T (is_sorted R es) → T (is_sorted R (change_each f es))
  is_sorted-change_each es h = subst T (sym (sorted-change_each es)) h

module _ {K X Y : Type 0} {o : Order K} where
  -- each value changed by f, which sees its key
  abbrev pub map_values : (K → X → Y) → Map o X → Map o Y
  map_values f m = record { entries = change_each f m.entries; sorted = is_sorted-change_each o.cmp f m.entries m.sorted }

-- one entry more, where there is a value
abbrev pub put_some : {K X : Type 0} {o : Order K} → K → Option X → Map o X → Map o X
put_some k None m = m
put_some k (Some x) m = insert m k x

-- what f gives at each of these keys
abbrev pub collect : {K X : Type 0} {o : Order K} → (K → Option X) → List K → Map o X
collect f [] = empty
collect f (k ∷ ks) = put_some k (f k) (collect f ks)
