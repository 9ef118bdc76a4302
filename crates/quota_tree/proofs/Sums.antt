-- Sums over the book: what one member more or less leaves of them, and that all processes together use
-- at most the root's quota.
use Rattle.quota_tree.proofs.Prelude
use Prelude.{◌≡◌, ℕ, ◌+◌, ◌≤◌, length, Bool, true, false, cond, not, ◌&&◌, ◌==◌, T, List, [], ◌∷◌, refl, sym, ap, subst, ◌∙◌, Some, None, filter, sum_by, arith, Member, Book, is_child, given, number_of_children, eqb-true, eq-eqb, same_Some, get-removed, put_back}
use Rattle.std.specs.declared.cmp.Ordering.{Ordering}
use Rattle.std.specs.declared.cmp.Ordering.TheVariants.{Less, Equal, Greater}
use Rattle.std.specs.Ordering.{nat_cmp, is_lt, is_eq}
use Rattle.std.specs.Cmp.{unsigned_tied}
use Rattle.std.specs.FinMap.Entries.{find, below_all, is_sorted, put, by_order}
use Rattle.std.proofs.lemmas.List.Sums.{sum_by-cons}
use Rattle.page_words.specs.FiniteMap as map

first_of : (a b : Bool) → T (a && b) → T a
first_of a b h = grind arith

second_of : (a b : Bool) → T (a && b) → T b
second_of a b h = grind arith

pub lt_not_eq : (r : Ordering) → T (is_lt r) → is_eq r ≡ false
lt_not_eq r h = grind arith

apart : (x y : ℕ) → T (is_lt (nat_cmp x y)) → (x == y) ≡ false
apart x y h = sym (unsigned_tied x y) ∙ lt_not_eq (nat_cmp x y) h

module _ {X : Type 0} where
  sum_ext : (f g : X → ℕ) (xs : List X) → ((x : X) → f x ≡ g x) → sum_by f xs ≡ sum_by g xs
  sum_ext f g xs is = grind (arith, sum_by-cons)

  sum_add : (f g : X → ℕ) (xs : List X) → sum_by (λ x. f x + g x) xs ≡ sum_by f xs + sum_by g xs
  sum_add f g [] = refl
  sum_add f g (x ∷ xs) = search (arith, sum_by-cons, sum_add f g xs)

  sum_zero : (xs : List X) → sum_by (λ (_ : X). 0) xs ≡ 0
  sum_zero [] = refl
  sum_zero (x ∷ xs) = let a = sum_by-cons (λ (_ : X). 0) x xs in let d = sum_zero xs in omega arith

abbrev Entry : Type 0
Entry = ℕ × Member

-- what f gives at one key
abbrev at_key : ℕ → (Entry → ℕ) → Entry → ℕ
at_key k f e = cond (k == e.0) (f e) 0

sum_none : (k : ℕ) (f : Entry → ℕ) (es : List Entry) → T (below_all nat_cmp k es) → sum_by (at_key k f) es ≡ 0
sum_none k f [] h = refl
sum_none k f (e ∷ es) h =
    let a = sum_by-cons (at_key k f) e es in
    let b : at_key k f e ≡ 0 = ap (λ b. cond b (f e) 0) (apart k e.0 (first_of _ _ h)) in
    let c = sum_none k f es (second_of _ _ h) in
    omega arith

find_none : (k : ℕ) (es : List Entry) → T (below_all nat_cmp k es) → find nat_cmp k es ≡ None
find_none k [] h = refl
find_none k (e ∷ es) h = ap (λ b. cond b (Some e.1) (find nat_cmp k es)) (lt_not_eq (nat_cmp k e.0) (first_of _ _ h)) ∙ find_none k es (second_of _ _ h)

sum_one : (k : ℕ) (f : Entry → ℕ) (es : List Entry) (v : Member) → T (is_sorted nat_cmp es) → find nat_cmp k es ≡ Some v → sum_by (at_key k f) es ≡ f (k, v)
sum_one k f [] v h found = cc
sum_one k f (e ∷ es) v h found =
    sum_by-cons (at_key k f) e es
    ∙ by (λ found. sum_one k f es v (second_of _ _ h) found) (k == e.0) refl (ap (λ b. cond b (Some e.1) (find nat_cmp k es)) (sym (unsigned_tied k e.0)) ∙ found)
  where
    by : (find nat_cmp k es ≡ Some v → sum_by (at_key k f) es ≡ f (k, v)) → (b : Bool) → (k == e.0) ≡ b → cond b (Some e.1) (find nat_cmp k es) ≡ Some v → cond b (f e) 0 + sum_by (at_key k f) es ≡ f (k, v)
    by rest known is given = grind (arith, eqb-true, sum_none, first_of, same_Some)

-- where f is at most g at each key that is found, so are the sums
sum_le : (f g : Entry → ℕ) (es : List Entry) → T (is_sorted nat_cmp es) → ((k : ℕ) (v : Member) → find nat_cmp k es ≡ Some v → f (k, v) ≤ g (k, v)) → sum_by f es ≤ sum_by g es
sum_le f g [] h each = omega arith
sum_le f g (e ∷ es) h each =
    let a = sum_by-cons f e es in
    let b = sum_by-cons g e es in
    let head : f e ≤ g e = each e.0 e.1 (ap (λ b. cond b (Some e.1) (find nat_cmp e.0 es)) (unsigned_tied e.0 e.0 ∙ eq-eqb e.0 e.0 refl)) in
    let rest = sum_le f g es (second_of _ _ h) (λ k v found. each k v (ap (λ b. cond b (Some e.1) (find nat_cmp k es)) (unsigned_tied k e.0) ∙ later k v found (k == e.0) refl)) in
    omega arith
  where
    later : (k : ℕ) (v : Member) → find nat_cmp k es ≡ Some v → (b : Bool) → (k == e.0) ≡ b → cond b (Some e.1) (find nat_cmp k es) ≡ Some v
    later k v found known is = grind (arith, find_none, eqb-true, first_of)

abbrev quota : Entry → ℕ
quota e = e.1.quota

-- summed by parents, or by children
swapped : (ks cs : List Entry) → sum_by (λ k. sum_by quota (filter (is_child k.0) cs)) ks ≡ sum_by (λ c. sum_by (λ k. cond (is_child k.0 c) (quota c) 0) ks) cs
swapped ks [] = sum_zero ks
swapped ks (c ∷ cs) =
    sum_ext (λ k. sum_by quota (filter (is_child k.0) (c ∷ cs))) (λ k. cond (is_child k.0 c) (quota c) 0 + sum_by quota (filter (is_child k.0) cs)) ks (λ k. one (is_child k.0 c) (filter (is_child k.0) cs))
    ∙ sum_add (λ k. cond (is_child k.0 c) (quota c) 0) (λ k. sum_by quota (filter (is_child k.0) cs)) ks
    ∙ ap (λ n. sum_by (λ k. cond (is_child k.0 c) (quota c) 0) ks + n) (swapped ks cs)
    ∙ sym (sum_by-cons (λ c. sum_by (λ k. cond (is_child k.0 c) (quota c) 0) ks) c cs)
  where
    one : (b : Bool) (rest : List Entry) → sum_by quota (cond b (c ∷ rest) rest) ≡ cond b (quota c) 0 + sum_by quota rest
    one true rest = sum_by-cons quota c rest
    one false rest = omega arith

-- a child's quota, and 0 for the root
abbrev beyond_root : Entry → ℕ
beyond_root e = cond (e.0 == 0) 0 (quota e)

abbrev pub Parents : Book → Type 0
Parents book = (p : ℕ) (member : Member) → map.get book p ≡ Some member → (m : Member) × (map.get book member.parent ≡ Some m)

-- at most what is beyond the root is given away; the other direction holds too
given_sum : (book : Book) → Parents book → sum_by beyond_root book.entries ≤ sum_by (λ e. given book e.0) book.entries
given_sum book parents =
    subst (λ n. sum_by beyond_root book.entries ≤ n) (sym (swapped book.entries book.entries))
    (sum_le beyond_root (λ c. sum_by (λ k. cond (is_child k.0 c) (quota c) 0) book.entries) book.entries book.sorted each)
  where
    each : (k : ℕ) (v : Member) → map.get book k ≡ Some v → beyond_root (k, v) ≤ sum_by (λ e. cond (not (k == 0) && (v.parent == e.0)) v.quota 0) book.entries
    each k v found = by (k == 0)
      where
        m : (m : Member) × (map.get book v.parent ≡ Some m)
        m = parents k v found

        by : (b : Bool) → cond b 0 v.quota ≤ sum_by (λ e. cond (not b && (v.parent == e.0)) v.quota 0) book.entries
        by true = omega arith
        by false = let s = sum_one v.parent (λ _. v.quota) book.entries m.0 book.sorted m.1 in omega arith

-- where each process has room, all costs together are at most the root's quota
pub costs_within : (book : Book) (cost : ℕ → ℕ) (root : Member) → map.get book 0 ≡ Some root → Parents book
    → ((p : ℕ) (member : Member) → map.get book p ≡ Some member → cost p + given book p ≤ member.quota)
    → sum_by (λ e. cost e.0) book.entries ≤ root.quota
costs_within book cost root found parents rooms =
    let a = sum_le (λ e. cost e.0 + given book e.0) quota book.entries book.sorted rooms in
    let b = sum_add (λ e. cost e.0) (λ e. given book e.0) book.entries in
    let c = given_sum book parents in
    let d = sum_add (at_key 0 quota) beyond_root book.entries in
    let e = sum_one 0 quota book.entries root book.sorted found in
    grind (arith, sum_ext)

-- ---- One member more, or less

chosen : (f : Entry → ℕ) (b : Bool) (e : Entry) (rest : List Entry) → sum_by f (cond b (e ∷ rest) rest) ≡ cond b (f e) 0 + sum_by f rest
chosen f b e rest = grind (arith, sum_by-cons)

sum_filter : (f : Entry → ℕ) (t : Entry → Bool) (es : List Entry) → sum_by f (filter t es) ≡ sum_by (λ e. cond (t e) (f e) 0) es
sum_filter f t [] = refl
sum_filter f t (e ∷ es) =
    chosen f (t e) e (filter t es)
    ∙ ap (λ n. cond (t e) (f e) 0 + n) (sum_filter f t es)
    ∙ sym (sum_by-cons (λ e. cond (t e) (f e) 0) e es)

length_sum : {A : Type 0} (xs : List A) → length xs ≡ sum_by (λ (_ : A). 1) xs
length_sum [] = refl
length_sum {A} (x ∷ xs) = let a = sum_by-cons (λ (_ : A). 1) x xs in let b = length_sum xs in omega arith

module _ (f : Entry → ℕ) (t : Entry → Bool) (k : ℕ) (v : Member) where
  sum-put : (es : List Entry) → find nat_cmp k es ≡ None → sum_by f (filter t (put nat_cmp k v es)) ≡ cond (t (k, v)) (f (k, v)) 0 + sum_by f (filter t es)
  sum-put [] none = chosen f (t (k, v)) (k, v) []
  sum-put (e ∷ es) none =
      elim (nat_cmp k e.0) as (λ r. cond (is_eq r) (Some e.1) (find nat_cmp k es) ≡ None → sum_by f (filter t (by_order r ((k, v) ∷ e ∷ es) ((e.0, v) ∷ es) (e ∷ put nat_cmp k v es))) ≡ cond (t (k, v)) (f (k, v)) 0 + sum_by f (filter t (e ∷ es))) [
        | Less ↦ λ h. chosen f (t (k, v)) (k, v) (filter t (e ∷ es))
        | Equal ↦ λ h. cc
        | Greater ↦ λ h.
            let a = chosen f (t e) e (filter t (put nat_cmp k v es)) in
            let b = sum-put es h in
            let d = chosen f (t e) e (filter t es) in
            omega (arith, a, b, d)
      ] none

module _ (book : Book) (k : ℕ) (v : Member) (none : map.get book k ≡ None) where
  -- one member more
  pub given-insert : (p : ℕ) → given (map.insert book k v) p ≡ cond (is_child p (k, v)) v.quota 0 + given book p
  given-insert p = sum-put quota (is_child p) k v book.entries none

  pub number-insert : (p : ℕ) → number_of_children (map.insert book k v) p ≡ cond (is_child p (k, v)) 1 0 + number_of_children book p
  number-insert p = grind (arith, length_sum, sum-put)

module _ (book : Book) (k : ℕ) (v : Member) (h : map.get book k ≡ Some v) where
  -- one member less
  pub given-remove : (p : ℕ) → given book p ≡ cond (is_child p (k, v)) v.quota 0 + given (map.remove book k) p
  given-remove p = ap (λ b. given b p) (sym (put_back book k v h)) ∙ given-insert (map.remove book k) k v (get-removed book k) p

  pub number-remove : (p : ℕ) → number_of_children book p ≡ cond (is_child p (k, v)) 1 0 + number_of_children (map.remove book k) p
  number-remove p = ap (λ b. number_of_children b p) (sym (put_back book k v h)) ∙ number-insert (map.remove book k) k v (get-removed book k) p

-- who isn't live is nobody's parent
module _ (book : Book) (p : ℕ) (none : map.get book p ≡ None) (parents : Parents book) where
  no_child : (f : Entry → ℕ) → sum_by f (filter (is_child p) book.entries) ≤ 0
  no_child f = grind (arith, sum_filter f (is_child p) book.entries, sum_zero book.entries, sum_le, eqb-true)

  pub given-none : given book p ≡ 0
  given-none = let a = no_child quota in omega arith

  pub number-none : number_of_children book p ≡ 0
  number-none = let a = no_child (λ _. 1) in omega (arith, length_sum (filter (is_child p) book.entries), a)

-- each child has at least 1, so there are at most as many as was given
pub number-given : (book : Book) → ((k : ℕ) (v : Member) → map.get book k ≡ Some v → 1 ≤ v.quota) → (p : ℕ) → number_of_children book p ≤ given book p
number-given book each p = grind (arith, length_sum, sum_filter, sum_le)
