-- The entries of the book: the processes without a child, how many there are, and the entry of a child.
use Rattle.kernel_acts.proofs.Prelude.{◌≡◌, ◌≢◌, ℕ, ◌+◌, ◌<◌, ◌≤◌, length, Bool, true, false, cond, ◌&&◌, ◌==◌, T, List, [], ◌∷◌, refl, sym, ap, ◌∙◌, Option, Some, unwrap_or, filter, arith, option_map, ne_eqb, eqb-false, Book, Member, is_child, quota_of, number_of_children, given-remove, number-remove, cost, same_Some, State, is_live, container_of, IsWellFormed, is_child_of, eqb-true, eq-eqb, unsigned_tied, nat_cmp_total, find, below_all, is_sorted, length_without}
use Rattle.std.specs.Ordering.{nat_cmp}
use Rattle.quota_tree.specs.declared.Container.{Container}
use Rattle.page_words.specs.FiniteMap as map

first_of : (a b : Bool) → T (a && b) → T a
first_of a b h = grind arith

second_of : (a b : Bool) → T (a && b) → T b
second_of a b h = grind arith

abbrev Entry : Type 0
Entry = ℕ × Member

-- what is found in a list lies behind a number below all of it
found_after : (lo k : ℕ) (v : Member) (es : List Entry) → T (below_all nat_cmp lo es) → find nat_cmp k es ≡ Some v → lo < k
found_after lo k v [] h found = cc
found_after lo k v (e ∷ es) h found =
    by (found_after lo k v es (second_of _ _ h)) (k == e.0) refl (ap (λ b. cond b (Some e.1) (find nat_cmp k es)) (sym (unsigned_tied k e.0)) ∙ found)
  where
    by : (find nat_cmp k es ≡ Some v → lo < k) → (b : Bool) → (k == e.0) ≡ b → cond b (Some e.1) (find nat_cmp k es) ≡ Some v → lo < k
    by rest b is f = grind (arith, eqb-true, first_of)

found_first : (e : Entry) (es : List Entry) → find nat_cmp e.0 (e ∷ es) ≡ Some e.1
found_first e es = ap (λ b. cond b (Some e.1) (find nat_cmp e.0 es)) (unsigned_tied e.0 e.0 ∙ eq-eqb e.0 e.0 refl)

-- what is found behind the first entry is found with it
found_behind : (e : Entry) (es : List Entry) → T (is_sorted nat_cmp (e ∷ es)) → (k : ℕ) (v : Member) → find nat_cmp k es ≡ Some v
    → (find nat_cmp k (e ∷ es) ≡ Some v) × (e.0 < k)
found_behind e es h k v found = grind (arith, found_after, first_of, ne_eqb)

none_passes : (t : Entry → Bool) (es : List Entry) → T (is_sorted nat_cmp es)
    → ((k : ℕ) (v : Member) → find nat_cmp k es ≡ Some v → t (k, v) ≡ false) → filter t es ≡ []
none_passes t [] h none = refl
none_passes t (e ∷ es) h none =
    ap (λ b. cond b (e ∷ filter t es) (filter t es)) (none e.0 e.1 (found_first e es))
    ∙ none_passes t es (second_of _ _ h) (λ k v found. none k v (found_behind e es h k v found).0)

-- who is nobody's parent has no children
pub childless : (s : State) (p : ℕ) → ((q : ℕ) → is_child_of s p q ≡ false) → number_of_children s.book p ≡ 0
childless s p none = grind (arith, none_passes)

few_from : (lo : ℕ) (es : List Entry) → lo ≤ 64 → T (is_sorted nat_cmp es)
    → ((k : ℕ) (v : Member) → find nat_cmp k es ≡ Some v → (lo ≤ k) × (k < 64)) → lo + length es ≤ 64
few_from lo [] h sorted within = omega arith
few_from lo (e ∷ es) h sorted within =
    let here = within e.0 e.1 (found_first e es) in
    let low = here.0 in
    let high = here.1 in
    let up : e.0 + 1 ≤ 64 = omega (arith, high) in
    let rest = few_from (e.0 + 1) es up (second_of _ _ sorted) (λ k v found.
    let b = found_behind e es sorted k v found in
    let after = b.1 in
    (omega (arith, after), (within k v b.0).1)) in
    omega (arith, rest, low)

-- at most 64 processes are live
pub few_live : (s : State) → IsWellFormed s → map.len s.book ≤ 64
few_live s w =
    let a = few_from 0 s.book.entries (omega arith) s.book.sorted (λ k v found. (omega arith, (w.processes k v found).0)) in
    omega (arith, a)

-- one that is removed is one less
pub len_removed : (book : Book) (k : ℕ) → map.contains_key book k ≡ true → map.len (map.remove book k) + 1 ≡ map.len book
len_removed book k live =
    let a = length_without nat_cmp nat_cmp_total k book.entries book.sorted in
    let b : ◌≡◌ {A = ℕ} (cond (map.contains_key book k) 1 0) 1 = ap (λ b. cond b 1 0) live in
    omega (arith, a, b)

-- ---- Children

-- the entry of a child
pub record ChildEntry (s : State) (p q : ℕ) : Type 0 where
  pub member : Member
  pub at : map.get s.book q ≡ Some member
  pub not_root : q ≢ 0
  pub parent : member.parent ≡ p
  pub is : is_child p (q, member) ≡ true

pub child_entry : (s : State) (p q : ℕ) → is_child_of s p q ≡ true → ChildEntry s p q
child_entry s p q h = grind (arith, eqb-false, eqb-true)

-- a child has less than its parent
pub quota_below : (s : State) (p q : ℕ) → IsWellFormed s → is_child_of s p q ≡ true → quota_of s.book q < quota_of s.book p
quota_below s p q w h =
    let e = child_entry s p q h in
    let m = e.member in
    let live : is_live s p ≡ true = ap (is_live s) (sym e.parent) ∙ (w.processes q m e.at).1 in
    let room = w.rooms p live in
    let gives = given-remove s.book q m e.at p in
    let b : ◌≡◌ {A = ℕ} (cond (is_child p (q, m)) m.quota 0) m.quota = ap (λ b. cond b m.quota 0) e.is in
    let own : quota_of s.book q ≡ m.quota = ap (λ (x : Option Member). unwrap_or (option_map (λ (m : Member). m.quota) x) 0) e.at in
    let some : 1 ≤ cost s.spaces p = omega arith in
    omega (arith, room, gives, b, own, some)

-- who has no children is nobody's parent
pub no_children_of : (s : State) (p : ℕ) → number_of_children s.book p ≡ 0 → (q : ℕ) → is_child_of s p q ≡ false
no_children_of s p none q = by (is_child_of s p q) refl
  where
    by : (b : Bool) → is_child_of s p q ≡ b → is_child_of s p q ≡ false
    by false is = is
    by true is = absurd (
        let e = child_entry s p q is in
        let one = number-remove s.book q e.member e.at p in
        let b : ◌≡◌ {A = ℕ} (cond (is_child p (q, e.member)) 1 0) 1 = ap (λ b. cond b 1 0) e.is in
        omega (arith, one, b, none))

-- a container counts the children
pub counted : (s : State) (p : ℕ) (k : Container) → container_of s p ≡ Some k → k.children ≡ number_of_children s.book p
counted s p k h = grind (arith, same_Some)
