-- Counts over ranges of numbers and of slots are the sizes of sets.
use Rattle.std.proofs.Common.{◌≡◌, ◌≢◌, ℕ, zero, suc, ◌+◌, ◌<◌, ◌≤◌, Bool, true, false, ◌&&◌, ◌||◌, cond, List, [], ◌∷◌, ◌++◌, map as list_map, refl, sym, ap, ◌∙◌, arith, Option, Some, None, is_some}
use Rattle.std.specs.Prelude.{◌↔◌, IsTrue}
use Rattle.std.specs.List.{range_with_len, list_any}
use Rattle.std.specs.declared.cmp.Ordering.{Ordering}
use Rattle.std.specs.declared.cmp.Ordering.TheVariants.{Less, Equal, Greater}
use Rattle.std.specs.Ordering.{nat_cmp, ordering_then, is_eq}
use Rattle.std.specs.Cmp.{unsigned_tied, both_ways}
use Rattle.std.proofs.lemmas.Bool.{ne_eqb}
use Rattle.page_words.specs.FiniteMap as map
use Rattle.page_words.specs.FiniteMap.{Order, nat_order, same}
use Rattle.page_words.specs.FiniteSet as set
use Rattle.page_words.specs.FiniteSet.{Set}
use Rattle.page_words.proofs.MapLemmas.{get-collect, same_set}
use Rattle.page_map.specs.Pages.{count_range}
use Rattle.address_space.specs.Spaces.{Slot, slot_order, at_page}
use Rattle.address_space.specs.Slots.{user_slots, slots_below}
use Rattle.address_space.specs.Image.{IsCount}
use Rattle.image_check.specs.Counts.{sum_range}
use Rattle.image_check.proofs.RangeLemmas.{sum-same, sum-more, count-same}
use Rattle.image_check.proofs.CountLemmas.{any-in, any-append, len-collect}

-- ---- Numbers and slots as keys

pub numbers_apart : (i j : ℕ) → i ≢ j → same nat_order i j ≡ false
numbers_apart i j n = unsigned_tied i j ∙ ne_eqb i j n

both_tied : (a b : Ordering) → is_eq (ordering_then a b) ≡ (is_eq a && is_eq b)
both_tied Less b = refl
both_tied Equal b = refl
both_tied Greater b = refl

and_false : (a b : Bool) → b ≡ false → (a && b) ≡ false
and_false true b h = h
and_false false b h = refl

false_and : (a b : Bool) → a ≡ false → (a && b) ≡ false
false_and true b h = cc
false_and false b h = refl

pub pages_apart : (p i j : ℕ) → i ≢ j → same slot_order (at_page p i) (at_page p j) ≡ false
pages_apart p i j n = both_tied (nat_cmp p p) (nat_cmp i j) ∙ and_false (is_eq (nat_cmp p p)) (is_eq (nat_cmp i j)) (numbers_apart i j n)

pids_apart : (p i q j : ℕ) → p ≢ q → same slot_order (at_page p i) (at_page q j) ≡ false
pids_apart p i q j n = both_tied (nat_cmp p q) (nat_cmp i j) ∙ false_and (is_eq (nat_cmp p q)) (is_eq (nat_cmp i j)) (numbers_apart p q n)

-- ---- The set of those of a list's keys that pass

abbrev pub marked : Bool → Option (Unit {0})
marked true = Some tt
marked false = None

marked_some : (b : Bool) → is_some (marked b) ≡ b
marked_some true = refl
marked_some false = refl

chosen : (b t : Bool) → (t ≡ true → b ≡ true) → is_some (cond b (marked t) None) ≡ t
chosen true t h = marked_some t
chosen false true h = let e = h refl in cc
chosen false false h = refl

module _ {K : Type 0} (o : Order K) (t : K → Bool) (ks : List K) (covers : (k : K) → t k ≡ true → list_any (same o k) ks ≡ true) where
  pub passing : Set o
  passing = map.collect (λ k. marked (t k)) ks

  contains-passing : (q : K) → set.contains passing q ≡ t q
  unfolding passing
  contains-passing q = ap is_some (get-collect o (λ k. marked (t k)) ks q) ∙ chosen (list_any (same o q) ks) (t q) (covers q)

  -- any set with the same members
  is-passing : (s : Set o) → ((q : K) → IsTrue (set.contains s q) ↔ IsTrue (t q)) → s ≡ passing
  is-passing s are = same_set s passing (λ q. both_ways (set.contains s q) (t q) (are q).0 (are q).1 ∙ sym (contains-passing q))

  module _ (P : K → Type 0) (says : (k : K) → IsTrue (t k) ↔ P k) (n : ℕ) (long : set.len passing ≡ n) where
    -- how many keys have P
    is_count : IsCount o n P
    is_count = record {
      members = passing;
      are = λ k. (λ h. (says k).0 (sym (contains-passing k) ∙ h), λ h. contains-passing k ∙ (says k).1 h);
      count = sym long;
    }

    count_is : (m : ℕ) → IsCount o m P → m ≡ n
    count_is m c = c.count ∙ ap set.len (is-passing c.members (λ q. (λ h. (says q).1 ((c.are q).0 h), λ h. (c.are q).1 ((says q).0 h)))) ∙ long

-- ---- Numbers

itself : ℕ → ℕ
itself k = k

apart : (i j : ℕ) → i ≢ j → same nat_order (itself i) (itself j) ≡ false
unfolding itself
apart i j n = numbers_apart i j n

listed : ℕ → ℕ → List ℕ
listed first count = list_map itself (range_with_len first count) ++ []

module _ (t : ℕ → Bool) (first count : ℕ) (covers : (k : ℕ) → t k ≡ true → (first ≤ k) × (k < first + count)) where
  any-listed : (k : ℕ) → t k ≡ true → list_any (same nat_order k) (listed first count) ≡ true
  unfolding listed itself
  any-listed k h =
      any-append (same nat_order k) (list_map itself (range_with_len first count)) []
      ∙ ap (λ b. b || false) (any-in nat_order itself apart k first count (covers k h).0 (covers k h).1)

  same-test : (k : ℕ) → is_some (marked (t (itself k))) ≡ t k
  unfolding itself
  same-test k = marked_some (t k)

  len-listed : set.len (passing nat_order t (listed first count) any-listed) ≡ count_range t first count
  unfolding passing listed
  len-listed =
      let a = len-collect nat_order itself apart (λ k. marked (t k)) [] (λ k. refl) first count in
      let b = count-same (λ k. is_some (marked (t (itself k)))) t first count (λ k _ _. same-test k) in
      omega (arith, a, b)

  module _ (P : ℕ → Type 0) (says : (k : ℕ) → IsTrue (t k) ↔ P k) where
    -- how many numbers have P
    pub number_count : IsCount nat_order (count_range t first count) P
    number_count = is_count nat_order t (listed first count) any-listed P says (count_range t first count) len-listed

    pub number_count_is : (n : ℕ) → IsCount nat_order n P → n ≡ count_range t first count
    number_count_is = count_is nat_order t (listed first count) any-listed P says (count_range t first count) len-listed

-- ---- Slots

other_pid : (p k n : ℕ) (pages : List ℕ) → n ≤ p → list_any (same slot_order (at_page p k)) (slots_below n pages) ≡ false
other_pid p k zero pages low = refl
other_pid p k (suc n) pages low =
    any-append (same slot_order (at_page p k)) (list_map (at_page n) pages) (slots_below n pages)
    ∙ (λ i. in-row pages i || other_pid p k n pages (omega arith) i)
  where
    in-row : (js : List ℕ) → list_any (same slot_order (at_page p k)) (list_map (at_page n) js) ≡ false
    in-row [] = refl
    in-row (j ∷ js) = λ i. pids_apart p k n j (omega arith) i || in-row js i

len-slots_below : {X : Type 0} (f : Slot → Option X) (first count n : ℕ)
    → map.len (map.collect {o = slot_order} f (slots_below n (range_with_len first count))) ≡ sum_range (λ p. count_range (λ page. is_some (f (at_page p page))) first count) 0 n
unfolding sum_range
len-slots_below f first count zero = refl
len-slots_below f first count (suc n) =
    let a = len-collect slot_order (at_page n) (pages_apart n) f (slots_below n (range_with_len first count)) (λ k. other_pid n k n (range_with_len first count) (omega arith)) first count in
    let b = len-slots_below f first count n in
    let c = sum-more (λ p. count_range (λ page. is_some (f (at_page p page))) first count) n in
    omega (arith, a, b, c)

len-user_slots : {X : Type 0} (f : Slot → Option X)
    → map.len (map.collect {o = slot_order} f user_slots) ≡ sum_range (λ p. count_range (λ page. is_some (f (at_page p page))) 0x40000 0xb0000) 0 64
unfolding user_slots
len-user_slots f = len-slots_below f 0x40000 0xb0000 64

module _ (t : Slot → Bool) (covers : (slot : Slot) → t slot ≡ true → list_any (same slot_order slot) user_slots ≡ true) (P : Slot → Type 0) (says : (slot : Slot) → IsTrue (t slot) ↔ P slot) where
  slots_that_pass : ℕ
  slots_that_pass = sum_range (λ p. count_range (λ page. t (at_page p page)) 0x40000 0xb0000) 0 64

  len-passing : set.len (passing slot_order t user_slots covers) ≡ slots_that_pass
  unfolding passing slots_that_pass
  len-passing =
      len-user_slots (λ slot. marked (t slot))
      ∙ sum-same (λ p. count_range (λ page. is_some (marked (t (at_page p page)))) 0x40000 0xb0000) (λ p. count_range (λ page. t (at_page p page)) 0x40000 0xb0000) 0 64
      (λ p _ _. count-same (λ page. is_some (marked (t (at_page p page)))) (λ page. t (at_page p page)) 0x40000 0xb0000 (λ page _ _. marked_some (t (at_page p page))))

  -- how many slots have P
  slots_counted : IsCount slot_order slots_that_pass P
  slots_counted = is_count slot_order t user_slots covers P says slots_that_pass len-passing

  slots_counted_are : (n : ℕ) → IsCount slot_order n P → n ≡ slots_that_pass
  slots_counted_are = count_is slot_order t user_slots covers P says slots_that_pass len-passing

  pub slot_count : IsCount slot_order (sum_range (λ p. count_range (λ page. t (at_page p page)) 0x40000 0xb0000) 0 64) P
  unfolding slots_that_pass
  slot_count = slots_counted

  pub slot_count_is : (n : ℕ) → IsCount slot_order n P → n ≡ sum_range (λ p. count_range (λ page. t (at_page p page)) 0x40000 0xb0000) 0 64
  unfolding slots_that_pass
  slot_count_is = slots_counted_are
