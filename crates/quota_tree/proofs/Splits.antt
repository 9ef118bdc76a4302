-- What a split answers, and what it leaves.
use Rattle.quota_tree.proofs.Prelude
use Prelude.{◌≡◌, ◌≢◌, ℕ, ◌+◌, ◌-◌, ◌<◌, ◌≤◌, ◌⊎◌, inl, inr, Bool, true, false, cond, not, ◌==◌, List, length, get_or, is_some, refl, sym, ap, ◌∙◌, Option, Some, None, arith, subst, length-set, option_map, Container, Book, is_child, given, number_of_children, next_number, collected, Containers, room_of, opened_container, charged_with, with_used, split_answer, after_split, member_of, seen_as, IsBooked, IsQuotas, same_Some, giver_after_split, fitting, slice_set, position, Ok, Err}
use Rattle.quota_tree.specs.declared.QuotaFault.TheVariants.{BadQuota}
use Rattle.quota_tree.proofs.CollectedLemmas.{get-collected, collected-set}
use Rattle.quota_tree.proofs.Sums.{given-insert, number-insert, given-none, number-none, number-given}
use Rattle.quota_tree.proofs.Views.{live-container, parents_live, each_quota, room_of-container, within_places, absent_at, next_number-position}
use Rattle.quota_tree.proofs.BookFacts.{child_yes, child_no, contains_key-insert, get-insert_other}
use Rattle.quota_tree.proofs.Writes.{after_set, insert_same, insert_twice, book-set, live_and_absent, only_if}
use Rattle.page_words.specs.FiniteMap as map
use Rattle.std.proofs.lemmas.Bool.Decides.{nat_tests}

-- ---- What a split answers

pub record CanSplit (c : Containers) (parent quota child : ℕ) : Type 0 where
  pub some : 1 ≤ quota
  pub next : next_number c.book ≡ Some child
  pub room : quota ≤ room_of c parent

module _ (c : Containers) (parent quota : ℕ) where
  pub can_split-of_answer : (child : ℕ) → split_answer c parent quota ≡ Ok child → CanSplit c parent quota child
  can_split-of_answer child h = by (quota == 0) (next_number c.book) refl refl h
    where
      by : (b : Bool) (o : Option ℕ) → (quota == 0) ≡ b → next_number c.book ≡ o → cond b (Err BadQuota) (fitting c parent quota o) ≡ Ok child → CanSplit c parent quota child
      by b o is next e = grind (arith, nat_tests)

-- ---- A split: a parent gives a part of its room to a child that wasn't there

module _ (cs : List (Option Container)) (kept : IsQuotas cs) (p k q : ℕ) (p_in : p < length cs) (k_in : k < length cs)
    (g : Container) (hg : get_or cs p None ≡ Some g) (hk : get_or cs k None ≡ None) (u : ℕ) (some : 1 ≤ u) (fits : u ≤ q) (room : q ≤ g.quota - g.used - g.given) where
  -- the child's container
  abbrev child : Container
  child = charged_with (opened_container p q) u

  given_first : collected member_of (slice_set cs p (Some (giver_after_split g q))) ≡ collected member_of cs
  given_first = book-set cs kept p p_in g (giver_after_split g q) hg refl

  absent : map.get (collected member_of cs) k ≡ None
  absent = get-collected member_of cs k ∙ ap (option_map member_of) hk

  k_not_0 : k ≢ 0
  k_not_0 e = let f : false ≡ true = ap is_some (sym absent) ∙ ap (map.contains_key (collected member_of cs)) e ∙ ap is_some kept.root.is in cc

  p_not_k : p ≢ k
  p_not_k = live_and_absent (collected member_of cs) p k (live-container cs p g hg) absent

  abbrev book2 : Book
  book2 = map.insert (collected member_of cs) k (record { parent = p; quota = q })

  length_first : length (slice_set cs p (Some (giver_after_split g q))) ≡ length cs
  length_first = length-set cs p (Some (giver_after_split g q))

  book_after_split : collected member_of (slice_set (slice_set cs p (Some (giver_after_split g q))) k (Some child)) ≡ book2
  book_after_split = grind (arith, collected-set, length_first, given_first)

  pub seen_as-split : seen_as (slice_set (slice_set cs p (Some (giver_after_split g q))) k (Some child)) ≡ record { book = (after_split (seen_as cs) p q k).book; used = map.insert (seen_as cs).used k u }
  seen_as-split = grind (arith, collected-set, length_first, insert_same, get-collected, book_after_split)

  given2 : (x : ℕ) → given book2 x ≡ only_if (is_child x (k, record { parent = p; quota = q })) q + given (collected member_of cs) x
  given2 x = given-insert (collected member_of cs) k (record { parent = p; quota = q }) absent x

  number2 : (x : ℕ) → number_of_children book2 x ≡ only_if (is_child x (k, record { parent = p; quota = q })) 1 + number_of_children (collected member_of cs) x
  number2 x = number-insert (collected member_of cs) k (record { parent = p; quota = q }) absent x

  child_kept : IsBooked book2 k child
  child_kept =
      grind (
        arith,
        child_no p k k q p_not_k,
        given2 k,
        number2 k,
        given-none (collected member_of cs) k absent (parents_live cs kept),
        number-none (collected member_of cs) k absent (parents_live cs kept),
        p_not_k,
        only_if,
        absent,
        parents_live,
        contains_key-insert,
        live-container,
      )

  giver_kept : IsBooked book2 p (giver_after_split g q)
  giver_kept = grind (arith, kept.each p g hg, child_yes, k_not_0, given2, number2, only_if, contains_key-insert)

  other_kept : (x : ℕ) (c : Container) → x ≢ p → get_or cs x None ≡ Some c → IsBooked book2 x c
  other_kept x c n h = grind (arith, kept.each x c h, child_no, given2, number2, only_if, contains_key-insert)

  pub quotas-split : IsQuotas (slice_set (slice_set cs p (Some (giver_after_split g q))) k (Some child))
  quotas-split = record {
    places = length-set (slice_set cs p (Some (giver_after_split g q))) k (Some child) ∙ length_first ∙ kept.places;
    root = grind (arith, book_after_split, get-insert_other, k_not_0);
    each = λ x c at. subst (λ (b : Book). IsBooked b x c) (sym book_after_split) (new x c (after_set (slice_set cs p (Some (giver_after_split g q))) k (Some child) x c (omega (arith, length_first, k_in)) at));
  }
    where
      kept_at : (x y : ℕ) (c d : Container) → x ≡ y → Some d ≡ Some c → IsBooked book2 y d → IsBooked book2 x c
      kept_at x y c d e f h = subst (λ (n : ℕ). IsBooked book2 n c) (sym e) (subst (λ (z : Container). IsBooked book2 y z) (same_Some d c f) h)

      new : (x : ℕ) (c : Container) → ((x ≡ k) × (Some child ≡ Some c)) ⊎ ((x ≢ k) × (get_or (slice_set cs p (Some (giver_after_split g q))) x None ≡ Some c)) → IsBooked book2 x c
      new x c (inl is) = kept_at x k c child is.0 is.1 child_kept
      new x c (inr other) = elim (after_set cs p (Some (giver_after_split g q)) x c p_in other.1) [
        | inl is ↦ kept_at x p c (giver_after_split g q) is.0 is.1 giver_kept
        | inr rest ↦ other_kept x c rest.0 rest.1
      ]

-- ---- The same, from what the split answers

module _ (cs : List (Option Container)) (kept : IsQuotas cs) (p q k : ℕ) (is : split_answer (seen_as cs) p q ≡ Ok k) where
  pub can : CanSplit (seen_as cs) p q k
  can = can_split-of_answer (seen_as cs) p q k is

  pub place_there : position (λ c. not (is_some c)) cs ≡ Some k
  place_there = sym (next_number-position cs kept) ∙ can.next

  module _ (g : Container) (hg : get_or cs p None ≡ Some g) where
    in_room : q ≤ g.quota - g.used - g.given
    in_room = let a = can.room in omega (arith, a, room_of-container cs kept p g hg)

    pub giver_room : g.given + q ≤ g.quota
    giver_room = let a = in_room in let w = (kept.each p g hg).within in omega arith

    pub giver_children : g.children + 1 ≤ g.quota
    giver_children =
        let some = can.some in
        let old = kept.each p g hg in
        let number = old.children in
        omega (arith, some, number, giver_room, number-given (collected member_of cs) (each_quota cs kept) p)

    module _ (u : ℕ) (some : 1 ≤ u) (fits : u ≤ q) where
      absent_there : (k < length cs) × (get_or cs k None ≡ None)
      absent_there = absent_at cs kept k can.next

      pub quotas-child : IsQuotas (slice_set (slice_set cs p (Some (giver_after_split g q))) k (Some (charged_with (opened_container p q) u)))
      quotas-child = quotas-split cs kept p k q (within_places cs kept p g hg) absent_there.0 g hg absent_there.1 u some fits in_room

      pub seen_as-child : seen_as (slice_set (slice_set cs p (Some (giver_after_split g q))) k (Some (charged_with (opened_container p q) u))) ≡ with_used (after_split (seen_as cs) p q k) k u
      seen_as-child =
          seen_as-split cs kept p k q (within_places cs kept p g hg) absent_there.0 g hg absent_there.1 u some fits in_room
          ∙ (λ i. record { book = (after_split (seen_as cs) p q k).book; used = sym (insert_twice (seen_as cs).used k 1 u) i })

-- a child that uses 1
pub with_used-split : (c : Containers) (p q k : ℕ) → with_used (after_split c p q k) k 1 ≡ after_split c p q k
with_used-split c p q k = λ i. record { book = (after_split c p q k).book; used = insert_twice c.used k 1 1 i }
