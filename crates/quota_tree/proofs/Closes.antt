-- What a close leaves.
use Rattle.quota_tree.proofs.Prelude
use Prelude.{◌≡◌, ◌≢◌, ℕ, ◌+◌, ◌<◌, ◌≤◌, ◌⊎◌, inl, inr, true, false, List, length, get_or, is_some, sym, ap, ◌∙◌, Option, Some, None, arith, subst, length-set, slice_set, nat_order, Container, Book, is_child, given, number_of_children, collected, member_of, seen_as, IsBooked, IsQuotas, same_Some, same_cases, get-remove_other, after_close, giver_after_close}
use Rattle.quota_tree.proofs.CollectedLemmas.{get-collected, collected-set, collected-unset}
use Rattle.quota_tree.proofs.Sums.{given-remove, number-remove}
use Rattle.quota_tree.proofs.Views.{get-member}
use Rattle.quota_tree.proofs.BookFacts.{child_yes, child_no}
use Rattle.quota_tree.proofs.Writes.{after_set, insert_same, book-set, only_if}
use Rattle.page_words.specs.FiniteMap as map

-- ---- A close: a process without children goes, and its quota returns to its parent

module _ (cs : List (Option Container)) (kept : IsQuotas cs) (k : ℕ) (k_in : k < length cs) (d : Container) (hd : get_or cs k None ≡ Some d)
    (not_0 : k ≢ 0) (childless : number_of_children (collected member_of cs) k ≡ 0) where
  abbrev closed_book : Book
  closed_book = map.remove (collected member_of cs) k

  number_now : (x : ℕ) → number_of_children (collected member_of cs) x ≡ only_if (is_child x (k, member_of d)) 1 + number_of_children closed_book x
  number_now x = number-remove (collected member_of cs) k (member_of d) (get-member cs k d hd) x

  given_now : (x : ℕ) → given (collected member_of cs) x ≡ only_if (is_child x (k, member_of d)) d.quota + given closed_book x
  given_now x = given-remove (collected member_of cs) k (member_of d) (get-member cs k d hd) x

  -- nobody's parent is the process that goes
  parent_other : (x : ℕ) (c : Container) → get_or cs x None ≡ Some c → c.parent ≢ k
  parent_other x c h e = elim (same_cases nat_order x 0) [
    | inl is ↦ grind (arith, get-member)
    | inr other ↦
        (let a = number-remove (collected member_of cs) x (member_of c) (get-member cs x c h) k in
        let yes : is_child k (x, member_of c) ≡ true = ap (λ n. is_child n (x, member_of c)) (sym e) ∙ child_yes c.parent x c.quota other.0 in
        let one : only_if (is_child k (x, member_of c)) 1 ≡ 1 = ap (λ t. only_if t 1) yes in
        absurd (omega (arith, a, one, childless)))
  ]

  module _ (g : Container) (hg : get_or cs d.parent None ≡ Some g) (p_in : d.parent < length cs) where
    closing : given (collected member_of cs) d.parent ≡ d.quota + given closed_book d.parent
    closing = given_now d.parent ∙ ap (λ t. only_if t d.quota + given closed_book d.parent) (child_yes d.parent k d.quota not_0)

    closing_number : number_of_children (collected member_of cs) d.parent ≡ 1 + number_of_children closed_book d.parent
    closing_number = number_now d.parent ∙ ap (λ t. only_if t 1 + number_of_children closed_book d.parent) (child_yes d.parent k d.quota not_0)

    pub giver_gave : d.quota ≤ g.given
    giver_gave = let a = closing in let b = (kept.each d.parent g hg).given in omega arith

    pub giver_has_children : 1 ≤ g.children
    giver_has_children = let a = closing_number in let b = (kept.each d.parent g hg).children in omega arith

    length_giver : length (slice_set cs d.parent (Some (giver_after_close g d.quota))) ≡ length cs
    length_giver = length-set cs d.parent (Some (giver_after_close g d.quota))

    book_after_close : collected member_of (slice_set (slice_set cs d.parent (Some (giver_after_close g d.quota))) k None) ≡ closed_book
    book_after_close = grind (arith, collected-unset, length_giver, book-set)

    pub seen_as-close : seen_as (slice_set (slice_set cs d.parent (Some (giver_after_close g d.quota))) k None) ≡ after_close (seen_as cs) k
    seen_as-close =
        grind (arith, collected-unset, length_giver, collected-set, insert_same, get-collected, book_after_close)

    stays_live : (x : ℕ) → x ≢ k → map.contains_key (collected member_of cs) x ≡ true → map.contains_key closed_book x ≡ true
    stays_live x n h = ap is_some (get-remove_other (collected member_of cs) k x n) ∙ h

    giver_stays : IsBooked closed_book d.parent (giver_after_close g d.quota)
    giver_stays = grind (arith, kept.each d.parent g hg, closing, closing_number, stays_live, parent_other)

    other_stays : (x : ℕ) (c : Container) → x ≢ d.parent → get_or cs x None ≡ Some c → IsBooked closed_book x c
    other_stays x c n h =
        grind (arith, kept.each x c h, child_no, given_now, number_now, only_if, stays_live, parent_other)

    pub quotas-close : IsQuotas (slice_set (slice_set cs d.parent (Some (giver_after_close g d.quota))) k None)
    quotas-close = record {
      places = length-set (slice_set cs d.parent (Some (giver_after_close g d.quota))) k None ∙ length_giver ∙ kept.places;
      root = record {
        quota = kept.root.quota;
        is = ap (λ b. map.get b 0) book_after_close ∙ get-remove_other (collected member_of cs) k 0 (λ e. not_0 (sym e)) ∙ kept.root.is;
      };
      each = λ x c at. subst (λ (b : Book). IsBooked b x c) (sym book_after_close) (new x c (after_set (slice_set cs d.parent (Some (giver_after_close g d.quota))) k None x c (omega (arith, length_giver, k_in)) at));
    }
      where
        kept_at : (x y : ℕ) (c e : Container) → x ≡ y → Some e ≡ Some c → IsBooked closed_book y e → IsBooked closed_book x c
        kept_at x y c e i f h = subst (λ (n : ℕ). IsBooked closed_book n c) (sym i) (subst (λ (z : Container). IsBooked closed_book y z) (same_Some e c f) h)

        new : (x : ℕ) (c : Container) → ((x ≡ k) × (None ≡ Some c)) ⊎ ((x ≢ k) × (get_or (slice_set cs d.parent (Some (giver_after_close g d.quota))) x None ≡ Some c)) → IsBooked closed_book x c
        new x c (inl is) = absurd (let f : false ≡ true = ap is_some is.1 in cc)
        new x c (inr other) = elim (after_set cs d.parent (Some (giver_after_close g d.quota)) x c p_in other.1) [
          | inl is ↦ kept_at x d.parent c (giver_after_close g d.quota) is.0 is.1 giver_stays
          | inr rest ↦ other_stays x c rest.0 rest.1
        ]
