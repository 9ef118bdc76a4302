-- What each change of the machine's state does to its report.
use Rattle.std.proofs.Common.{◌≡◌, ◌≢◌, ℕ, ◌+◌, ◌-◌, ◌<◌, ◌≤◌, ◌==◌, Bool, true, false, cond, List, length, replicate, refl, sym, ap, subst, ◌∙◌, arith, inl, inr, Option, Some, None, is_some, unwrap_or}
use Rattle.std.specs.Prelude.{slice_set}
use Rattle.std.specs.Option.{option_map}
use Rattle.std.proofs.lemmas.Bool.{cases_eq}
use Rattle.std.proofs.lemmas.List.{get_or-set_same, get_or-set_other, get_or-replicate, length-replicate}
use Rattle.std.proofs.lemmas.List.FromFn.{fill_by_all, get_or-map-range_with_len, length-map-range_with_len}
use Rattle.std.proofs.Math.ListN.{length-set}
use Rattle.address_space.specs.Spaces.{Cell, Spaces, cost, is_of, at_page}
use Rattle.address_space.proofs.costs.Totals.{cost-without_other}
use Rattle.memory_report.specs.Reports.{row_from, row_of, report_of}
use Rattle.memory_report.specs.Rows.{at, with_used, with_given_back, child_row, opened, opened_by, closed, closed_by, HasRoom}
use Rattle.memory_report.specs.declared.rows.Row.{Row}
use Rattle.page_sharing.specs.Offers.{Offers}
use Rattle.page_words.proofs.MapLemmas.{same_itself, get-insert}
use Rattle.page_words.proofs.SetLemmas.{get-remove}
use Rattle.page_words.specs.FiniteMap as map
use Rattle.page_words.specs.FiniteMap.{nat_order}
use Rattle.process_table.proofs.BookLaws.{next_free, parents_in}
use Rattle.process_table.proofs.Sizes.{cost-no_pages}
use Rattle.process_table.specs.Calls.{after_exit}
use Rattle.process_table.specs.State.{State, open_with, is_live, room, as_container}
use Rattle.process_table.specs.WellFormed.{IsWellFormed}
use Rattle.quota_tree.proofs.BookFacts.{child_yes, child_no, get-insert_other}
use Rattle.quota_tree.proofs.Sums.{given-insert, given-none, given-remove}
use Rattle.quota_tree.specs.Book.{Book, Member, given, quota_of, next_number}
use borrow.Author.Tests.{eqb-true}
use Rattle.std.proofs.lemmas.Option.{same_Some}
use Rattle.page_words.proofs.OptionLemmas.{some_value, no_value}
use Rattle.page_words.proofs.SetLemmas.{get-remove_other}

-- the row of a process whose entry in the book this is, if there is one
abbrev row_by : State → ℕ → Option Member → Option Row
row_by s p x = option_map row_from (option_map (λ member. as_container s p member) x)

-- ---- Rows by number

pub at_report : (s : State) (q : ℕ) → q < 64 → at (report_of s) q ≡ row_of s q
unfolding report_of
at_report s q small = get_or-map-range_with_len (λ p. row_of s p) 0 64 q q None small (omega arith)

pub length_report : (s : State) → length (report_of s) ≡ 64
unfolding report_of
length_report s = length-map-range_with_len (λ p. row_of s p) 0 64

-- rows that say of each process what the state says are the report
pub report_is : (s : State) (rows : List (Option Row)) → length rows ≡ 64 → ((q : ℕ) → q < 64 → at rows q ≡ row_of s q) → rows ≡ report_of s
unfolding report_of
report_is s rows long each = fill_by_all (λ p. row_of s p) rows 64 None long each

-- ---- A process is charged anew

module _ (s : State) (T : Spaces) (O : Offers) (p used : ℕ) (small : p < 64) (own : used ≡ cost T p) (others : (q : ℕ) → q ≢ p → cost T q ≡ cost s.spaces q) where
  abbrev changed : State
  changed = record { spaces = T; book = s.book; offers = O }

  own_row : (x : Option Member) → option_map (λ (row : Row). record row { used = used }) (row_by s p x) ≡ row_by changed p x
  own_row None = refl
  own_row (Some m) = λ i. Some (record { parent = m.parent; quota = m.quota; used = own i; given = given s.book p })

  other_row : (q : ℕ) → q ≢ p → (x : Option Member) → row_by s q x ≡ row_by changed q x
  other_row q n None = refl
  other_row q n (Some m) = λ i. Some (record { parent = m.parent; quota = m.quota; used = sym (others q n) i; given = given s.book q })

  abbrev row_now : Option Row
  row_now = option_map (λ (row : Row). record row { used = used }) (at (report_of s) p)

  pub charged : with_used (report_of s) p used ≡ report_of changed
  charged = report_is changed (with_used (report_of s) p used) (length-set (report_of s) p row_now ∙ length_report s) (λ q lt. elim (cases_eq q p) [
    | inl is ↦ subst (λ k. at (with_used (report_of s) p used) k ≡ row_of changed k) (sym is)
        (let long = length_report s in
        get_or-set_same (report_of s) p row_now None (omega arith) ∙ ap (option_map (λ (row : Row). record row { used = used })) (at_report s p small) ∙ own_row (map.get s.book p))
    | inr n ↦ get_or-set_other (report_of s) p q row_now None n ∙ at_report s q lt ∙ other_row q n (map.get s.book q)
  ])

-- ---- A process gets a child

module _ (s : State) (p quota k : ℕ) (w : IsWellFormed s) (live : is_live s p ≡ true) (free_number : next_number s.book ≡ Some k)
    (T : Spaces) (used : ℕ) (own : cost T k ≡ used) (others : (q : ℕ) → q ≢ k → cost T q ≡ cost s.spaces q) where
  abbrev child : Member
  child = record { parent = p; quota = quota }

  abbrev book_more : Book
  book_more = map.insert s.book k child

  abbrev grown : State
  grown = record { spaces = T; book = book_more; offers = s.offers }

  free : map.contains_key s.book k ≡ false
  free = (next_free s.book k free_number).1

  number : k < 64
  number = (next_free s.book k free_number).0

  none : map.get s.book k ≡ None
  none = no_value (map.get s.book k) free

  live_apart : (q : ℕ) → is_live s q ≡ true → q ≢ k
  live_apart q h e = let f = free in let t : map.contains_key s.book k ≡ true = ap (map.contains_key s.book) (sym e) ∙ h in cc

  get-child : map.get book_more k ≡ Some child
  get-child = get-insert s.book k child k ∙ ap (λ b. cond b (Some child) (map.get s.book k)) (same_itself nat_order k)

  given_parent : given s.book p + quota ≡ given book_more p
  given_parent = let a = given-insert s.book k child none p ∙ ap (λ b. cond b quota 0 + given s.book p) (child_yes p k quota (λ e. live_apart 0 w.root (sym e))) in omega arith

  given_other : (q : ℕ) → q ≢ p → given s.book q ≡ given book_more q
  given_other q n = let a = given-insert s.book k child none q ∙ ap (λ b. cond b quota 0 + given s.book q) (child_no p q k quota (λ e. n (sym e))) in omega arith

  given_child : 0 ≡ given book_more k
  given_child = let a = given_other k (λ e. live_apart p live (sym e)) in let b = given-none s.book k none (parents_in s w) in omega arith

  giver : (m : Member) × (map.get s.book p ≡ Some m)
  giver = some_value (map.get s.book p) live

  giver_small : p < 64
  giver_small = (w.processes p giver.0 giver.1).0

  abbrev row_was : Row
  row_was = record { parent = giver.0.parent; quota = giver.0.quota; used = cost s.spaces p; given = given s.book p }

  row_was_is : at (report_of s) p ≡ Some row_was
  row_was_is = at_report s p giver_small ∙ ap (row_by s p) giver.1

  abbrev first : List (Option Row)
  first = slice_set (report_of s) p (Some (record row_was { given = given s.book p + quota }))

  abbrev both : List (Option Row)
  both = slice_set first k (Some (child_row p quota used))

  length_first : length first ≡ 64
  length_first = length-set (report_of s) p (Some (record row_was { given = given s.book p + quota })) ∙ length_report s

  child_is : at both k ≡ row_of grown k
  child_is =
      let long = length_first in
      let small = number in
      get_or-set_same first k (Some (child_row p quota used)) None (omega arith)
      ∙ (λ i. Some (record { parent = p; quota = quota; used = sym own i; given = given_child i }))
      ∙ ap (row_by grown k) (sym get-child)

  parent_is : at both p ≡ row_of grown p
  parent_is =
      let long = length_report s in
      let small = giver_small in
      get_or-set_other first k p (Some (child_row p quota used)) None (live_apart p live)
      ∙ get_or-set_same (report_of s) p (Some (record row_was { given = given s.book p + quota })) None (omega arith)
      ∙ (λ i. Some (record { parent = giver.0.parent; quota = giver.0.quota; used = sym (others p (live_apart p live)) i; given = given_parent i }))
      ∙ ap (row_by grown p) (sym (get-insert_other s.book k child p (live_apart p live) ∙ giver.1))

  same_row : (q : ℕ) → q ≢ p → q ≢ k → (x : Option Member) → row_by s q x ≡ row_by grown q x
  same_row q n other None = refl
  same_row q n other (Some m) = λ i. Some (record { parent = m.parent; quota = m.quota; used = sym (others q other) i; given = given_other q n i })

  pub opened-is : opened (report_of s) p quota k used ≡ report_of grown
  opened-is =
      ap (opened_by (report_of s) p quota k used) row_was_is
      ∙ report_is grown both (length-set first k (Some (child_row p quota used)) ∙ length_first) (λ q lt. elim (cases_eq q k) [
        | inl is ↦ subst (λ j. at both j ≡ row_of grown j) (sym is) child_is
        | inr other ↦ elim (cases_eq q p) [
          | inl is ↦ subst (λ j. at both j ≡ row_of grown j) (sym is) parent_is
          | inr n ↦
              get_or-set_other first k q (Some (child_row p quota used)) None other
              ∙ get_or-set_other (report_of s) p q (Some (record row_was { given = given s.book p + quota })) None n
              ∙ at_report s q lt ∙ same_row q n other (map.get s.book q) ∙ ap (row_by grown q) (sym (get-insert_other s.book k child q other))
        ]
      ])

-- a process that isn't live costs its directory
pub absent-cost : (s : State) (k : ℕ) → IsWellFormed s → next_number s.book ≡ Some k → cost s.spaces k ≡ 1
absent-cost s k w free_number = cost-no_pages s.spaces k no_slots
  where
    no_slots : (page : ℕ) → map.contains_key s.spaces (at_page k page) ≡ false
    no_slots page = by (map.get s.spaces (at_page k page)) refl
      where
        by : (x : Option Cell) → map.get s.spaces (at_page k page) ≡ x → is_some x ≡ false
        by None is = refl
        by (Some c) is = let f = (next_free s.book k free_number).1 in let t : map.contains_key s.book k ≡ true = w.owners (at_page k page) c is in cc

-- a process that spawns has room for what it gives
pub roomy : (s : State) (p quota : ℕ) → IsWellFormed s → is_live s p ≡ true → quota ≤ room s p → HasRoom (report_of s) p quota
roomy s p quota w live fits row is =
    let giver = some_value (map.get s.book p) live in
    let small = (w.processes p giver.0 giver.1).0 in
    let was : Row = record { parent = giver.0.parent; quota = giver.0.quota; used = cost s.spaces p; given = given s.book p } in
    let same : was ≡ row = same_Some was row (sym (at_report s p small ∙ ap (row_by s p) giver.1) ∙ is) in
    let of : quota_of s.book p ≡ giver.0.quota = ap (λ o. unwrap_or (option_map (λ (m : Member). m.quota) o) 0) giver.1 in
    let has = w.rooms p live in
    let most : given s.book p + quota ≤ giver.0.quota = omega arith in
    subst (λ (r : Row). r.given + quota ≤ r.quota) same most

-- ---- A process ends

module _ (s : State) (p : ℕ) (w : IsWellFormed s) (live : is_live s p ≡ true) (not_root : p ≢ 0) where
  leaver : (m : Member) × (map.get s.book p ≡ Some m)
  leaver = some_value (map.get s.book p) live

  leaver_small : p < 64
  leaver_small = (w.processes p leaver.0 leaver.1).0

  abbrev book_less : Book
  book_less = map.remove s.book p

  abbrev left : State
  left = after_exit s p

  abbrev parent : ℕ
  parent = leaver.0.parent

  abbrev returned : Row → Row
  returned row = record row { given = row.given - leaver.0.quota }

  abbrev row_left : Row
  row_left = record { parent = parent; quota = leaver.0.quota; used = cost s.spaces p; given = given s.book p }

  row_left_is : at (report_of s) p ≡ Some row_left
  row_left_is = at_report s p leaver_small ∙ ap (row_by s p) leaver.1

  abbrev back : List (Option Row)
  back = with_given_back (report_of s) parent leaver.0.quota

  abbrev parent_row : Option Row
  parent_row = option_map returned (at (report_of s) parent)

  length_back : length back ≡ 64
  length_back = length-set (report_of s) parent parent_row ∙ length_report s

  get-gone : map.get book_less p ≡ None
  get-gone = get-remove s.book p p ∙ ap (λ b. cond b None (map.get s.book p)) (same_itself nat_order p)

  same_cost : (q : ℕ) → q ≢ p → cost s.spaces q ≡ cost left.spaces q
  same_cost q n = sym (cost-without_other s.spaces (is_of p) q (λ page. other_pid q n))
    where
      other_pid : (q : ℕ) → q ≢ p → (q == p) ≡ false
      other_pid q n = by (q == p) refl
        where
          by : (b : Bool) → (q == p) ≡ b → b ≡ false
          by true is = absurd (n (eqb-true q p is))
          by false is = refl

  given_back : given s.book parent - leaver.0.quota ≡ given book_less parent
  given_back =
      let a = given-remove s.book p leaver.0 leaver.1 parent ∙ ap (λ b. cond b leaver.0.quota 0 + given book_less parent) (child_yes parent p leaver.0.quota not_root) in
      omega arith

  given_same : (q : ℕ) → q ≢ parent → given s.book q ≡ given book_less q
  given_same q n =
      let a = given-remove s.book p leaver.0 leaver.1 q ∙ ap (λ b. cond b leaver.0.quota 0 + given book_less q) (child_no parent q p leaver.0.quota (λ e. n (sym e))) in
      omega arith

  parent_row_is : parent ≢ p → (x : Option Member) → option_map returned (row_by s parent x) ≡ row_by left parent x
  parent_row_is n None = refl
  parent_row_is n (Some m) = λ i. Some (record { parent = m.parent; quota = m.quota; used = same_cost parent n i; given = given_back i })

  other_row_is : (q : ℕ) → q ≢ p → q ≢ parent → (x : Option Member) → row_by s q x ≡ row_by left q x
  other_row_is q n other None = refl
  other_row_is q n other (Some m) = λ i. Some (record { parent = m.parent; quota = m.quota; used = same_cost q n i; given = given_same q other i })

  parent_is_told : parent < 64 → parent ≢ p → at (slice_set back p None) parent ≡ row_of left parent
  parent_is_told lt n =
      let long = length_report s in
      get_or-set_other back p parent None None n ∙ get_or-set_same (report_of s) parent parent_row None (omega arith)
      ∙ ap (option_map returned) (at_report s parent lt) ∙ parent_row_is n (map.get s.book parent)
      ∙ ap (row_by left parent) (sym (get-remove_other s.book p parent n))

  pub closed-is : closed (report_of s) p ≡ report_of left
  closed-is =
      ap (closed_by (report_of s) p) row_left_is
      ∙ report_is left (slice_set back p None) (length-set back p None ∙ length_back) (λ q lt. elim (cases_eq q p) [
        | inl is ↦ subst (λ j. at (slice_set back p None) j ≡ row_of left j) (sym is)
            (let long = length_back in let small = leaver_small in get_or-set_same back p None None (omega arith) ∙ ap (row_by left p) (sym get-gone))
        | inr n ↦ elim (cases_eq q parent) [
          | inl is ↦ subst (λ j. at (slice_set back p None) j ≡ row_of left j) (sym is) (parent_is_told (subst (λ j. j < 64) is lt) (λ e. n (is ∙ e)))
          | inr other ↦
              get_or-set_other back p q None None n ∙ get_or-set_other (report_of s) parent q parent_row None other
              ∙ at_report s q lt ∙ other_row_is q n other (map.get s.book q) ∙ ap (row_by left q) (sym (get-remove_other s.book p q n))
        ]
      ])

-- ---- The opening

abbrev pub root_row : ℕ → Row
root_row n = record { parent = 0; quota = n - 1; used = 1; given = 0 }

abbrev pub blank : List (Option Row)
blank = replicate 64 None

length_blank : length blank ≡ 64
length_blank = let none : Option Row = None in length-replicate 64 none

pub opening-is : (n : ℕ) → slice_set blank 0 (Some (root_row n)) ≡ report_of (open_with n)
opening-is n = report_is (open_with n) (slice_set blank 0 (Some (root_row n))) (length-set blank 0 (Some (root_row n)) ∙ length_blank) (λ q lt. elim (cases_eq q 0) [
  | inl is ↦ subst (λ j. at (slice_set blank 0 (Some (root_row n))) j ≡ row_of (open_with n) j) (sym is) (get_or-set_same blank 0 (Some (root_row n)) None (omega (arith, length_blank)))
  | inr other ↦
      get_or-set_other blank 0 q (Some (root_row n)) None other ∙ get_or-replicate 64 q None None lt
      ∙ ap (row_by (open_with n) q) (sym (get-insert_other map.empty 0 (record { parent = 0; quota = n - 1 }) q other))
])

-- ---- Told row by row

-- one row more is told
pub told_more : (s : State) (rows new : List (Option Row)) (n p : ℕ) (row : Option Row) → n < 64 → p ≡ n → length rows ≡ 64 → ((q : ℕ) → q < n → at rows q ≡ row_of s q) → row ≡ row_of s p → new ≡ slice_set rows p row
    → (length new ≡ 64) × ((q : ℕ) → q < n + 1 → at new q ≡ row_of s q)
told_more s rows new n p row small same long before is made = (ap length made ∙ length-set rows p row ∙ long, (λ q lt. ap (λ l. at l q) made ∙ by q lt))
  where
    by : (q : ℕ) → q < n + 1 → at (slice_set rows p row) q ≡ row_of s q
    by q lt = elim (cases_eq q p) [
      | inl here ↦ subst (λ j. at (slice_set rows p row) j ≡ row_of s j) (sym here) (get_or-set_same rows p row None (omega arith) ∙ is)
      | inr other ↦ get_or-set_other rows p q row None other ∙ before q (omega arith)
    ]
