-- What a count says of the numbers that pass, where one of them is known.
use Rattle.page_map.proofs.Prelude
use Prelude.{◌≡◌, ◌≢◌, ℕ, zero, suc, ◌+◌, ◌*◌, ◌<◌, ◌≤◌, Bool, true, false, List, length, refl, ap, sym, ◌∙◌, arith, inl, inr, Some, is_some, cases_eq, slot_number, index_number, IsUserPage, is_present, frame_number, frame_bytes, word_in, Frames, dir_word, table_of, entry_at, IsPageMap, TablesApart, counted, count_range, IsLastEntry, HasOtherEntry}
use Rattle.page_map.proofs.PageLemmas.{count-table, mapped_in_table, unmapped_without_table}
use Rattle.page_map.proofs.MapSteps.{with_word_at, word_own, word_other}
use Rattle.page_map.proofs.MapChanges.{table_there, user_slot}

not_counted : (b : Bool) → counted b ≡ 0 → b ≡ false
not_counted b h = grind arith

one_counted : (b : Bool) → b ≡ true → counted b ≡ 1
one_counted b h = ap counted h

-- where none is counted, none passes
pub count_none : (p : ℕ → Bool) (first count i : ℕ) → count_range p first count ≡ 0 → first ≤ i → i < first + count → p i ≡ false
unfolding count_range
count_none p first zero i h low high = absurd (omega arith)
count_none p first (suc count) i h low high = elim (cases_eq i first) [
  | inl same ↦ ap p same ∙ not_counted (p first) (omega (arith, h))
  | inr differ ↦ count_none p (first + 1) count i (omega (arith, h)) (omega arith) (omega arith)
]

-- where one passes, some are counted
pub count_some : (p : ℕ → Bool) (first count i : ℕ) → first ≤ i → i < first + count → p i ≡ true → 1 ≤ count_range p first count
count_some p first count i low high passes = elim (cases_eq (count_range p first count) 0) [
  | inl none ↦ absurd (let k = count_none p first count i none low high in cc)
  | inr some ↦ omega (arith, some)
]

-- where some are counted, one passes
pub one_of_some : (p : ℕ → Bool) (first count : ℕ) → count_range p first count ≢ 0 → (i : ℕ) × (first ≤ i) × (i < first + count) × (p i ≡ true)
unfolding count_range
one_of_some p first zero h = absurd (h refl)
one_of_some p first (suc count) h = by (p first) refl (one_of_some p (first + 1) count)
  where
    by : (b : Bool) → p first ≡ b → (count_range p (first + 1) count ≢ 0 → (i : ℕ) × (first + 1 ≤ i) × (i < first + 1 + count) × (p i ≡ true)) → (i : ℕ) × (first ≤ i) × (i < first + suc count) × (p i ≡ true)
    by k is rest = grind arith

-- where one alone is counted, no other passes
pub one_alone : (p : ℕ → Bool) (first count k i : ℕ) → count_range p first count ≡ 1 → first ≤ k → k < first + count → p k ≡ true → first ≤ i → i < first + count → i ≢ k → p i ≡ false
unfolding count_range
one_alone p first zero k i h low high passes low_i high_i apart = absurd (omega arith)
one_alone p first (suc count) k i h low high passes low_i high_i apart = elim (cases_eq k first) [
  | inl same ↦
      let one : counted (p first) ≡ 1 = one_counted (p first) (ap p (sym same) ∙ passes) in
      let later : i ≢ first = λ e. apart (e ∙ sym same) in
      count_none p (first + 1) count i (omega (arith, h, one)) (omega (arith, later)) (omega arith)
  | inr differ ↦
      let some = count_some p (first + 1) count k (omega arith) (omega arith) passes in
      elim (cases_eq i first) [
        | inl here ↦ ap p here ∙ not_counted (p first) (omega (arith, h, some))
        | inr later ↦ one_alone p (first + 1) count k i (let c = counted_few (p first) in omega (arith, h, some, c)) (omega arith) (omega arith) passes (omega arith) (omega arith) apart
      ]
]
  where
    counted_few : (b : Bool) → counted b ≤ 1
    counted_few known = grind arith

-- where not one alone is counted, another passes
pub another_one : (p : ℕ → Bool) (first count k : ℕ) → count_range p first count ≢ 1 → first ≤ k → k < first + count → p k ≡ true → (i : ℕ) × (first ≤ i) × (i < first + count) × (i ≢ k) × (p i ≡ true)
unfolding count_range
another_one p first zero k h low high passes = absurd (omega arith)
another_one p first (suc count) k h low high passes = elim (cases_eq k first) [
  | inl same ↦ grind (arith, one_counted, one_of_some)
  | inr differ ↦ by (p first) refl differ (λ few. another_one p (first + 1) count k few (omega arith) (omega arith) passes)
]
  where
    by : (b : Bool) → p first ≡ b → k ≢ first → (count_range p (first + 1) count ≢ 1 → (i : ℕ) × (first + 1 ≤ i) × (i < first + 1 + count) × (i ≢ k) × (p i ≡ true)) → (i : ℕ) × (first ≤ i) × (i < first + suc count) × (i ≢ k) × (p i ≡ true)
    by passing is differ rest = grind arith

-- a page that is mapped has a table
pub table_mapped : (m : Frames) (d page : ℕ) → is_some (entry_at m d page) ≡ true → is_present (dir_word m d (slot_number page)) ≡ true
table_mapped m d page mapped = grind (arith, unmapped_without_table)

module _ (bytes : List ℕ) (d page mapped : ℕ) (P : IsPageMap bytes d) (user : IsUserPage page) (here : is_some (entry_at (frame_bytes bytes) d page) ≡ true)
    (count : mapped ≡ count_range (λ other. is_some (entry_at (frame_bytes bytes) d other)) (1024 * slot_number page) 1024) where
  abbrev m : Frames
  m = frame_bytes bytes

  abbrev t : ℕ
  t = frame_number (dir_word m d (slot_number page))

  there : table_of m d (slot_number page) ≡ Some t
  there = table_there m d (slot_number page) (table_mapped m d page here)

  T : TablesApart (length bytes) m d
  T = P

  words : mapped ≡ count_range (λ i. is_present (word_in (m t) i)) 0 1024
  words = count ∙ sym (count-table m d (slot_number page) t there)

  own : is_present (word_in (m t) (index_number page)) ≡ true
  own = sym (mapped_in_table m d (slot_number page) t page refl there) ∙ here

  other_word : (i : ℕ) → i < 1024 → i ≢ index_number page → word_in (with_word_at m t page 0 t) i ≡ word_in (m t) i
  other_word i l n = word_other (length bytes) m d page t 0 T (user_slot page user) there (omega arith) (slot_number page) t i (user_slot page user) l there (λ a b. n b)

  pub last_entry : mapped ≡ 1 → IsLastEntry m t page
  last_entry one i l = elim (cases_eq i (index_number page)) [
    | inl same ↦ ap (λ k. is_present (word_in (with_word_at m t page 0 t) k)) same ∙ ap is_present (word_own (length bytes) m d page t 0 T (user_slot page user) there (omega arith))
    | inr differ ↦ ap is_present (other_word i l differ) ∙ one_alone (λ i. is_present (word_in (m t) i)) 0 1024 (index_number page) i (sym words ∙ one) (omega arith) (omega arith) own (omega arith) (omega arith) differ
  ]

  pub other_entry : mapped ≢ 1 → HasOtherEntry m t page
  other_entry more =
      let r = another_one (λ i. is_present (word_in (m t) i)) 0 1024 (index_number page) (λ one. more (words ∙ one)) (omega arith) (omega arith) own in
      let high : r.0 < 1024 = (let h = r.2 in omega arith) in
      (r.0, high, ap is_present (other_word r.0 high r.3) ∙ r.4)
