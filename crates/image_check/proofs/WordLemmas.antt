-- The tests of words decide which words the kernel writes.
use Rattle.std.proofs.Common.{◌≡◌, ℕ, ◌≤◌, Bool, true, false, ◌&&◌, not, List, [], ◌∷◌, refl, sym, ap, ◌∙◌}
use Rattle.std.specs.Prelude.{nat_le, ◌==◌, if◌then◌else◌, MatchBool}
use Rattle.std.proofs.lemmas.Bool.{and_parts, and_from, not-true, eqb-true, eq-eqb, leb-true, le-leb}
use Rattle.page_words.specs.Words.{flag, frame_number, is_present, is_writable, is_user, is_accessed, is_dirty, has_may, is_lazy, is_granted, NamesTable, NamesPage}
use Rattle.address_space.specs.ImageWords.{NamesRealPage, NamesPageIn}
use Rattle.image_check.specs.WordTests.{are_clear, only_with, are_equal, is_lazy_or_real, names_table, names_real_page, names_any_page, names_page, TestsDecide}

only : (a b : Bool) → only_with a b ≡ true → a ≡ true → b ≡ true
only true b h e = h
only false b h e = cc

only-from : (a b : Bool) → (a ≡ true → b ≡ true) → only_with a b ≡ true
only-from true b h = h refl
only-from false b h = refl

-- the first of some bits that are clear, and the others
first-clear : (word k : ℕ) (ks : List ℕ) → are_clear word (k ∷ ks) ≡ true → (flag word k ≡ false) × (are_clear word ks ≡ true)
first-clear word k ks h = let a = and_parts (not (flag word k)) (are_clear word ks) h in (not-true (flag word k) a.0, a.1)

clear-first : (word k : ℕ) (ks : List ℕ) → flag word k ≡ false → are_clear word ks ≡ true → are_clear word (k ∷ ks) ≡ true
clear-first word k ks f h = and_from (not (flag word k)) (are_clear word ks) (ap not f) h

table-true : (word : ℕ) → names_table word ≡ true → NamesTable word
table-true word h =
    let a4 = and_parts (nat_le 1 (frame_number word) && is_present word && is_writable word && is_user word) (are_clear word (3 ∷ 4 ∷ 6 ∷ 7 ∷ 8 ∷ 9 ∷ 10 ∷ 11 ∷ [])) h in
    let a3 = and_parts (nat_le 1 (frame_number word) && is_present word && is_writable word) (is_user word) a4.0 in
    let a2 = and_parts (nat_le 1 (frame_number word) && is_present word) (is_writable word) a3.0 in
    let a1 = and_parts (nat_le 1 (frame_number word)) (is_present word) a2.0 in
    let b3 = first-clear word 3 (4 ∷ 6 ∷ 7 ∷ 8 ∷ 9 ∷ 10 ∷ 11 ∷ []) a4.1 in
    let b4 = first-clear word 4 (6 ∷ 7 ∷ 8 ∷ 9 ∷ 10 ∷ 11 ∷ []) b3.1 in
    let b6 = first-clear word 6 (7 ∷ 8 ∷ 9 ∷ 10 ∷ 11 ∷ []) b4.1 in
    let b7 = first-clear word 7 (8 ∷ 9 ∷ 10 ∷ 11 ∷ []) b6.1 in
    let b8 = first-clear word 8 (9 ∷ 10 ∷ 11 ∷ []) b7.1 in
    let b9 = first-clear word 9 (10 ∷ 11 ∷ []) b8.1 in
    let b10 = first-clear word 10 (11 ∷ []) b9.1 in
    let b11 = first-clear word 11 [] b10.1 in
    record { frame = leb-true 1 (frame_number word) a1.0; present = a1.1; writable = a2.1; user = a3.1; bit_3 = b3.0; bit_4 = b4.0; bit_6 = b6.0; bit_7 = b7.0; bit_8 = b8.0; bit_9 = b9.0; bit_10 = b10.0; bit_11 = b11.0 }

table-from : (word : ℕ) → NamesTable word → names_table word ≡ true
table-from word h = (and_from (nat_le 1 (frame_number word) && is_present word && is_writable word && is_user word) (are_clear word (3 ∷ 4 ∷ 6 ∷ 7 ∷ 8 ∷ 9 ∷ 10 ∷ 11 ∷ [])) (and_from (nat_le 1 (frame_number word) && is_present word && is_writable word) (is_user word) (and_from (nat_le 1 (frame_number word) && is_present word) (is_writable word) (and_from (nat_le 1 (frame_number word)) (is_present word) (le-leb 1 (frame_number word) h.frame) h.present) h.writable) h.user) (clear-first word 3 (4 ∷ 6 ∷ 7 ∷ 8 ∷ 9 ∷ 10 ∷ 11 ∷ []) h.bit_3 (clear-first word 4 (6 ∷ 7 ∷ 8 ∷ 9 ∷ 10 ∷ 11 ∷ []) h.bit_4 (clear-first word 6 (7 ∷ 8 ∷ 9 ∷ 10 ∷ 11 ∷ []) h.bit_6 (clear-first word 7 (8 ∷ 9 ∷ 10 ∷ 11 ∷ []) h.bit_7 (clear-first word 8 (9 ∷ 10 ∷ 11 ∷ []) h.bit_8 (clear-first word 9 (10 ∷ 11 ∷ []) h.bit_9 (clear-first word 10 (11 ∷ []) h.bit_10 (clear-first word 11 [] h.bit_11 refl)))))))))

real-true : (word : ℕ) → names_real_page word ≡ true → NamesRealPage word
real-true word h =
    let a5 = and_parts (nat_le 1 (frame_number word) && is_present word && is_user word && are_clear word (3 ∷ 4 ∷ 7 ∷ 8 ∷ 10 ∷ 11 ∷ []) && only_with (is_writable word) (has_may word)) (only_with (is_dirty word) (is_accessed word)) h in
    let a4 = and_parts (nat_le 1 (frame_number word) && is_present word && is_user word && are_clear word (3 ∷ 4 ∷ 7 ∷ 8 ∷ 10 ∷ 11 ∷ [])) (only_with (is_writable word) (has_may word)) a5.0 in
    let a3 = and_parts (nat_le 1 (frame_number word) && is_present word && is_user word) (are_clear word (3 ∷ 4 ∷ 7 ∷ 8 ∷ 10 ∷ 11 ∷ [])) a4.0 in
    let a2 = and_parts (nat_le 1 (frame_number word) && is_present word) (is_user word) a3.0 in
    let a1 = and_parts (nat_le 1 (frame_number word)) (is_present word) a2.0 in
    let b3 = first-clear word 3 (4 ∷ 7 ∷ 8 ∷ 10 ∷ 11 ∷ []) a3.1 in
    let b4 = first-clear word 4 (7 ∷ 8 ∷ 10 ∷ 11 ∷ []) b3.1 in
    let b7 = first-clear word 7 (8 ∷ 10 ∷ 11 ∷ []) b4.1 in
    let b8 = first-clear word 8 (10 ∷ 11 ∷ []) b7.1 in
    let b10 = first-clear word 10 (11 ∷ []) b8.1 in
    let b11 = first-clear word 11 [] b10.1 in
    record { frame = leb-true 1 (frame_number word) a1.0; present = a1.1; user = a2.1; bit_3 = b3.0; bit_4 = b4.0; bit_7 = b7.0; bit_8 = b8.0; bit_10 = b10.0; bit_11 = b11.0; right = only (is_writable word) (has_may word) a4.1; touched = only (is_dirty word) (is_accessed word) a5.1 }

real-from : (word : ℕ) → NamesRealPage word → names_real_page word ≡ true
real-from word h = (and_from (nat_le 1 (frame_number word) && is_present word && is_user word && are_clear word (3 ∷ 4 ∷ 7 ∷ 8 ∷ 10 ∷ 11 ∷ []) && only_with (is_writable word) (has_may word)) (only_with (is_dirty word) (is_accessed word)) (and_from (nat_le 1 (frame_number word) && is_present word && is_user word && are_clear word (3 ∷ 4 ∷ 7 ∷ 8 ∷ 10 ∷ 11 ∷ [])) (only_with (is_writable word) (has_may word)) (and_from (nat_le 1 (frame_number word) && is_present word && is_user word) (are_clear word (3 ∷ 4 ∷ 7 ∷ 8 ∷ 10 ∷ 11 ∷ [])) (and_from (nat_le 1 (frame_number word) && is_present word) (is_user word) (and_from (nat_le 1 (frame_number word)) (is_present word) (le-leb 1 (frame_number word) h.frame) h.present) h.user) (clear-first word 3 (4 ∷ 7 ∷ 8 ∷ 10 ∷ 11 ∷ []) h.bit_3 (clear-first word 4 (7 ∷ 8 ∷ 10 ∷ 11 ∷ []) h.bit_4 (clear-first word 7 (8 ∷ 10 ∷ 11 ∷ []) h.bit_7 (clear-first word 8 (10 ∷ 11 ∷ []) h.bit_8 (clear-first word 10 (11 ∷ []) h.bit_10 (clear-first word 11 [] h.bit_11 refl))))))) (only-from (is_writable word) (has_may word) h.right)) (only-from (is_dirty word) (is_accessed word) h.touched))

equal : (a b : Bool) → are_equal a b ≡ true → a ≡ b
equal true b h = sym h
equal false b h = sym (not-true b h)

equal-from : (a b : Bool) → a ≡ b → are_equal a b ≡ true
equal-from true b h = sym h
equal-from false b h = ap not (sym h)

-- what a lazy or a real page's word says of its frame
record Placed (word : ℕ) : Type 0 where
  frame : is_lazy word ≡ false → 1 ≤ frame_number word
  zero : is_lazy word ≡ true → frame_number word ≡ 0
  clean : is_lazy word ≡ true → is_dirty word ≡ false

placed-true : (word : ℕ) → is_lazy_or_real word ≡ true → Placed word
placed-true word h = by (is_lazy word) refl h
  where
    by : (b : Bool) → is_lazy word ≡ b → (if b then (frame_number word == 0) && not (is_dirty word) else nat_le 1 (frame_number word)) ≡ true → Placed word
    by true e h =
        let a = and_parts (frame_number word == 0) (not (is_dirty word)) h in
        record { frame = λ f. absurd (let n = sym f ∙ e in cc); zero = λ _. eqb-true (frame_number word) 0 a.0; clean = λ _. not-true (is_dirty word) a.1 }
    by false e h = record { frame = λ _. leb-true 1 (frame_number word) h; zero = λ f. absurd (let n = sym f ∙ e in cc); clean = λ f. absurd (let n = sym f ∙ e in cc) }

placed-from : (word : ℕ) → Placed word → is_lazy_or_real word ≡ true
placed-from word p = by (is_lazy word) refl
  where
    by : (b : Bool) → is_lazy word ≡ b → (if b then (frame_number word == 0) && not (is_dirty word) else nat_le 1 (frame_number word)) ≡ true
    by true e = and_from (frame_number word == 0) (not (is_dirty word)) (eq-eqb (frame_number word) 0 (p.zero e)) (ap not (p.clean e))
    by false e = le-leb 1 (frame_number word) (p.frame e)

any-true : (word : ℕ) → names_any_page word ≡ true → NamesPage word
any-true word h =
    let first = is_lazy_or_real word && is_present word && is_user word && are_clear word (3 ∷ 4 ∷ 7 ∷ 8 ∷ []) in
    let second = are_equal (is_writable word) (is_granted word && not (is_lazy word)) in
    let a6 = and_parts (first && second && only_with (is_granted word) (has_may word)) (only_with (is_dirty word) (is_accessed word)) h in
    let a5 = and_parts (first && second) (only_with (is_granted word) (has_may word)) a6.0 in
    let a4 = and_parts first second a5.0 in
    let a3 = and_parts (is_lazy_or_real word && is_present word && is_user word) (are_clear word (3 ∷ 4 ∷ 7 ∷ 8 ∷ [])) a4.0 in
    let a2 = and_parts (is_lazy_or_real word && is_present word) (is_user word) a3.0 in
    let a1 = and_parts (is_lazy_or_real word) (is_present word) a2.0 in
    let b3 = first-clear word 3 (4 ∷ 7 ∷ 8 ∷ []) a3.1 in
    let b4 = first-clear word 4 (7 ∷ 8 ∷ []) b3.1 in
    let b7 = first-clear word 7 (8 ∷ []) b4.1 in
    let b8 = first-clear word 8 [] b7.1 in
    let p = placed-true word a1.0 in
    record { frame = p.frame; zero = p.zero; clean = p.clean; present = a1.1; writable = equal (is_writable word) (is_granted word && not (is_lazy word)) a4.1; user = a2.1; bit_3 = b3.0; bit_4 = b4.0; bit_7 = b7.0; bit_8 = b8.0; right = only (is_granted word) (has_may word) a5.1; touched = only (is_dirty word) (is_accessed word) a6.1 }

any-from : (word : ℕ) → NamesPage word → names_any_page word ≡ true
any-from word h =
    let first = is_lazy_or_real word && is_present word && is_user word && are_clear word (3 ∷ 4 ∷ 7 ∷ 8 ∷ []) in
    let second = are_equal (is_writable word) (is_granted word && not (is_lazy word)) in
    let bits = clear-first word 3 (4 ∷ 7 ∷ 8 ∷ []) h.bit_3 (clear-first word 4 (7 ∷ 8 ∷ []) h.bit_4 (clear-first word 7 (8 ∷ []) h.bit_7 (clear-first word 8 [] h.bit_8 refl))) in
    and_from (first && second && only_with (is_granted word) (has_may word)) (only_with (is_dirty word) (is_accessed word))
    (and_from (first && second) (only_with (is_granted word) (has_may word))
    (and_from first second
    (and_from (is_lazy_or_real word && is_present word && is_user word) (are_clear word (3 ∷ 4 ∷ 7 ∷ 8 ∷ []))
    (and_from (is_lazy_or_real word && is_present word) (is_user word)
    (and_from (is_lazy_or_real word) (is_present word) (placed-from word (record { frame = h.frame; zero = h.zero; clean = h.clean })) h.present)
    h.user)
    bits)
    (equal-from (is_writable word) (is_granted word && not (is_lazy word)) h.writable))
    (only-from (is_granted word) (has_may word) h.right))
    (only-from (is_dirty word) (is_accessed word) h.touched)

page-true : (version word : ℕ) → names_page version word ≡ true → NamesPageIn version word
page-true version word h = by (version == 2) h
  where
    by : (b : Bool) → (if b then names_any_page word else names_real_page word) ≡ true → MatchBool b (NamesPage word) (NamesRealPage word)
    by true h = any-true word h
    by false h = real-true word h

page-from : (version word : ℕ) → NamesPageIn version word → names_page version word ≡ true
page-from version word h = by (version == 2) h
  where
    by : (b : Bool) → MatchBool b (NamesPage word) (NamesRealPage word) → (if b then names_any_page word else names_real_page word) ≡ true
    by true h = any-from word h
    by false h = real-from word h

pub tests_decide : TestsDecide
tests_decide = (λ word. (table-true word, table-from word), λ version word. (page-true version word, page-from version word))

-- a word that a kernel writes is 0 or present
pub names-present : (version word : ℕ) → NamesPageIn version word → is_present word ≡ true
names-present version word h = by (version == 2) h
  where
    by : (b : Bool) → MatchBool b (NamesPage word) (NamesRealPage word) → is_present word ≡ true
    by true h = h.present
    by false h = h.present
