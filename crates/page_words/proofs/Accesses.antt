-- The bytes that an access covers, by the pages that it touches.
use Rattle.std.proofs.Common.{◌≡◌, ℕ, zero, suc, ◌+◌, ◌-◌, ◌/◌, ◌%◌, ◌<◌, ◌≤◌, Bool, false, cond, ◌∷◌, ◌++◌, refl, ap}
use Rattle.std.proofs.Common.{◌∙◌, arith, Some, None, nat_le}
use Rattle.std.specs.Prelude.{find}
use Rattle.std.specs.List.{range_with_len}
use Rattle.std.specs.Option.{option_and_then}
use Rattle.std.proofs.lemmas.List.Folds.{find-append}
use Rattle.std.proofs.lemmas.Bool.{leb-true, leb-false}
use Rattle.page_words.specs.Addresses.{page_number, offset_number, start_number, covered, second_page, byte_count}
use Rattle.page_words.specs.declared.addresses.Size.{Size}
use Rattle.page_words.specs.declared.addresses.Size.TheVariants.{One, Two, Four}

pub range_split : (a k m : ℕ) → range_with_len a (k + m) ≡ range_with_len a k ++ range_with_len (a + k) m
range_split a zero m = grind arith
range_split a (suc k) m =
    let n : suc k + m ≡ suc (k + m) = omega arith in
    let e : a + 1 + k ≡ a + suc k = omega arith in
    ap (range_with_len a) n ∙ ap (λ xs. a ∷ xs) (range_split (a + 1) k m ∙ ap (λ x. range_with_len (a + 1) k ++ range_with_len x m) e)

-- ---- Whether an access stays in its page

pub stays : (address : ℕ) (size : Size) → second_page address size ≡ None → offset_number address + byte_count size ≤ 4096
stays address size none = grind (arith, nat_le, leb-true)

pub record Crosses (address : ℕ) (size : Size) (page : ℕ) : Type 0 where
  pub next : page ≡ page_number address + 1
  pub past : 4096 < offset_number address + byte_count size

pub crosses : (address : ℕ) (size : Size) (page : ℕ) → second_page address size ≡ Some page → Crosses address size page
crosses address size page some = grind (arith, nat_le, leb-false)

pub some_bytes : (size : Size) → (m : ℕ) × (byte_count size ≡ suc m) × (m < 4)
some_bytes One = (0, refl, omega arith)
some_bytes Two = (1, refl, omega arith)
some_bytes Four = (3, refl, omega arith)

-- the pages of the bytes that an access covers
pub page_stays : (a i : ℕ) → a % 4096 + i < 4096 → (a + i) / 4096 ≡ a / 4096
page_stays a i h = omega (arith, h)

pub page_next : (a i : ℕ) → 4096 ≤ a % 4096 + i → i < 4096 → (a + i) / 4096 ≡ a / 4096 + 1
page_next a i h l = omega (arith, h, l)

-- ---- The first byte whose page passes a test

module _ (test : ℕ → Bool) where
  none_in : (a n page : ℕ) → test page ≡ false → ((i : ℕ) → i < n → page_number (a + i) ≡ page) → find (λ x. test (page_number x)) (range_with_len a n) ≡ None
  none_in a zero page fails is = refl
  none_in a (suc n) page fails is =
      let e : a ≡ a + 0 = omega arith in
      let h : test (page_number a) ≡ false = ap test (ap page_number e ∙ is 0 (omega arith)) ∙ fails in
      ap (λ b. cond b (Some a) (find (λ x. test (page_number x)) (range_with_len (a + 1) n))) h
      ∙ none_in (a + 1) n page fails (λ i l. let f : a + 1 + i ≡ a + suc i = omega arith in ap page_number f ∙ is (suc i) (omega (arith, l)))

  -- of bytes in one page, the first if any
  in_one : (a m page : ℕ) → ((i : ℕ) → i < suc m → page_number (a + i) ≡ page) → find (λ x. test (page_number x)) (range_with_len a (suc m)) ≡ cond (test page) (Some a) None
  in_one a m page is = grind (arith, none_in)

  pub first_by_page : (address : ℕ) (size : Size)
      → find (λ a. test (page_number a)) (covered address size)
      ≡ cond (test (page_number address)) (Some address) (option_and_then (λ page. cond (test page) (Some (start_number page)) None) (second_page address size))
  first_by_page address size = grind (arith, some_bytes, stays, in_one, page_stays, crosses, range_split, find-append)
