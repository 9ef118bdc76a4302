-- The first field that breaks its rule, looked for from the front.
use Rattle.std.proofs.Common.{◌≡◌, ℕ, suc, ◌+◌, ◌*◌, ◌-◌, ◌<◌, ◌≤◌, Bool, true, false, List, ◌++◌, refl, sym, ap, ◌∙◌, arith, Option, Some, None}
use Rattle.std.specs.Prelude.{is_some}
use Rattle.phys_memory.specs.Bytes.{word_at}
use Rattle.memory_image.specs.Tests.{first_failing}
use Rattle.memory_image.proofs.FieldLemmas.{append_some, append_none}
use Rattle.wide_image.specs.Offers.{rank}
use Rattle.wide_image.specs.Faults.{first_of, offer_fields, bad_offer, frame_fields, bad_frame}

pub none_first : {C : Type 0} (x y : Option C) → is_some x ≡ false → first_of x y ≡ y
none_first None y h = refl
none_first (Some c) y h = cc

pub some_first : {C : Type 0} (x y : Option C) → is_some x ≡ true → first_of x y ≡ x
some_first None y h = cc
some_first (Some c) y h = refl

-- neither of two is there where the first of them isn't
pub neither : {C : Type 0} (x y : Option C) → first_of x y ≡ None → (x ≡ None) × (y ≡ None)
neither None y h = (refl, h)
neither (Some c) y h = cc

pub first_then : {C : Type 0} (x a y : Option C) → x ≡ a → is_some x ≡ true → x ≡ first_of a y
first_then x a y is some = is ∙ sym (some_first a y (sym (ap is_some is) ∙ some))

-- the first of two lists' tests
pub front_bad : (xs ys : List (Bool × ℕ)) (x : Option ℕ) (c : ℕ) → x ≡ first_failing xs → x ≡ Some c → Some c ≡ first_failing (xs ++ ys)
front_bad xs ys x c is e = sym (append_some xs ys c (sym is ∙ e))

pub front_good : (xs ys : List (Bool × ℕ)) (x y : Option ℕ) → x ≡ first_failing xs → x ≡ None → y ≡ first_failing ys → y ≡ first_failing (xs ++ ys)
front_good xs ys x y is e same = same ∙ sym (append_none xs ys (sym is ∙ e))

-- ---- Offers

module _ (bytes : List ℕ) (count : ℕ) where
  abbrev pub offers_from : ℕ → ℕ → Option ℕ
  offers_from from j = bad_offer bytes from (1556 + 16 * j) (count - j)

  abbrev pub rank_after : ℕ → ℕ
  rank_after at = rank (word_at bytes at) (word_at bytes (at + 4)) (word_at bytes (at + 8)) + 1

  pub offers_step : (from j : ℕ) → j < count
      → offers_from from j ≡ first_of (first_failing (offer_fields bytes from (1556 + 16 * j))) (offers_from (rank_after (1556 + 16 * j)) (j + 1))
  offers_step from j low =
      ap (bad_offer bytes from (1556 + 16 * j)) (let e : count - j ≡ suc (count - (j + 1)) = omega arith in e)
      ∙ ap (λ at. first_of (first_failing (offer_fields bytes from (1556 + 16 * j))) (bad_offer bytes (rank_after (1556 + 16 * j)) at (count - (j + 1)))) (let e : 1556 + 16 * j + 16 ≡ 1556 + 16 * (j + 1) = omega arith in e)

  pub offers_begin : bad_offer bytes 0 1556 count ≡ offers_from 0 0
  offers_begin = ap (bad_offer bytes 0 1556) (let e : count ≡ count - 0 = omega arith in e)

  pub offers_go_on : (total : Option ℕ) (from j : ℕ) → j < count → total ≡ offers_from from j → is_some (first_failing (offer_fields bytes from (1556 + 16 * j))) ≡ false → total ≡ offers_from (rank_after (1556 + 16 * j)) (j + 1)
  offers_go_on total from j low h none = h ∙ offers_step from j low ∙ none_first _ _ none

  pub offers_stop : (total x : Option ℕ) (from j : ℕ) → j < count → total ≡ offers_from from j → x ≡ first_failing (offer_fields bytes from (1556 + 16 * j)) → is_some x ≡ true → x ≡ total
  offers_stop total x from j low h is some = first_then x _ (offers_from (rank_after (1556 + 16 * j)) (j + 1)) is some ∙ sym (h ∙ offers_step from j low)

  pub offers_end : (total : Option ℕ) (from j : ℕ) → count ≤ j → total ≡ offers_from from j → None ≡ total
  offers_end total from j high h = sym (h ∙ ap (bad_offer bytes from (1556 + 16 * j)) (let e : count - j ≡ 0 = omega arith in e))

-- ---- Frames

module _ (bytes : List ℕ) (n start count : ℕ) where
  abbrev pub frames_from : ℕ → ℕ → Option ℕ
  frames_from from j = bad_frame bytes n from (start + 4116 * j) (count - j)

  pub frames_step : (from j : ℕ) → j < count
      → frames_from from j ≡ first_of (first_failing (frame_fields bytes n from (start + 4116 * j))) (frames_from (word_at bytes (start + 4116 * j) + 1) (j + 1))
  frames_step from j low =
      ap (bad_frame bytes n from (start + 4116 * j)) (let e : count - j ≡ suc (count - (j + 1)) = omega arith in e)
      ∙ ap (λ at. first_of (first_failing (frame_fields bytes n from (start + 4116 * j))) (bad_frame bytes n (word_at bytes (start + 4116 * j) + 1) at (count - (j + 1)))) (let e : start + 4116 * j + 4116 ≡ start + 4116 * (j + 1) = omega arith in e)

  pub frames_begin : bad_frame bytes n 0 start count ≡ frames_from 0 0
  frames_begin = (λ i. bad_frame bytes n 0 ((let e : start ≡ start + 4116 * 0 = omega arith in e) i) ((let e : count ≡ count - 0 = omega arith in e) i))

  pub frames_go_on : (total : Option ℕ) (from j : ℕ) → j < count → total ≡ frames_from from j → is_some (first_failing (frame_fields bytes n from (start + 4116 * j))) ≡ false → total ≡ frames_from (word_at bytes (start + 4116 * j) + 1) (j + 1)
  frames_go_on total from j low h none = h ∙ frames_step from j low ∙ none_first _ _ none

  pub frames_stop : (total x : Option ℕ) (from j : ℕ) → j < count → total ≡ frames_from from j → x ≡ first_failing (frame_fields bytes n from (start + 4116 * j)) → is_some x ≡ true → x ≡ total
  frames_stop total x from j low h is some = first_then x _ (frames_from (word_at bytes (start + 4116 * j) + 1) (j + 1)) is some ∙ sym (h ∙ frames_step from j low)

  pub frames_end : (total : Option ℕ) (from j : ℕ) → count ≤ j → total ≡ frames_from from j → None ≡ total
  frames_end total from j high h = sym (h ∙ ap (bad_frame bytes n from (start + 4116 * j)) (let e : count - j ≡ 0 = omega arith in e))
