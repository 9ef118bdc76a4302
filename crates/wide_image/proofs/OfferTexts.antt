-- The offers in bytes, and those that are read of them.
use Rattle.std.proofs.Common.{◌≡◌, ℕ, zero, suc, ◌+◌, ◌*◌, ◌<◌, ◌≤◌, List, ◌++◌, length, map, take, drop, refl, sym, ap, subst, ◌∙◌, arith, inl, inr, None}
use Rattle.std.specs.Prelude.{slice_index, ◌==◌}
use Rattle.std.specs.List.{flat_map, range_with_len}
use Rattle.std.proofs.lemmas.Bool.{cases_eq}
use Rattle.std.proofs.lemmas.List.Folds.{flat_map-map}
use Rattle.phys_memory.specs.Bytes.{word_at}
use Rattle.memory_image.specs.Spelling.{number}
use Rattle.memory_image.specs.Tests.{first_failing}
use Rattle.memory_image.proofs.PieceLemmas.{pieces}
use Rattle.memory_image.proofs.ReadingLemmas.{flat-same}
use Rattle.wide_image.specs.Offers.{rank, IsPending, Rise, right_number, offer_bytes}
use Rattle.wide_image.specs.Faults.{offer_fields, bad_offer}
use Rattle.wide_image.specs.Reading.{offer_in, HasParties}
use Rattle.wide_image.proofs.Loops.{neither}
use Rattle.wide_image.proofs.Kept.{OfferKept, offer_kept}
use Rattle.wide_image.proofs.Records.{four_at}

pub right_is : (w : ℕ) → w ≤ 1 → right_number (w == 1) ≡ w
right_is zero h = refl
right_is (suc zero) h = refl
right_is (suc (suc w)) h = absurd (omega arith)

module _ (xs : List ℕ) (small : (i : ℕ) → slice_index xs i < 256) where
  abbrev at_ : ℕ → ℕ
  at_ i = 1556 + 16 * i

  abbrev kept_at : ℕ → ℕ → Type 0
  kept_at from at = OfferKept from (word_at xs at) (word_at xs (at + 4)) (word_at xs (at + 8)) (word_at xs (at + 12))

  kept_of : (from at : ℕ) → first_failing (offer_fields xs from at) ≡ None → kept_at from at
  kept_of from at h = offer_kept from at _ _ _ _ h

  -- each of them passes its tests
  each_kept : (from first count : ℕ) → bad_offer xs from (at_ first) count ≡ None → (i : ℕ) → first ≤ i → i < first + count → (low : ℕ) × kept_at low (at_ i)
  each_kept from first zero h i low high = absurd (omega arith)
  each_kept from first (suc count) h i low high =
      let a = neither (first_failing (offer_fields xs from (at_ first))) _ h in
      let next : bad_offer xs (rank (word_at xs (at_ first)) (word_at xs (at_ first + 4)) (word_at xs (at_ first + 8)) + 1) (at_ (first + 1)) count ≡ None =
      ap (λ at. bad_offer xs (rank (word_at xs (at_ first)) (word_at xs (at_ first + 4)) (word_at xs (at_ first + 8)) + 1) at count) (let e : 1556 + 16 * (first + 1) ≡ 1556 + 16 * first + 16 = omega arith in e) ∙ a.1 in
      elim (cases_eq i first) [
        | inl e ↦ (from, subst (λ k. kept_at from (at_ k)) (sym e) (kept_of from (at_ first) a.0))
        | inr n ↦ each_kept (rank (word_at xs (at_ first)) (word_at xs (at_ first + 4)) (word_at xs (at_ first + 8)) + 1) (first + 1) count next i (omega arith) (omega arith)
      ]

  pub parties : (count : ℕ) → bad_offer xs 0 1556 count ≡ None → (i : ℕ) → i < count → HasParties xs (1556 + 16 * i)
  parties count h i low =
      let k = each_kept 0 0 count h i (omega arith) (omega arith) in
      record { offerer = k.1.offerer; target = k.1.target }

  pub each_pending : (count : ℕ) → bad_offer xs 0 1556 count ≡ None → (i : ℕ) → i < count → IsPending (offer_in xs i)
  each_pending count h i low =
      let k = each_kept 0 0 count h i (omega arith) (omega arith) in
      record { offerer = k.1.offerer; page = k.1.page; target = k.1.target }

  rises : (from first count : ℕ) → bad_offer xs from (at_ first) count ≡ None → Rise from (map (offer_in xs) (range_with_len first count))
  rises from first zero h = tt
  rises from first (suc count) h =
      let a = neither (first_failing (offer_fields xs from (at_ first))) _ h in
      let next : bad_offer xs (rank (word_at xs (at_ first)) (word_at xs (at_ first + 4)) (word_at xs (at_ first + 8)) + 1) (at_ (first + 1)) count ≡ None =
      ap (λ at. bad_offer xs (rank (word_at xs (at_ first)) (word_at xs (at_ first + 4)) (word_at xs (at_ first + 8)) + 1) at count) (let e : 1556 + 16 * (first + 1) ≡ 1556 + 16 * first + 16 = omega arith in e) ∙ a.1 in
      ((kept_of from (at_ first) a.0).from, rises (rank (word_at xs (at_ first)) (word_at xs (at_ first + 4)) (word_at xs (at_ first + 8)) + 1) (first + 1) count next)

  pub offers_rise : (count : ℕ) → bad_offer xs 0 1556 count ≡ None → Rise 0 (map (offer_in xs) (range_with_len 0 count))
  offers_rise count h = rises 0 0 count h

  pub offers_spelled : (count : ℕ) → bad_offer xs 0 1556 count ≡ None → 1556 + 16 * count ≤ length xs
      → flat_map offer_bytes (map (offer_in xs) (range_with_len 0 count)) ≡ take (16 * count) (drop 1556 xs)
  offers_spelled count h long =
      flat_map-map offer_bytes (offer_in xs) (range_with_len 0 count)
      ∙ flat-same (λ i. offer_bytes (offer_in xs i)) (λ i. take 16 (drop (1556 + 16 * i) xs)) 0 count (λ i _ high. one i (omega (arith, high)))
      ∙ pieces xs 16 1556 0 count
    where
      one : (i : ℕ) → i < count → offer_bytes (offer_in xs i) ≡ take 16 (drop (1556 + 16 * i) xs)
      one i low =
          let k = each_kept 0 0 count h i (omega arith) (omega arith) in
          ap (λ w. number (word_at xs (1556 + 16 * i)) ++ number (word_at xs (1556 + 16 * i + 4)) ++ number (word_at xs (1556 + 16 * i + 8)) ++ number w) (right_is (word_at xs (1556 + 16 * i + 12)) k.1.right)
          ∙ four_at xs small (1556 + 16 * i) (1556 + 16 * i + 4) (1556 + 16 * i + 8) (1556 + 16 * i + 12) refl refl refl (omega arith)
