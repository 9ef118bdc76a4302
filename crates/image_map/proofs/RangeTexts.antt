-- The texts of the numbers of a range, joined in order.
use Rattle.std.proofs.Common.{◌≡◌, ℕ, zero, suc, ◌+◌, ◌-◌, ◌<◌, ◌≤◌, List, [], ◌++◌, Option, sym, ap, subst, ◌∙◌, arith, append_assoc, append-nil}
use Rattle.std.specs.List.{flat_map, range_with_len}
use Rattle.std.specs.Io.KnownBytes.{Appends}
use Rattle.std.proofs.KnownBytes.{Appends-nil}
use Rattle.text_output.specs.Output.{AppendsFront, LeavesUnwritten}
use Rattle.text_output.proofs.OutputLemmas.{wrote_piece, cut_piece}

module _ {X : Type 0} (f : ℕ → List X) where
  -- one number more
  pub range_more : (first n j : ℕ) → first + n ≡ j → flat_map f (range_with_len first (n + 1)) ≡ flat_map f (range_with_len first n) ++ f j
  range_more first zero j at = append-nil (f first) ∙ ap f (let e : first ≡ j = omega (arith, at) in e)
  range_more first (suc n) j at =
      ap (λ k. flat_map f (range_with_len first k)) (let e : suc n + 1 ≡ suc (n + 1) = omega arith in e)
      ∙ ap (λ l. f first ++ l) (range_more (first + 1) n j (let e : first + 1 + n ≡ j = omega (arith, at) in e))
      ∙ sym (append_assoc (f first) (flat_map f (range_with_len (first + 1) n)) (f j))

  -- the numbers from the next one on
  pub range_next : (k end : ℕ) → k < end → flat_map f (range_with_len k (end - k)) ≡ f k ++ flat_map f (range_with_len (k + 1) (end - (k + 1)))
  range_next k end low = ap (λ n. flat_map f (range_with_len k n)) (let e : end - k ≡ suc (end - (k + 1)) = omega arith in e)

  pub range_end : (k end : ℕ) → end ≤ k → flat_map f (range_with_len k (end - k)) ≡ []
  range_end k end low = ap (λ n. flat_map f (range_with_len k n)) (let e : end - k ≡ zero = omega arith in e)

-- ---- Written one after the other

module _ (f : ℕ → List ℕ) (a b : Option (List ℕ)) (text : List ℕ) (k end : ℕ) where
  pub wrote_number : (c : Option (List ℕ)) → k < end → LeavesUnwritten a b text (flat_map f (range_with_len k (end - k))) → Appends b c (f k)
      → LeavesUnwritten a c text (flat_map f (range_with_len (k + 1) (end - (k + 1))))
  wrote_number c low before more = wrote_piece a b c text (f k) (flat_map f (range_with_len (k + 1) (end - (k + 1)))) (subst (LeavesUnwritten a b text) (range_next f k end low) before) more

  pub cut_number : (c : Option (List ℕ)) → k < end → LeavesUnwritten a b text (flat_map f (range_with_len k (end - k))) → AppendsFront b c (f k) → AppendsFront a c text
  cut_number c low before front = cut_piece a b c text (f k) (flat_map f (range_with_len (k + 1) (end - (k + 1)))) (subst (LeavesUnwritten a b text) (range_next f k end low) before) front

  -- where no number is left, all is written
  pub wrote_range : end ≤ k → LeavesUnwritten a b text (flat_map f (range_with_len k (end - k))) → Appends a b text
  wrote_range all before = subst (Appends a b) (sym (before.whole ∙ ap (λ l. before.written ++ l) (range_end f k end all) ∙ append-nil before.written)) before.grown

-- where nothing is written, all is left
pub writes_none : (f : ℕ → List ℕ) (a : Option (List ℕ)) (text : List ℕ) (first count end : ℕ) → end - first ≡ count → text ≡ flat_map f (range_with_len first count) → LeavesUnwritten a a text (flat_map f (range_with_len first (end - first)))
writes_none f a text first count end long is = record {
  written = [];
  whole = is ∙ ap (λ n. flat_map f (range_with_len first n)) (sym long);
  grown = Appends-nil a;
}
