-- The frames' records in bytes, and the frames that are read of them.
use Rattle.std.proofs.Common.{◌≡◌, ℕ, zero, suc, ◌+◌, ◌*◌, ◌-◌, ◌<◌, ◌≤◌, List, [], ◌∷◌, ◌++◌, length, length-append, length-drop, length-take, take, drop, replicate, append-nil, sym, ap, subst, ◌∙◌, arith, Some, None}
use Rattle.std.specs.Prelude.{slice_get, slice_index}
use Rattle.std.proofs.lemmas.List.{drop-drop, length-replicate}
use Rattle.phys_memory.specs.Bytes.{word_at}
use Rattle.phys_memory.proofs.Words.{word_at-lt}
use Rattle.alloc_table.specs.declared.Role.{Role}
use Rattle.alloc_table.specs.declared.Role.TheVariants.{Free}
use Rattle.memory_image.specs.Image.{IsRole}
use Rattle.memory_image.specs.Spelling.{number, role_bytes}
use Rattle.memory_image.specs.Tests.{first_failing}
use Rattle.memory_image.proofs.PieceLemmas.{number_spells, take-more}
use Rattle.memory_image.proofs.ReadingLemmas.{role_kept, role_owner, four_numbers}
use Rattle.wide_image.specs.Layout.{frames_text}
use Rattle.wide_image.specs.Faults.{frame_fields}
use Rattle.wide_image.specs.Reading.{role_at, HasOwner, AreRead, AreFrames}
use Rattle.wide_image.proofs.FrameTexts.{frames_both, free_text, one_more, stored_both, none_stored, stored_more, blank_both, blank_free, blank_more}
use Rattle.wide_image.proofs.Kept.{frame_kept}
use Rattle.wide_image.proofs.Loops.{neither, frames_from, frames_step}

-- four numbers in sequence
pub four_at : (xs : List ℕ) → ((i : ℕ) → slice_index xs i < 256) → (a b c d : ℕ) → b ≡ a + 4 → c ≡ a + 8 → d ≡ a + 12 → a + 16 ≤ length xs
    → number (word_at xs a) ++ number (word_at xs b) ++ number (word_at xs c) ++ number (word_at xs d) ≡ take 16 (drop a xs)
four_at xs small a b c d e f g inside = (λ i. number (word_at xs a) ++ number (word_at xs (e i)) ++ number (word_at xs (f i)) ++ number (word_at xs (g i))) ∙ four_numbers xs small a inside

-- each of two lists' items
pub each_both : {X : Type 0} (P : X → Type 0) (xs ys : List X) → ((i : ℕ) (x : X) → slice_get xs i ≡ Some x → P x) → ((i : ℕ) (x : X) → slice_get ys i ≡ Some x → P x)
    → (i : ℕ) (x : X) → slice_get (xs ++ ys) i ≡ Some x → P x
each_both P [] ys p q i x h = q i x h
each_both P (y ∷ xs) ys p q zero x h = p 0 x h
each_both P (y ∷ xs) ys p q (suc i) x h = each_both P xs ys (λ i x g. p (suc i) x g) q i x h

pub each_free : (k i : ℕ) (r : Role) → slice_get (replicate k Free) i ≡ Some r → IsRole r
each_free zero i r h = cc
each_free (suc k) zero r h = let e : Free ≡ r = cc in subst IsRole e tt
each_free (suc k) (suc i) r h = each_free k i r h

pub each_one : (role : Role) → IsRole role → (i : ℕ) (r : Role) → slice_get (role ∷ []) i ≡ Some r → IsRole r
each_one role K zero r h = let e : role ≡ r = cc in subst IsRole e K
each_one role K (suc i) r h = cc

pub long_more : (roles : List Role) (f : ℕ) (role : Role) → length roles ≤ f → length (roles ++ (replicate (f - length roles) Free ++ role ∷ [])) ≡ f + 1
long_more roles f role low =
    let d = length-append roles (replicate (f - length roles) Free ++ role ∷ []) in
    let e = length-append (replicate (f - length roles) Free) (role ∷ []) in
    let g = length-replicate (f - length roles) Free in
    omega (arith, d, e, g)

module _ (xs : List ℕ) (small : (i : ℕ) → slice_index xs i < 256) (n start count : ℕ) (long : start + 4116 * count ≤ length xs) where
  -- the bytes of one record
  pub piece : (at : ℕ) → at + 4116 ≤ length xs → role_bytes (role_at xs at) ≡ number (word_at xs (at + 4)) ++ number (word_at xs (at + 8)) ++ number (word_at xs (at + 12)) ++ number (word_at xs (at + 16))
      → number (word_at xs at) ++ (role_bytes (role_at xs at) ++ take 4096 (drop (at + 20) xs)) ≡ take 4116 (drop at xs)
  piece at inside kind =
      let numbers = four_at xs small (at + 4) (at + 8) (at + 12) (at + 16) (omega arith) (omega arith) (omega arith) (omega arith) in
      let two : take 16 (drop (at + 4) xs) ++ take 4096 (drop (at + 20) xs) ≡ take 4112 (drop (at + 4) xs) =
      ap (λ ys. take 16 (drop (at + 4) xs) ++ take 4096 ys) (ap (λ k. drop k xs) (let e : at + 20 ≡ at + 4 + 16 = omega arith in e) ∙ sym (drop-drop 16 (at + 4) xs)) ∙ take-more 16 4096 (drop (at + 4) xs) in
      (λ i. number_spells xs at small (omega arith) i ++ ((kind ∙ numbers) i ++ take 4096 (drop (at + 20) xs)))
      ∙ ap (λ ys. take 4 (drop at xs) ++ ys) two
      ∙ ap (λ ys. take 4 (drop at xs) ++ take 4112 ys) (sym (drop-drop 4 at xs))
      ∙ take-more 4 4112 (drop at xs)

  -- a record more
  pub read_more : (done : ℕ) (roles : List Role) (store : List ℕ) → AreRead xs n start count done roles store → done < count
      → first_failing (frame_fields xs n (length roles) (start + 4116 * done)) ≡ None
      → AreRead xs n start count (done + 1)
      (roles ++ (replicate (word_at xs (start + 4116 * done) - length roles) Free ++ role_at xs (start + 4116 * done) ∷ []))
      (store ++ (replicate (4096 * (word_at xs (start + 4116 * done) - length roles)) 0 ++ take 4096 (drop (start + 4116 * done + 20) xs)))
  read_more done roles store R low passes =
      let at : ℕ = start + 4116 * done in
      let inside : start + 4116 * done + 4116 ≤ length xs = omega arith in
      let f : ℕ = word_at xs (start + 4116 * done) in
      let K = frame_kept n (length roles) at f (word_at xs (at + 4)) (word_at xs (at + 8)) (word_at xs (at + 12)) (word_at xs (at + 16)) passes in
      let kind = role_kept (at + 4) (word_at xs (at + 4)) (word_at xs (at + 8)) (word_at xs (at + 12)) (word_at xs (at + 16)) K.role (word_at-lt xs (at + 16) small) in
      let from = K.from in
      let below = K.inside in
      let size = R.size in
      let part = length-take 4096 (drop (start + 4116 * done + 20) xs) in
      let rest = length-drop (start + 4116 * done + 20) xs in
      let whole : length (take 4096 (drop (start + 4116 * done + 20) xs)) ≡ 4096 = omega (arith, part, rest) in
      let a = length-append store (replicate (4096 * (word_at xs (start + 4116 * done) - length roles)) 0 ++ take 4096 (drop (start + 4116 * done + 20) xs)) in
      let b = length-append (replicate (4096 * (word_at xs (start + 4116 * done) - length roles)) 0) (take 4096 (drop (start + 4116 * done + 20) xs)) in
      let c = length-replicate {A = ℕ} (4096 * (word_at xs (start + 4116 * done) - length roles)) 0 in
      let d = length-append roles (replicate (word_at xs (start + 4116 * done) - length roles) Free ++ role_at xs (start + 4116 * done) ∷ []) in
      let e = length-append (replicate (word_at xs (start + 4116 * done) - length roles) Free) (role_at xs (start + 4116 * done) ∷ []) in
      let g = length-replicate (word_at xs (start + 4116 * done) - length roles) Free in
      record {
        text =
            one_more roles store f (role_at xs at) (take 4096 (drop (at + 20) xs)) R.size K.from K.used whole
            ∙ (λ i. R.text i ++ piece at inside kind.0 i)
            ∙ ap (λ ys. take (4116 * done) (drop start xs) ++ take 4116 ys) (sym (drop-drop (4116 * done) start xs))
            ∙ take-more (4116 * done) 4116 (drop start xs)
            ∙ ap (λ k. take k (drop start xs)) (let e : 4116 * done + 4116 ≡ 4116 * (done + 1) = omega arith in e);
        size = omega (arith, a, b, c, d, e, g, whole);
        most = omega (arith, d, e, g);
        kinds = each_both IsRole roles _ R.kinds (each_both IsRole (replicate (word_at xs (start + 4116 * done) - length roles) Free) _ (each_free _) (each_one (role_at xs at) kind.1));
        blank = blank_more roles store (f - length roles) (role_at xs at) (take 4096 (drop (at + 20) xs)) R.size K.used R.blank;
        many = stored_more roles (f - length roles) (role_at xs at) K.used ∙ ap (λ k. k + 1) R.many;
      }

  -- what a record that passes its tests lets its reader ask
  pub record_asks : (from at : ℕ) → first_failing (frame_fields xs n from at) ≡ None → (from ≤ word_at xs at) × HasOwner xs at × (word_at xs at < n)
  record_asks from at passes =
      let K = frame_kept n from at (word_at xs at) (word_at xs (at + 4)) (word_at xs (at + 8)) (word_at xs (at + 12)) (word_at xs (at + 16)) passes in
      (K.from, role_owner (at + 4) (word_at xs (at + 4)) (word_at xs (at + 8)) (word_at xs (at + 12)) (word_at xs (at + 16)) K.role, K.inside)

  -- the next record passes its tests, and so do those after it
  pub next_record : (from j : ℕ) → j < count → frames_from xs n start count from j ≡ None
      → (first_failing (frame_fields xs n from (start + 4116 * j)) ≡ None) × (frames_from xs n start count (word_at xs (start + 4116 * j) + 1) (j + 1) ≡ None)
  next_record from j low h = neither (first_failing (frame_fields xs n from (start + 4116 * j))) _ (sym (frames_step xs n start count from j low) ∙ h)

  -- the free frames after the last record
  pub read_all : (roles : List Role) (store : List ℕ) → AreRead xs n start count count roles store
      → ((i : ℕ) → slice_index (store ++ replicate (4096 * (n - length roles)) 0) i < 256)
      → AreFrames xs n start count (roles ++ replicate (n - length roles) Free) (store ++ replicate (4096 * (n - length roles)) 0)
  read_all roles store R bytes =
      let most = R.most in
      let size = R.size in
      let a = length-append store (replicate (4096 * (n - length roles)) 0) in
      let c = length-replicate {A = ℕ} (4096 * (n - length roles)) 0 in
      let d = length-append roles (replicate (n - length roles) Free) in
      let g = length-replicate (n - length roles) Free in
      record {
        read = record {
          text = frames_both 0 roles (replicate (n - length roles) Free) store (replicate (4096 * (n - length roles)) 0) R.size
              ∙ ap (λ t. frames_text 0 roles store ++ t) (free_text (0 + length roles) (n - length roles) (replicate (4096 * (n - length roles)) 0))
              ∙ append-nil (frames_text 0 roles store) ∙ R.text;
          size = omega (arith, a, c, d, g);
          most = omega (arith, d, g);
          kinds = each_both IsRole roles _ R.kinds (each_free (n - length roles));
          blank = blank_both roles (replicate (n - length roles) Free) store (replicate (4096 * (n - length roles)) 0) R.size R.blank (blank_free (n - length roles));
          many = stored_both roles (replicate (n - length roles) Free) ∙ (let z = none_stored (n - length roles) in let m = R.many in omega (arith, z, m));
        };
        all = omega (arith, d, g);
        small = bytes;
      }
