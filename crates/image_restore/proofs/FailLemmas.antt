-- The first clause that fails, by the verdict on an image.
use Rattle.std.proofs.Common.{◌≡◌, ℕ, ◌<◌, map, ap, sym, subst, ◌∙◌, arith, Option, Some, None}
use Rattle.std.specs.Prelude.{slice_get}
use Rattle.std.specs.Option.{unwrap_or}
use Rattle.std.specs.List.{range_with_len}
use Rattle.std.proofs.lemmas.List.FromFn.{length-map-range_with_len, get_or-map-range_with_len}
use Rattle.std.proofs.lemmas.Option.{slice_get-get_or}
use Rattle.memory_image.specs.Image.{Image, frames, IsImage, IsWideImage}
use Rattle.memory_image.specs.Sound.{IsSound}
use Rattle.image_check.specs.declared.clauses.ProcessClause.{ProcessClause}
use Rattle.image_check.specs.declared.clauses.FrameClause.{FrameClause}
use Rattle.image_check.specs.Told.{Told, process_told, frame_told, verdict_on}
use Rattle.image_check.specs.Verdict.{process_clause, frame_clause}
use Rattle.image_check.proofs.Agreement.{sound_where_nothing_fails}
use Rattle.memory_image.proofs.MachineLemmas.{widened}
use Rattle.image_restore.specs.Failing.{IsFirst, FailsFrame, FailsFirst}
use Rattle.image_restore.specs.declared.faults.Failed.{Failed}
use Rattle.image_restore.specs.declared.faults.Failed.TheVariants as failed

item : {X : Type 0} (f : ℕ → Option X) (n p : ℕ) → p < n → unwrap_or (slice_get (map f (range_with_len 0 n)) p) None ≡ f p
item f n p low =
    ap (λ o. unwrap_or o None)
    (slice_get-get_or (map f (range_with_len 0 n)) p (f p) (let l = length-map-range_with_len f 0 n in omega arith)
    ∙ ap Some (get_or-map-range_with_len f 0 n p p (f p) low (omega arith)))

module _ (image : Image) (told : Told) (is : told ≡ verdict_on image) where
  process_is_told : (p : ℕ) → p < 64 → process_told told p ≡ process_clause image p
  process_is_told p small = ap (λ (t : Told). process_told t p) is ∙ item (process_clause image) 64 p small

  frame_is_told : (f : ℕ) → f < frames image → frame_told told f ≡ frame_clause image f
  frame_is_told f inside = ap (λ (t : Told). frame_told t f) is ∙ item (frame_clause image) (frames image) f inside

  pub process_fails : (n : ℕ) (clause : ProcessClause) → (n < 64) × IsFirst (process_told told) n clause → (n < 64) × IsFirst (process_clause image) n clause
  process_fails n clause found =
      let small = found.0 in (
        small,
        record {
          here = sym (process_is_told n small) ∙ found.1.here;
          least = λ p before. sym (process_is_told p (omega (arith, small, before))) ∙ found.1.least p before;
        },
      )

  pub frame_fails : ((p : ℕ) → p < 64 → process_told told p ≡ None) → (end n : ℕ) (clause : FrameClause) → end ≡ frames image → (n < end) × IsFirst (frame_told told) n clause
      → FailsFrame image n × IsFirst (frame_clause image) n clause
  frame_fails none end n clause size found =
      let inside : n < frames image = subst (λ (x : ℕ). n < x) size found.0 in (
        record { processes = λ p small. sym (process_is_told p small) ∙ none p small; inside = inside },
        record {
          here = sym (frame_is_told n inside) ∙ found.1.here;
          least = λ f before. sym (frame_is_told f (omega (arith, inside, before))) ∙ found.1.least f before;
        },
      )

  -- where nothing is told the image is sound
  pub sound_where_none : IsWideImage image → ((p : ℕ) → p < 64 → process_told told p ≡ None) → (end : ℕ) → end ≡ frames image → ((f : ℕ) → f < end → frame_told told f ≡ None) → IsSound image
  sound_where_none I processes end size none = (sound_where_nothing_fails image I).1 (record {
    processes = λ p small. sym (process_is_told p small) ∙ processes p small;
    frames = λ f inside. sym (frame_is_told f inside) ∙ none f (subst (λ (x : ℕ). f < x) (sym size) inside);
  })

-- and where something fails it is not
pub wide_unsound : (image : Image) (named : Failed) → IsWideImage image → FailsFirst image named → IsSound image → ⊥
wide_unsound image (failed.Process p clause) I fails sound =
    let none = ((sound_where_nothing_fails image I).0 sound).processes p fails.0 in
    let told : Some clause ≡ None = sym fails.1.here ∙ none in
    cc
wide_unsound image (failed.Frame f clause) I fails sound =
    let none = ((sound_where_nothing_fails image I).0 sound).frames f fails.0.inside in
    let told : Some clause ≡ None = sym fails.1.here ∙ none in
    cc

pub unsound : (image : Image) (named : Failed) → IsImage image → FailsFirst image named → IsSound image → ⊥
unsound image named I = wide_unsound image named (widened image I)
