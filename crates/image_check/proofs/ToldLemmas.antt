-- A verdict has no clause exactly if the image is sound.
use Rattle.std.proofs.Common.{◌≡◌, ℕ, zero, suc, ◌<◌, true, List, [], ◌∷◌, length, map, refl, sym, ap, ◌∙◌, arith, Option, Some, None}
use Rattle.std.specs.Prelude.{slice_get, is_none}
use Rattle.std.specs.Option.{unwrap_or}
use Rattle.std.specs.List.{list_all}
use Rattle.std.specs.Bool.{Decides}
use Rattle.std.proofs.lemmas.Bool.{and_parts, and_from}
use Rattle.memory_image.specs.Image.{Image, frames, IsWideImage}
use Rattle.memory_image.specs.Sound.{IsSound}
use Rattle.image_check.specs.Told.{fails_nothing, verdict_on}
use Rattle.image_check.specs.Verdict.{process_clause, frame_clause}
use Rattle.std.specs.List.{range_with_len}
use Rattle.std.proofs.lemmas.List.FromFn.{length-map-range_with_len, get_or-map-range_with_len}
use Rattle.std.proofs.lemmas.Option.{slice_get-get_or}
use Rattle.image_check.proofs.Agreement.{sound_where_nothing_fails}

none-is : {A : Type 0} (x : Option A) → is_none x ≡ true → x ≡ None
none-is None h = refl
none-is (Some a) h = cc

all-none : {A : Type 0} (xs : List (Option A)) → list_all is_none xs ≡ true → (i : ℕ) → i < length xs → slice_get xs i ≡ Some None
all-none [] h i inside = absurd (omega arith)
all-none (x ∷ xs) h zero inside = ap Some (none-is x (and_parts (is_none x) (list_all is_none xs) h).0)
all-none (x ∷ xs) h (suc i) inside = all-none xs (and_parts (is_none x) (list_all is_none xs) h).1 i (omega arith)

same_some : {A : Type 0} (x y : A) → ◌≡◌ {A = Option A} (Some x) (Some y) → x ≡ y
same_some x y h = ap (λ o. unwrap_or o x) h

none-all : {A : Type 0} (xs : List (Option A)) → ((i : ℕ) → i < length xs → slice_get xs i ≡ Some None) → list_all is_none xs ≡ true
none-all [] h = refl
none-all (x ∷ xs) h = and_from (is_none x) (list_all is_none xs) (ap is_none (same_some x None (h 0 (omega arith)))) (none-all xs (λ i inside. h (suc i) (omega arith)))

-- each item of a list over a range
map-get : {X : Type 0} (f : ℕ → X) (n p : ℕ) → p < n → slice_get (map f (range_with_len 0 n)) p ≡ Some (f p)
map-get f n p low =
    slice_get-get_or (map f (range_with_len 0 n)) p (f p) (let l = length-map-range_with_len f 0 n in omega arith)
    ∙ ap Some (get_or-map-range_with_len f 0 n p p (f p) low (omega arith))

pub sound_is_told : (image : Image) → IsWideImage image → Decides (fails_nothing (verdict_on image)) (IsSound image)
sound_is_told image I = (
  λ h. let a = and_parts (list_all is_none (verdict_on image).processes) (list_all is_none (verdict_on image).frames) h in
      (sound_where_nothing_fails image I).1 (record {
        processes = λ p small. same_some _ _ (sym (map-get (process_clause image) 64 p small) ∙ all-none (verdict_on image).processes a.0 p (let l = length-map-range_with_len (process_clause image) 0 64 in omega arith));
        frames = λ f inside. same_some _ _ (sym (map-get (frame_clause image) (frames image) f inside) ∙ all-none (verdict_on image).frames a.1 f (let l = length-map-range_with_len (frame_clause image) 0 (frames image) in omega arith));
      }),
  λ s. let n = (sound_where_nothing_fails image I).0 s in
      and_from (list_all is_none (verdict_on image).processes) (list_all is_none (verdict_on image).frames)
      (none-all (verdict_on image).processes (λ p small. let k : p < 64 = (let l = length-map-range_with_len (process_clause image) 0 64 in omega arith) in map-get (process_clause image) 64 p k ∙ ap Some (n.processes p k)))
      (none-all (verdict_on image).frames (λ f inside. let k : f < frames image = (let l = length-map-range_with_len (frame_clause image) 0 (frames image) in omega arith) in map-get (frame_clause image) (frames image) f k ∙ ap Some (n.frames f k))),
)
