-- What is read of an image's fields.
use Rattle.std.proofs.Common.{◌≡◌, ℕ, ◌+◌, ◌*◌, ◌<◌, ◌≤◌, List, [], ◌∷◌, length, drop, length-drop, refl, sym, ap, ◌∙◌, arith, Option, Some, None}
use Rattle.std.specs.Prelude.{IfSome, slice_index_or, slice_index}
use Rattle.std.specs.Option.{unwrap_or}
use Rattle.std.proofs.lemmas.Option.{slice_get-get_or}
use Rattle.phys_memory.specs.Bytes.{frame_bytes, word_in, word_at}
use Rattle.phys_memory.proofs.Frames.{frame_past}
use Rattle.memory_image.specs.declared.processes.Process.{Process}
use Rattle.memory_image.specs.Image.{Image, HasFields, frames}

empty : (i : ℕ) → word_in [] i ≡ 0
unfolding word_at
empty i = ends (drop (4 * i) []) (let n = length-drop {A = ℕ} (4 * i) [] in omega (arith, n))
  where
    ends : (ys : List ℕ) → length ys ≡ 0 → slice_index ys 0 + 256 * (slice_index ys 1 + 256 * (slice_index ys 2 + 256 * (slice_index ys 3 + 256 * 0))) ≡ 0
    ends [] h = refl
    ends (y ∷ ys) h = absurd (omega arith)

-- a frame past the end has no words
pub no_word : (bytes : List ℕ) (n frame index : ℕ) → length bytes ≡ 4096 * n → n ≤ frame → 0 ≡ word_in (frame_bytes bytes frame) index
no_word bytes n frame index size past = sym (ap (λ (xs : List ℕ). word_in xs index) (frame_past bytes frame (omega arith)) ∙ empty index)

if_some : {A : Type 0} (P : A → Type 0) (x : Option A) → ((a : A) → x ≡ Some a → P a) → IfSome x P
if_some P None h = tt
if_some P (Some a) h = h a refl

-- a live process's directory is one of the frames
pub directory_inside : (limit : ℕ) (image : Image) → HasFields limit image → (p : ℕ) (d : Option Process) → p < 64 → IfSome (slice_index_or image.processes p d) (λ r. r.directory < frames image)
directory_inside limit image I p d small = if_some (λ r. r.directory < frames image) (slice_index_or image.processes p d)
    (λ r h. let a = slice_get-get_or image.processes p d (let k = I.pids in omega arith) in (I.processes p r (ap (λ o. unwrap_or o None) a ∙ h)).directory)
