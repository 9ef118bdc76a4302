-- A text of which nothing is left to write, and its parts.
use Rattle.std.proofs.Common.{◌≡◌, ℕ, suc, ◌+◌, ◌-◌, ◌*◌, ◌<◌, false, List, [], ◌∷◌, ◌++◌, Option, Some, length, length-append, take, drop, append-nil, append_assoc, refl, subst, sym, ap, ◌∙◌, arith}
use Rattle.std.specs.Prelude.{slice_get}
use Rattle.std.proofs.Math.Seq.{drop-append-add}
use Rattle.std.proofs.lemmas.List.{take_at, drop_at, drop-drop}
use Rattle.std.specs.Io.KnownBytes.{Appends}
use Rattle.std.specs.List.{flat_map, range_with_len, splice}
use Rattle.text_output.specs.Output.{LeavesUnwritten}
use Rattle.phys_memory.specs.Bytes.{frame_bytes}
use Rattle.alloc_table.specs.declared.Role.{Role}
use Rattle.alloc_table.specs.declared.Role.TheVariants.{Reserved, Free, Directory, Table, Page}
use Rattle.alloc_table.specs.Roles.{is_free}
use Rattle.process_table.specs.View.{View}
use Rattle.memory_image.specs.declared.processes.Process.{Process}
use Rattle.memory_image.specs.Image.{frames}
use Rattle.memory_image.specs.Spelling.{number, process_bytes, role_bytes}
use Rattle.memory_image.proofs.References.{same_some}
use Rattle.wide_image.specs.FirstBytes.{snapshot_magic}
use Rattle.wide_image.specs.Layout.{frame_text, frames_text, stored, frames_stored}
use Rattle.wide_image.specs.Offers.{offer_bytes}
use Rattle.wide_image.specs.Stored.{record_with, frame_record, frame_records, PiecesMakeImages}
use Rattle.wide_image.specs.Wide.{WideImage, head_text, text}
use Rattle.wide_image.proofs.FrameTexts.{record_text}

pub all_written : (a b : Option (List ℕ)) (text rest : List ℕ) → rest ≡ [] → LeavesUnwritten a b text rest → Appends a b text
all_written a b text rest none w = subst (Appends a b) (sym (w.whole ∙ ap (λ r. w.written ++ r) none ∙ append-nil w.written)) w.grown

-- ---- The parts of a snapshot's text, as they are written

abbrev pub front : ℕ → List ℕ
front n = snapshot_magic ++ (number 1 ++ number n)

whole_head : (w : WideImage) → head_text w ≡ front (frames w.image) ++ (flat_map process_bytes w.image.processes ++ ((number (length w.offers) ++ number (frames_stored w.image.roles)) ++ flat_map offer_bytes w.offers))
unfolding head_text
whole_head w = refl

pub head_parts : (w : WideImage) (n : ℕ) (processes : List (Option Process)) (offers stored : ℕ)
    → n ≡ frames w.image → processes ≡ w.image.processes → offers ≡ length w.offers → stored ≡ frames_stored w.image.roles
    → head_text w ≡ front n ++ (flat_map process_bytes processes ++ ((number offers ++ number stored) ++ flat_map offer_bytes w.offers))
head_parts w n processes offers stored a b e f =
    whole_head w ∙ sym (λ i. front (a i) ++ (flat_map process_bytes (b i) ++ ((number (e i) ++ number (f i)) ++ flat_map offer_bytes w.offers)))

pub parts : (w : WideImage) (roles : List Role) (bytes : List ℕ) → roles ≡ w.image.roles → bytes ≡ w.image.bytes → text w ≡ head_text w ++ frames_text 0 roles bytes
unfolding text head_text
parts w roles bytes c d =
    sym (ap (λ t. snapshot_magic ++ (number 1 ++ (number (frames w.image) ++ t)))
    (append_assoc (flat_map process_bytes w.image.processes) (number (length w.offers) ++ (number (frames_stored w.image.roles) ++ flat_map offer_bytes w.offers)) (frames_text 0 w.image.roles w.image.bytes)))
    ∙ sym (λ i. head_text w ++ frames_text 0 (c i) (d i))

-- ---- A frame's record, copied in two parts

two_parts : (old head part : List ℕ) → length head ≡ 20 → length part ≡ 4096 → splice (splice old 0 20 head) 20 4116 part ≡ (head ++ part) ++ drop 4116 old
two_parts old head part h p =
    (λ i. take_at head (drop 20 old) 20 h i ++ (part ++ (ap (λ k. drop k (head ++ drop 20 old)) (let e : 4116 ≡ length head + 4096 = omega arith in e) ∙ drop-append-add head (drop 20 old) 4096 ∙ drop-drop 4096 20 old) i))
    ∙ sym (append_assoc head part (drop 4116 old))

pub copied : (old head part : List ℕ) → length head ≡ 20 → length part ≡ 4096
    → (take 4116 (splice (splice old 0 20 head) 20 4116 part) ≡ head ++ part) × (drop 4116 (splice (splice old 0 20 head) 20 4116 part) ≡ drop 4116 old)
copied old head part h p =
    let l = length-append head part in
    let n : length (head ++ part) ≡ 4116 = omega arith in (
      ap (take 4116) (two_parts old head part h p) ∙ take_at (head ++ part) (drop 4116 old) 4116 n,
      ap (drop 4116) (two_parts old head part h p) ∙ drop_at (head ++ part) (drop 4116 old) 4116 n,
    )

-- ---- The records of all frames of a machine

pub frame_part : (bytes : List ℕ) (f : ℕ) → take 4096 (drop (4096 * f) bytes) ≡ frame_bytes bytes f
unfolding frame_bytes
frame_part bytes f = ap (λ k. take k (drop (4096 * f) bytes)) (let e : 4096 ≡ 4096 * f + 4096 - 4096 * f = omega arith in e)

module _ (v : View) where
  records_from : (f : ℕ) (roles : List Role) → ((i : ℕ) → slice_get roles i ≡ slice_get v.roles (f + i))
      → frames_text f roles (drop (4096 * f) v.bytes) ≡ flat_map (frame_record v) (range_with_len f (length roles))
  records_from f [] h = refl
  records_from f (role ∷ roles) h =
      (λ i. (ap (frame_text f role) (frame_part v.bytes f) ∙ ap (record_with v f) (h 0 ∙ ap (slice_get v.roles) (let e : f + 0 ≡ f = omega arith in e))) i
      ++ (ap (frames_text (f + 1) roles) (drop-drop 4096 (4096 * f) v.bytes ∙ ap (λ k. drop k v.bytes) (let e : 4096 * f + 4096 ≡ 4096 * (f + 1) = omega arith in e))
      ∙ records_from (f + 1) roles (λ i. h (suc i) ∙ ap (slice_get v.roles) (let e : f + suc i ≡ f + 1 + i = omega arith in e))) i)

  pub all_records : frames_text 0 v.roles v.bytes ≡ frame_records v
  all_records = records_from 0 v.roles (λ i. ap (slice_get v.roles) (let e : i ≡ 0 + i = omega arith in e))

used_of : (r : Role) → 0 < stored r → is_free r ≡ false
used_of Reserved h = refl
used_of Free h = absurd (omega (arith, h))
used_of (Directory p) h = refl
used_of (Table p s) h = refl
used_of (Page count) h = refl

-- the record of a frame that isn't free
pub record_copied : (v : View) (f : ℕ) (r s : Role) → slice_get v.roles f ≡ Some r → slice_get v.roles f ≡ Some s → 0 < stored r
    → number f ++ (role_bytes s ++ frame_bytes v.bytes f) ≡ frame_record v f
record_copied v f r s here there used =
    let same : r ≡ s = same_some r s (sym here ∙ there) in
    sym (record_text f s (frame_bytes v.bytes f) (sym (ap is_free same) ∙ used_of r used)) ∙ sym (ap (record_with v f) there)

pub pieces_make : PiecesMakeImages
pieces_make v head H =
    let w = H.image in
    let shows = H.machine.shows.image in (
      w,
      H.machine,
      parts w v.roles v.bytes (sym shows.roles) (sym shows.bytes)
          ∙ (λ i. sym H.is i ++ all_records v i),
    )
