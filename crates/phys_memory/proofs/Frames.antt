-- Memory by its frames: what each change of memory is, as a change of one frame.
use Rattle.std.proofs.Common.{◌≡◌, ◌≢◌, ℕ, ◌+◌, ◌-◌, ◌*◌, ◌^◌, ◌<◌, ◌≤◌, true, false, List, [], length, take, drop, ap}
use Rattle.std.proofs.Common.{sym, ◌∙◌, arith, length-drop, inl, inr, length-set}
use Rattle.std.specs.Prelude.{slice_index, slice_set, replicate, ◌==◌, if◌then◌else◌}
use Rattle.std.proofs.lemmas.Bool.{cases_lt, cases_eq}
use Rattle.std.proofs.lemmas.Bool.Decides.{nat_tests}
use Rattle.std.proofs.lemmas.List.{take_at, drop_at, ext_get_or, length-take, length-take-le, get_or-take, get_or-drop, get_or-set_same, get_or-set_other, length-replicate, get_or-replicate}
use Rattle.std.specs.List.{splice}
use Rattle.byteorder.specs.Endian.{little_bytes}
use Rattle.phys_memory.specs.Bytes.{blank_bytes, word_at, with_word, frame_bytes, with_frame_bytes, word_in, with_word_in, with_frame, IsInside}
use Rattle.phys_memory.proofs.Words.{byte-splice_below, byte-splice_in, byte-splice_above, length-splice, word_by_bytes, word_at-with_word_same, word_at-with_word_other, length-with_word}

pub byte-frame : (xs : List ℕ) (f i : ℕ) → i < 4096 → slice_index (frame_bytes xs f) i ≡ slice_index xs (4096 * f + i)
unfolding frame_bytes
byte-frame xs f i l = get_or-take (4096 * f + 4096 - 4096 * f) (drop (4096 * f) xs) i 0 (omega arith) ∙ get_or-drop (4096 * f) xs i 0

pub length-frame : (xs : List ℕ) (f : ℕ) → IsInside xs f → length (frame_bytes xs f) ≡ 4096
unfolding frame_bytes
length-frame xs f h = length-take-le (4096 * f + 4096 - 4096 * f) (drop (4096 * f) xs) (omega (arith, length-drop (4096 * f) xs)) ∙ omega arith

frame-le : (xs : List ℕ) (f : ℕ) → length (frame_bytes xs f) ≤ 4096
unfolding frame_bytes
frame-le xs f = omega (arith, length-take (4096 * f + 4096 - 4096 * f) (drop (4096 * f) xs))

same_length : (xs ys : List ℕ) (f : ℕ) → length xs ≡ length ys → length (frame_bytes xs f) ≡ length (frame_bytes ys f)
unfolding frame_bytes
same_length xs ys f e = omega (arith, length-take (4096 * f + 4096 - 4096 * f) (drop (4096 * f) xs), length-take (4096 * f + 4096 - 4096 * f) (drop (4096 * f) ys), length-drop (4096 * f) xs, length-drop (4096 * f) ys)

length-frame_past : (xs : List ℕ) (f : ℕ) → length xs ≤ 4096 * f → length (frame_bytes xs f) ≡ 0
unfolding frame_bytes
length-frame_past xs f h = omega (arith, length-take (4096 * f + 4096 - 4096 * f) (drop (4096 * f) xs), length-drop (4096 * f) xs)

-- frames of lists of one length with the same bytes are the same
frame_ext : (xs ys : List ℕ) (f : ℕ) → length xs ≡ length ys → ((i : ℕ) → i < 4096 → slice_index xs (4096 * f + i) ≡ slice_index ys (4096 * f + i)) → frame_bytes xs f ≡ frame_bytes ys f
frame_ext xs ys f e h =
    ext_get_or 0 (frame_bytes xs f) (frame_bytes ys f) (same_length xs ys f e)
    (λ i l. let s = frame-le xs f in byte-frame xs f i (omega arith) ∙ h i (omega arith) ∙ sym (byte-frame ys f i (omega arith)))

-- a frame past the end of memory has no byte
pub frame_past : (xs : List ℕ) (f : ℕ) → length xs ≤ 4096 * f → frame_bytes xs f ≡ []
frame_past xs f h =
    let none = length-frame_past xs f h in
    ext_get_or 0 (frame_bytes xs f) [] none (λ i l. absurd (omega arith))

-- each frame of a blank memory is blank
pub frame-blank : (frames f : ℕ) → f < frames → frame_bytes (blank_bytes frames) f ≡ replicate 4096 0
unfolding blank_bytes
frame-blank frames f h =
    let whole : length (frame_bytes (replicate (4096 * frames) 0) f) ≡ 4096 = length-frame (replicate (4096 * frames) 0) f (omega (arith, length-replicate {A = ℕ} (4096 * frames) 0)) in
    let size : length {A = ℕ} (replicate 4096 0) ≡ 4096 = length-replicate {A = ℕ} 4096 0 in
    ext_get_or 0 (frame_bytes (replicate (4096 * frames) 0) f) (replicate 4096 0) (whole ∙ sym size)
    (λ i l. byte-frame (replicate (4096 * frames) 0) f i (omega arith) ∙ get_or-replicate (4096 * frames) (4096 * f + i) 0 0 (omega arith) ∙ sym (get_or-replicate 4096 i 0 0 (omega arith)))

-- a part of a frame replaced, as that frame sees it
splice_own : (xs ys : List ℕ) (f a e : ℕ) → a ≤ e → e ≤ 4096 → IsInside xs f → length ys ≡ e - a
    → frame_bytes (splice xs (4096 * f + a) (4096 * f + e) ys) f ≡ splice (frame_bytes xs f) a e ys
splice_own xs ys f a e o h l m =
    let long : length (frame_bytes xs f) ≡ 4096 = length-frame xs f l in
    let whole : length (splice xs (4096 * f + a) (4096 * f + e) ys) ≡ length xs = length-splice xs ys (4096 * f + a) (4096 * f + e) (omega arith) (omega arith) (omega arith) in
    let left : length (frame_bytes (splice xs (4096 * f + a) (4096 * f + e) ys) f) ≡ 4096 = length-frame (splice xs (4096 * f + a) (4096 * f + e) ys) f (omega arith) in
    let right : length (splice (frame_bytes xs f) a e ys) ≡ 4096 = length-splice (frame_bytes xs f) ys a e o (omega arith) m ∙ long in
    ext_get_or 0 _ _ (left ∙ sym right) (λ i b. byte-frame (splice xs (4096 * f + a) (4096 * f + e) ys) f i (omega arith) ∙ each i (omega arith) long)
  where
    each : (i : ℕ) → i < 4096 → length (frame_bytes xs f) ≡ 4096 → slice_index (splice xs (4096 * f + a) (4096 * f + e) ys) (4096 * f + i) ≡ slice_index (splice (frame_bytes xs f) a e ys) i
    each i b long = elim (cases_lt i a) [
      | inl below ↦ byte-splice_below xs ys (4096 * f + a) (4096 * f + e) (4096 * f + i) (omega arith) (omega arith) ∙ sym (byte-frame xs f i b) ∙ sym (byte-splice_below (frame_bytes xs f) ys a e i (omega arith) below)
      | inr rest ↦ elim (cases_lt i e) [
        | inl inside ↦
            let p : 4096 * f + i ≡ (4096 * f + a) + (i - a) = omega arith in
            let q : i ≡ a + (i - a) = omega arith in
            ap (slice_index (splice xs (4096 * f + a) (4096 * f + e) ys)) p
            ∙ byte-splice_in xs ys (4096 * f + a) (4096 * f + e) (i - a) (omega arith) (omega arith)
            ∙ sym (byte-splice_in (frame_bytes xs f) ys a e (i - a) (omega arith) (omega arith))
            ∙ ap (slice_index (splice (frame_bytes xs f) a e ys)) (sym q)
        | inr above ↦ byte-splice_above xs ys (4096 * f + a) (4096 * f + e) (4096 * f + i) (omega arith) (omega arith) (omega arith) (omega arith) ∙ sym (byte-frame xs f i b) ∙ sym (byte-splice_above (frame_bytes xs f) ys a e i (omega arith) m o (omega arith))
      ]
    ]

-- a part of a frame replaced, as every other frame sees it
splice_other : (xs ys : List ℕ) (f g a e : ℕ) → a ≤ e → e ≤ 4096 → IsInside xs f → length ys ≡ e - a → g ≢ f
    → frame_bytes (splice xs (4096 * f + a) (4096 * f + e) ys) g ≡ frame_bytes xs g
splice_other xs ys f g a e o h l m n =
    frame_ext _ _ g (length-splice xs ys (4096 * f + a) (4096 * f + e) (omega arith) (omega arith) (omega arith))
    (λ i b. elim (cases_lt g f) [
      | inl below ↦ byte-splice_below xs ys (4096 * f + a) (4096 * f + e) (4096 * g + i) (omega arith) (omega arith)
      | inr rest ↦ byte-splice_above xs ys (4096 * f + a) (4096 * f + e) (4096 * g + i) (omega arith) (omega arith) (omega arith) (omega arith)
    ])

pub with_frame-same : (m : ℕ → List ℕ) (f : ℕ) (new : List ℕ) → with_frame m f new f ≡ new
with_frame-same m f new = let t : (f == f) ≡ true = grind (arith, nat_tests) in ap (λ b. if b then new else m f) t

pub with_frame-other : (m : ℕ → List ℕ) (f g : ℕ) (new : List ℕ) → g ≢ f → with_frame m f new g ≡ m g
with_frame-other m f g new n = let t : (g == f) ≡ false = grind (arith, nat_tests) in ap (λ b. if b then new else m g) t

-- what is changed at one frame alone
pub by_frame : (m m' : ℕ → List ℕ) (f : ℕ) (new : List ℕ) → m' f ≡ new → ((g : ℕ) → g ≢ f → m' g ≡ m g) → m' ≡ with_frame m f new
by_frame m m' f new own others = λ i g. each g i
  where
    each : (g : ℕ) → m' g ≡ with_frame m f new g
    each g = grind (arith, cases_eq, with_frame-other)

-- a word written inside a frame
pub frames-with_word_at : (xs : List ℕ) (f o w : ℕ) → o + 4 ≤ 4096 → IsInside xs f
    → frame_bytes (with_word xs (4096 * f + o) w) ≡ with_frame (frame_bytes xs) f (with_word (frame_bytes xs f) o w)
unfolding with_word
frames-with_word_at xs f o w i l =
    let e : 4096 * f + o + 4 ≡ 4096 * f + (o + 4) = omega arith in
    by_frame (frame_bytes xs) (frame_bytes (splice xs (4096 * f + o) (4096 * f + o + 4) (little_bytes 4 w))) f (splice (frame_bytes xs f) o (o + 4) (little_bytes 4 w))
    (ap (λ k. frame_bytes (splice xs (4096 * f + o) k (little_bytes 4 w)) f) e ∙ splice_own xs (little_bytes 4 w) f o (o + 4) (omega arith) (omega arith) l (omega arith))
    (λ g n. ap (λ k. frame_bytes (splice xs (4096 * f + o) k (little_bytes 4 w)) g) e ∙ splice_other xs (little_bytes 4 w) f g o (o + 4) (omega arith) (omega arith) l (omega arith) n)

-- bytes written inside a frame
pub frames-with_part : (xs ys : List ℕ) (f o : ℕ) → o + length ys ≤ 4096 → IsInside xs f
    → frame_bytes (splice xs (4096 * f + o) (4096 * f + o + length ys) ys) ≡ with_frame (frame_bytes xs) f (splice (frame_bytes xs f) o (o + length ys) ys)
frames-with_part xs ys f o i l =
    let e : 4096 * f + o + length ys ≡ 4096 * f + (o + length ys) = omega arith in
    by_frame (frame_bytes xs) (frame_bytes (splice xs (4096 * f + o) (4096 * f + o + length ys) ys)) f (splice (frame_bytes xs f) o (o + length ys) ys)
    (ap (λ k. frame_bytes (splice xs (4096 * f + o) k ys) f) e ∙ splice_own xs ys f o (o + length ys) (omega arith) (omega (arith, i)) l (omega arith))
    (λ g n. ap (λ k. frame_bytes (splice xs (4096 * f + o) k ys) g) e ∙ splice_other xs ys f g o (o + length ys) (omega arith) (omega (arith, i)) l (omega arith) n)

-- bytes read inside a frame are the frame's
pub part-frame : (xs : List ℕ) (f o n : ℕ) → o + n ≤ 4096 → IsInside xs f → take n (drop (4096 * f + o) xs) ≡ take n (drop o (frame_bytes xs f))
part-frame xs f o n i l =
    let long : length (frame_bytes xs f) ≡ 4096 = length-frame xs f l in
    let here : length (take n (drop (4096 * f + o) xs)) ≡ n = length-take-le n (drop (4096 * f + o) xs) (omega (arith, length-drop (4096 * f + o) xs, i, l)) in
    let there : length (take n (drop o (frame_bytes xs f))) ≡ n = length-take-le n (drop o (frame_bytes xs f)) (omega (arith, length-drop o (frame_bytes xs f), i, long)) in
    ext_get_or 0 _ _ (here ∙ sym there)
    (λ k b. let small : k < n = omega (arith, b, here) in
    let e : 4096 * f + o + k ≡ 4096 * f + (o + k) = omega arith in
    get_or-take n (drop (4096 * f + o) xs) k 0 small ∙ get_or-drop (4096 * f + o) xs k 0
    ∙ ap (slice_index xs) e ∙ sym (byte-frame xs f (o + k) (omega (arith, small, i)))
    ∙ sym (get_or-take n (drop o (frame_bytes xs f)) k 0 small ∙ get_or-drop o (frame_bytes xs f) k 0))

-- the word of an index written
pub frames-with_word : (xs : List ℕ) (f index w : ℕ) → index < 1024 → IsInside xs f
    → frame_bytes (with_word xs (4096 * f + 4 * index) w) ≡ with_frame (frame_bytes xs) f (with_word_in (frame_bytes xs f) index w)
frames-with_word xs f index w i l = frames-with_word_at xs f (4 * index) w (omega arith) l

-- a frame replaced whole reads as what replaced it
whole_frame : (xs part : List ℕ) (f : ℕ) → IsInside xs f → length part ≡ 4096 → frame_bytes (splice xs (4096 * f) (4096 * f + 4096) part) f ≡ part
unfolding frame_bytes
whole_frame xs part f l m = grind (arith, drop_at, length-take-le, take_at)

pub frames-with_frame_bytes : (xs part : List ℕ) (f : ℕ) → IsInside xs f → length part ≡ 4096
    → frame_bytes (with_frame_bytes xs f part) ≡ with_frame (frame_bytes xs) f part
unfolding with_frame_bytes
frames-with_frame_bytes xs part f l m =
    let e : 4096 * f ≡ 4096 * f + 0 = omega arith in
    by_frame (frame_bytes xs) (frame_bytes (splice xs (4096 * f) (4096 * f + 4096) part)) f part
    (whole_frame xs part f l m)
    (λ g n. ap (λ k. frame_bytes (splice xs k (4096 * f + 4096) part) g) e ∙ splice_other xs part f g 0 4096 (omega arith) (omega arith) l (omega arith) n)

pub frames-with_byte : (xs : List ℕ) (f o b : ℕ) → o < 4096 → IsInside xs f
    → frame_bytes (slice_set xs (4096 * f + o) b) ≡ with_frame (frame_bytes xs) f (slice_set (frame_bytes xs f) o b)
frames-with_byte xs f o b i l = by_frame (frame_bytes xs) (frame_bytes (slice_set xs (4096 * f + o) b)) f (slice_set (frame_bytes xs f) o b) own others
  where
    at : (k : ℕ) → k < 4096 → length (frame_bytes xs f) ≡ 4096 → slice_index (slice_set xs (4096 * f + o) b) (4096 * f + k) ≡ slice_index (slice_set (frame_bytes xs f) o b) k
    at k h long = grind (arith, cases_eq, get_or-set_same, get_or-set_other, byte-frame)

    own : frame_bytes (slice_set xs (4096 * f + o) b) f ≡ slice_set (frame_bytes xs f) o b
    own =
        let long : length (frame_bytes xs f) ≡ 4096 = length-frame xs f l in
        let left : length (frame_bytes (slice_set xs (4096 * f + o) b) f) ≡ length (frame_bytes xs f) = same_length (slice_set xs (4096 * f + o) b) xs f (length-set xs (4096 * f + o) b) in
        ext_get_or 0 _ _ (left ∙ sym (length-set (frame_bytes xs f) o b)) (λ k h. byte-frame (slice_set xs (4096 * f + o) b) f k (omega arith) ∙ at k (omega arith) long)

    others : (g : ℕ) → g ≢ f → frame_bytes (slice_set xs (4096 * f + o) b) g ≡ frame_bytes xs g
    others g n = frame_ext _ _ g (length-set xs (4096 * f + o) b) (λ k h. get_or-set_other xs (4096 * f + o) (4096 * g + k) b 0 (omega arith))

-- a word of memory inside a frame is one of that frame
pub word_at-frame : (xs : List ℕ) (f o : ℕ) → o + 4 ≤ 4096 → word_at xs (4096 * f + o) ≡ word_at (frame_bytes xs f) o
word_at-frame xs f o i = grind (arith, word_by_bytes, byte-frame)

-- the word of an index is one of its frame
pub word_in-frame : (xs : List ℕ) (f index : ℕ) → index < 1024 → word_at xs (4096 * f + 4 * index) ≡ word_in (frame_bytes xs f) index
word_in-frame xs f index i = word_at-frame xs f (4 * index) (omega arith)

pub word_in_same : (p : List ℕ) (i w : ℕ) → length p ≡ 4096 → i < 1024 → w < 2 ^ 32 → word_in (with_word_in p i w) i ≡ w
word_in_same p i w l h s = word_at-with_word_same p (4 * i) w (omega arith) s

pub word_in_other : (p : List ℕ) (i j w : ℕ) → length p ≡ 4096 → i < 1024 → j ≢ i → word_in (with_word_in p i w) j ≡ word_in p j
word_in_other p i j w l h n = word_at-with_word_other p (4 * i) (4 * j) w (omega arith) (elim (cases_lt j i) [ inl below ↦ inl (omega arith) | inr rest ↦ inr (omega arith) ])

pub length-with_word_in : (p : List ℕ) (i w : ℕ) → length p ≡ 4096 → i < 1024 → length (with_word_in p i w) ≡ 4096
length-with_word_in p i w l h = length-with_word p (4 * i) w (omega arith) ∙ l

pub word_in-zeros : (n i : ℕ) → 4 * i + 4 ≤ n → word_in (replicate n 0) i ≡ 0
unfolding word_at
word_in-zeros n i h = grind (arith, get_or-drop, get_or-replicate)

-- a frame written keeps the number of bytes
pub length-with_frame_bytes : (xs part : List ℕ) (f : ℕ) → IsInside xs f → length part ≡ 4096 → length (with_frame_bytes xs f part) ≡ length xs
unfolding with_frame_bytes
length-with_frame_bytes xs part f l m = length-splice xs part (4096 * f) (4096 * f + 4096) (omega arith) l (omega arith)
