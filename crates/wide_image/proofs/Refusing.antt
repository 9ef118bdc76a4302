-- What refuses a snapshot that is read piece by piece is a reason against its bytes, whatever follows.
use Rattle.std.proofs.Common.{◌≡◌, ℕ, suc, ◌+◌, ◌-◌, ◌*◌, ◌^◌, ◌<◌, ◌≤◌, ◌||◌, Bool, true, false, List, [], ◌∷◌, ◌++◌, length, length-append, length-drop, length-take, take, drop, append_assoc, append-nil, refl, sym, ap, subst, ◌∙◌, arith, inl, inr, Option, Some, None, Result, Ok, Err}
use Rattle.std.specs.Int.{from_le_bytes, w32}
use Rattle.std.specs.Io.KnownBytes.{Consumes, IsAtEnd}
use Rattle.std.specs.Prelude.{◌⊎◌, IfSome, IfErr, if◌then◌else◌, ◌==◌, nat_lt, nat_le, slice_get}
use Rattle.std.specs.Option.{option_map}
use Rattle.std.specs.List.{flat_map, range_with_len}
use Rattle.std.proofs.lemmas.Bool.{cases_lt, eq-eqb, le-ltb, le-leb, ltb-true}
use Rattle.std.proofs.lemmas.List.{drop-drop, drop_at, drop-append-le, take-append-le}
use Rattle.phys_memory.specs.Bytes.{word_at}
use Rattle.alloc_table.specs.declared.Role.{Role}
use Rattle.alloc_table.specs.Roles.{is_free}
use Rattle.memory_image.specs.Image.{IsRole, IsWord}
use Rattle.memory_image.specs.Refusals.{process_place, process_fields, process_tests}
use Rattle.memory_image.specs.Spelling.{number, process_bytes, role_bytes}
use Rattle.memory_image.specs.Tests.{first_failing}
use Rattle.memory_image.proofs.FieldLemmas.{append_none, each_none}
use Rattle.memory_image.proofs.PieceLemmas.{four}
use Rattle.memory_image.proofs.ReadingLemmas.{not_less}
use Rattle.memory_image.proofs.RespellLemmas.{passes_not, passes_other, word-shift, word_of_number}
use Rattle.memory_image.proofs.SpellingLemmas.{process_wide, pieces_long, role_wide}
use Rattle.wide_image.specs.declared.faults.WideImageFault.{WideImageFault}
use Rattle.wide_image.specs.declared.faults.WideImageFault.TheVariants.{NotImage, BadLength, BadVersion, BadField}
use Rattle.wide_image.specs.declared.streams.WideReadFault.{WideReadFault}
use Rattle.wide_image.specs.declared.streams.WideReadFault.TheVariants.{ReadFailed, NotRead}
use Rattle.wide_image.specs.declared.offers.PendingOffer.{PendingOffer}
use Rattle.wide_image.specs.Faults.{offer_tests, offer_fields, bad_offer, frame_tests, frame_fields, bad_frame, bad_field, fault_of}
use Rattle.wide_image.specs.FirstBytes.{begins_snapshot, snapshot_magic}
use Rattle.wide_image.specs.Layout.{frames_text, stored, frames_stored}
use Rattle.wide_image.specs.Offers.{rank, rank_of, IsPending, offer_bytes}
use Rattle.wide_image.specs.Pieces.{front_text, front_bad, front_fault, Begun, IsBegun, so_far, place_of, wanted, next_rank, next_frame, offer_piece, frame_piece, piece_fields, piece_fault}
use Rattle.wide_image.specs.Streams.{NoneEncode, IsShort, IsRefusedBehind, HasMore, IsForWant}
use Rattle.wide_image.specs.Wide.{WideImage, HasWideFields, text}
use Rattle.wide_image.proofs.FrameTexts.{frames_long}
use Rattle.wide_image.proofs.Loops.{neither}
use Rattle.wide_image.proofs.Passing.{offer_at, frame_at, holds}
use Rattle.wide_image.proofs.Whole.{HeadStands, head_of, head_at, offer_wide, no_reason}

-- ---- Words of a front part

-- a word of the first of two parts
word_front : (xs ys : List ℕ) (k : ℕ) → k + 4 ≤ length xs → word_at (xs ++ ys) k ≡ word_at xs k
unfolding word_at
word_front xs ys k inside =
    let l = length-drop k xs in
    let m = length-drop k (xs ++ ys) in
    let n = length-append xs ys in
    four (drop k (xs ++ ys)) (omega (arith, m, n))
    ∙ ap (λ zs. from_le_bytes w32 (take 4 zs)) (drop-append-le k xs ys (omega arith)) ∙ ap (from_le_bytes w32) (take-append-le 4 (drop k xs) ys (omega (arith, l)))
    ∙ sym (four (drop k xs) (omega (arith, l)))

begins_front : (xs ys : List ℕ) → 4 ≤ length xs → begins_snapshot (xs ++ ys) ≡ begins_snapshot xs
begins_front (a ∷ b ∷ c ∷ d ∷ xs) ys h = refl
begins_front (a ∷ b ∷ c ∷ []) ys h = absurd (omega (arith, h))
begins_front (a ∷ b ∷ []) ys h = absurd (omega (arith, h))
begins_front (a ∷ []) ys h = absurd (omega (arith, h))
begins_front [] ys h = absurd (omega (arith, h))

-- ---- The front

module _ (front rest : List ℕ) (long : length front ≡ 1556) where
  word_same : (k : ℕ) → k + 4 ≤ 1556 → word_at (front ++ rest) k ≡ word_at front k
  word_same k low = word_front front rest k (omega arith)

  process_same : (n p : ℕ) → p < 64 → process_fields (front ++ rest) n p ≡ process_fields front n p
  process_same n p low =
      let at : ℕ = process_place p in
      λ i. process_tests n p at (word_same at (omega (arith, low)) i) (word_same (at + 4) (omega (arith, low)) i) (word_same (at + 8) (omega (arith, low)) i) (word_same (at + 12) (omega (arith, low)) i) (word_same (at + 16) (omega (arith, low)) i) (word_same (at + 20) (omega (arith, low)) i)

  -- where there is no reason against bytes, there is none against their front
  pub front_fine : fault_of (front ++ rest) ≡ None → front_fault front ≡ None
  unfolding front_fault front_bad
  front_fine h =
      let eight : word_at (front ++ rest) 8 ≡ word_at front 8 = word_same 8 (omega arith) in
      let last : word_at (front ++ rest) 1552 ≡ word_at front 1552 = word_same 1552 (omega arith) in
      let H = head_at (front ++ rest) (word_at front 8) (word_at (front ++ rest) 1548) (word_at front 1552) (sym eight) refl (sym last) h in
      let n : ℕ = word_at front 8 in
      passes_not (begins_snapshot front) NotImage _ (sym (begins_front front rest (omega arith)) ∙ H.magic)
      (passes_other (nat_lt (length front) 12) BadLength _ (le-ltb (length front) 12 (omega arith))
      (passes_not (word_at front 4 == 1) BadVersion _ (eq-eqb (word_at front 4) 1 (sym (word_same 4 (omega arith)) ∙ H.version))
      (passes_other (nat_lt (word_at front 8) 16 || nat_lt 1048576 (word_at front 8)) (BadField 8) _ (λ i. le-ltb (word_at front 8) 16 H.fewest i || le-ltb 1048576 (word_at front 8) H.most i)
      (passes_other (nat_lt (length front) 1556) BadLength _ (le-ltb (length front) 1556 (omega arith))
      (ap (option_map bad_field)
      (append_none (flat_map (process_fields front (word_at front 8)) (range_with_len 0 64)) ((nat_le (word_at front 1552) (word_at front 8), 1552) ∷ [])
      (each_none (process_fields front (word_at front 8)) 0 64 (λ p _ high. ap first_failing (sym (process_same (word_at front 8) p (omega (arith, high)))) ∙ H.processes p (omega (arith, high))))
      ∙ holds (nat_le (word_at front 1552) (word_at front 8)) 1552 _ (le-leb (word_at front 1552) (word_at front 8) H.within) refl))))))

-- bytes that are too few
pub front_short : (xs : List ℕ) → length xs < 1556 → fault_of xs ≡ None → ⊥
front_short xs few h = let l = (head_of xs h).long in omega (arith, l)

-- ---- What was read

-- offers that were read are passed over
offers_over : (bytes rest : List ℕ) (offers : List PendingOffer) (from at c : ℕ) → ((i : ℕ) (o : PendingOffer) → slice_get offers i ≡ Some o → IsPending o)
    → drop at bytes ≡ flat_map offer_bytes offers ++ rest → bad_offer bytes from at (length offers + c) ≡ None → bad_offer bytes (next_rank from offers) (at + 16 * length offers) c ≡ None
offers_over bytes rest [] from at c K h none =
    ap (bad_offer bytes from (at + 16 * 0)) (let e : c ≡ 0 + c = omega arith in e) ∙ ap (λ a. bad_offer bytes from a (0 + c)) (let e : at + 16 * 0 ≡ at = omega arith in e) ∙ none
offers_over bytes rest (o ∷ os) from at c K h none =
    let k : drop at bytes ≡ offer_bytes o ++ (flat_map offer_bytes os ++ rest) = h ∙ append_assoc (offer_bytes o) (flat_map offer_bytes os) rest in
    let n = offer_at bytes _ at o (K 0 o refl) k in
    let tail : drop (at + 16) bytes ≡ flat_map offer_bytes os ++ rest = sym (drop-drop 16 at bytes) ∙ ap (drop 16) k ∙ drop_at (offer_bytes o) (flat_map offer_bytes os ++ rest) 16 refl in
    let more : bad_offer bytes from at (suc (length os + c)) ≡ None = ap (bad_offer bytes from at) (let e : suc (length os + c) ≡ suc (length os) + c = omega arith in e) ∙ none in
    let here = (neither (first_failing (offer_fields bytes from at)) _ more).1 in
    let next : bad_offer bytes (rank_of o + 1) (at + 16) (length os + c) ≡ None = (λ i. bad_offer bytes (rank (sym n.offerer i) (sym n.page i) (sym n.target i) + 1) (at + 16) (length os + c)) ∙ here in
    ap (λ a. bad_offer bytes (next_rank (rank_of o + 1) os) a c) (let e : at + 16 * suc (length os) ≡ at + 16 + 16 * length os = omega arith in e)
    ∙ offers_over bytes rest os (rank_of o + 1) (at + 16) c (λ i x g. K (suc i) x g) tail next

-- and so are frames
frames_over : (bytes rest : List ℕ) (n : ℕ) (roles : List Role) (parts : List ℕ) (from f at c : ℕ) → f + length roles ≤ 2 ^ 32 → length parts ≡ 4096 * length roles
    → ((i : ℕ) (r : Role) → slice_get roles i ≡ Some r → IsRole r) → drop at bytes ≡ frames_text f roles parts ++ rest → bad_frame bytes n from at (frames_stored roles + c) ≡ None
    → bad_frame bytes n (next_frame from f roles) (at + 4116 * frames_stored roles) c ≡ None
frames_over bytes rest n [] parts from f at c most size K h none =
    ap (bad_frame bytes n from (at + 4116 * 0)) (let e : c ≡ 0 + c = omega arith in e) ∙ ap (λ a. bad_frame bytes n from a (0 + c)) (let e : at + 4116 * 0 ≡ at = omega arith in e) ∙ none
frames_over bytes rest n (r ∷ roles) parts from f at c most size K h none =
    by (is_free r) refl (λ from at h none. frames_over bytes rest n roles (drop 4096 parts) from (f + 1) at c (omega arith) (omega (arith, length-drop 4096 parts)) (λ i x g. K (suc i) x g) h none)
  where
    text : (b : Bool) → is_free r ≡ b → drop at bytes ≡ ((if b then [] else number f ++ (role_bytes r ++ take 4096 parts)) ++ frames_text (f + 1) roles (drop 4096 parts)) ++ rest
    text b e = h ∙ ap (λ b. ((if b then [] else number f ++ (role_bytes r ++ take 4096 parts)) ++ frames_text (f + 1) roles (drop 4096 parts)) ++ rest) e

    by : (b : Bool) → is_free r ≡ b
        → ((from at : ℕ) → drop at bytes ≡ frames_text (f + 1) roles (drop 4096 parts) ++ rest → bad_frame bytes n from at (frames_stored roles + c) ≡ None
        → bad_frame bytes n (next_frame from (f + 1) roles) (at + 4116 * frames_stored roles) c ≡ None)
        → bad_frame bytes n (next_frame (if is_free r then from else f + 1) (f + 1) roles) (at + 4116 * (stored r + frames_stored roles)) c ≡ None
    by true free next =
        let s : stored r ≡ 0 = ap (λ b. if b then 0 else 1) free in
        ap (λ b. bad_frame bytes n (next_frame (if b then from else f + 1) (f + 1) roles) (at + 4116 * (stored r + frames_stored roles)) c) free
        ∙ ap (λ a. bad_frame bytes n (next_frame from (f + 1) roles) a c) (let e : at + 4116 * (stored r + frames_stored roles) ≡ at + 4116 * frames_stored roles = omega arith in e)
        ∙ next from at (text true free) (ap (bad_frame bytes n from at) (let e : frames_stored roles + c ≡ stored r + frames_stored roles + c = omega arith in e) ∙ none)
    by false used next =
        let s : stored r ≡ 1 = ap (λ b. if b then 0 else 1) used in
        let whole = length-take 4096 parts in
        let wide = role_wide r in
        let first : List ℕ = number f ++ (role_bytes r ++ take 4096 parts) in
        let t : drop at bytes ≡ (number f ++ (role_bytes r ++ take 4096 parts)) ++ (frames_text (f + 1) roles (drop 4096 parts) ++ rest) =
        text false used ∙ append_assoc (number f ++ (role_bytes r ++ take 4096 parts)) (frames_text (f + 1) roles (drop 4096 parts)) rest in
        let k : drop at bytes ≡ number f ++ (role_bytes r ++ (take 4096 parts ++ (frames_text (f + 1) roles (drop 4096 parts) ++ rest))) =
        t ∙ append_assoc (number f) (role_bytes r ++ take 4096 parts) _ ∙ ap (λ t. number f ++ t) (append_assoc (role_bytes r) (take 4096 parts) _) in
        let a = frame_at bytes _ at f r (K 0 r refl) (omega arith) k in
        let long : length (number f ++ (role_bytes r ++ take 4096 parts)) ≡ 4116 = (let x = length-append (number f) (role_bytes r ++ take 4096 parts) in let y = length-append (role_bytes r) (take 4096 parts) in omega (arith, x, y, whole, wide)) in
        let tail : drop (at + 4116) bytes ≡ frames_text (f + 1) roles (drop 4096 parts) ++ rest = sym (drop-drop 4116 at bytes) ∙ ap (drop 4116) t ∙ drop_at (number f ++ (role_bytes r ++ take 4096 parts)) _ 4116 long in
        let more : bad_frame bytes n from at (suc (frames_stored roles + c)) ≡ None = ap (bad_frame bytes n from at) (let e : suc (frames_stored roles + c) ≡ stored r + frames_stored roles + c = omega arith in e) ∙ none in
        let here = (neither (first_failing (frame_fields bytes n from at)) _ more).1 in
        ap (λ b. bad_frame bytes n (next_frame (if b then from else f + 1) (f + 1) roles) (at + 4116 * (stored r + frames_stored roles)) c) used
        ∙ ap (λ a. bad_frame bytes n (next_frame (f + 1) (f + 1) roles) a c) (let e : at + 4116 * (stored r + frames_stored roles) ≡ at + 4116 + 4116 * frames_stored roles = omega arith in e)
        ∙ next (f + 1) (at + 4116) tail ((λ i. bad_frame bytes n (sym a.frame i + 1) (at + 4116) (frames_stored roles + c)) ∙ here)

module _ (b : Begun) (K : IsBegun b) where
  abbrev offers_read : List ℕ
  offers_read = flat_map offer_bytes b.offers

  abbrev frames_read : List ℕ
  frames_read = frames_text 0 b.roles b.bytes

  front_long : length (front_text b.front) ≡ 1556
  unfolding front_text
  front_long =
      let a = pieces_long process_bytes 24 process_wide b.front.processes in
      let p = K.front.pids in
      let x = length-append (flat_map process_bytes b.front.processes) (number b.front.offers ++ number b.front.stored) in
      omega (arith, a, p, x)

  offers_long : length offers_read ≡ 16 * length b.offers
  offers_long = pieces_long offer_bytes 16 offer_wide b.offers

  pub text_long : length (so_far b) ≡ place_of b
  unfolding so_far
  text_long =
      let f = front_long in
      let o = offers_long in
      let r = frames_long 0 b.roles b.bytes K.size in
      let x = length-append (front_text b.front) (offers_read ++ frames_read) in
      let y = length-append offers_read frames_read in
      omega (arith, f, o, r, x, y)

  module _ (rest : List ℕ) (h : fault_of (so_far b ++ rest) ≡ None) where
    behind : so_far b ++ rest ≡ front_text b.front ++ (offers_read ++ (frames_read ++ rest))
    unfolding so_far
    behind = append_assoc (front_text b.front) (offers_read ++ frames_read) rest ∙ ap (λ t. front_text b.front ++ t) (append_assoc offers_read frames_read rest)

    after_records : drop 1548 (so_far b ++ rest) ≡ number b.front.offers ++ (number b.front.stored ++ (offers_read ++ (frames_read ++ rest)))
    unfolding front_text
    after_records =
        let a = pieces_long process_bytes 24 process_wide b.front.processes in
        let p = K.front.pids in
        ap (drop 1548) (behind ∙ append_assoc (snapshot_magic ++ (number 1 ++ (number b.front.frames ++ flat_map process_bytes b.front.processes))) (number b.front.offers ++ number b.front.stored) (offers_read ++ (frames_read ++ rest)))
        ∙ drop_at (snapshot_magic ++ (number 1 ++ (number b.front.frames ++ flat_map process_bytes b.front.processes))) _ 1548 (omega (arith, a, p))
        ∙ append_assoc (number b.front.offers) (number b.front.stored) (offers_read ++ (frames_read ++ rest))

    small_stored : IsWord b.front.stored
    small_stored = let s = K.front.stored in let m = K.front.most in omega arith

    count_read : word_at (so_far b ++ rest) 1548 ≡ b.front.offers
    unfolding word_at
    count_read = word-shift (so_far b ++ rest) _ 1548 0 after_records ∙ word_of_number b.front.offers [] K.front.offers

    stored_read : word_at (so_far b ++ rest) 1552 ≡ b.front.stored
    unfolding word_at
    stored_read = word-shift (so_far b ++ rest) _ 1548 4 after_records ∙ word_of_number b.front.stored [] small_stored

    frames_are : word_at (so_far b ++ rest) 8 ≡ b.front.frames
    unfolding word_at front_text
    frames_are = ap (λ t. word_at t 8) behind ∙ word_of_number b.front.frames [] (let m = K.front.most in omega arith)

    head : HeadStands (so_far b ++ rest) b.front.frames b.front.offers b.front.stored
    head = head_at (so_far b ++ rest) b.front.frames b.front.offers b.front.stored (sym frames_are) (sym count_read) (sym stored_read) h

    pub rest_long : place_of b + length rest ≡ 1556 + 16 * b.front.offers + 4116 * b.front.stored
    rest_long =
        let t = text_long in
        let x = length-append (so_far b) rest in
        let l = head.long in
        omega (arith, t, x, l)

    offers_here : drop 1556 (so_far b ++ rest) ≡ offers_read ++ (frames_read ++ rest)
    offers_here = ap (drop 1556) behind ∙ drop_at (front_text b.front) _ 1556 front_long

    frames_here : drop (1556 + 16 * length b.offers) (so_far b ++ rest) ≡ frames_read ++ rest
    frames_here = sym (drop-drop (16 * length b.offers) 1556 (so_far b ++ rest)) ∙ ap (drop (16 * length b.offers)) offers_here ∙ drop_at offers_read (frames_read ++ rest) (16 * length b.offers) offers_long

    rest_here : drop (place_of b) (so_far b ++ rest) ≡ rest
    rest_here = drop_at (so_far b) rest (place_of b) text_long

    word_rest : (k : ℕ) → word_at (so_far b ++ rest) (place_of b + k) ≡ word_at rest k
    word_rest k = word-shift (so_far b ++ rest) rest (place_of b) k rest_here

-- ---- The next piece

module _ (b : Begun) (K : IsBegun b) (piece rest : List ℕ) (h : fault_of (so_far b ++ (piece ++ rest)) ≡ None) where
  abbrev all : List ℕ
  all = so_far b ++ (piece ++ rest)

  word_piece : (k : ℕ) → k + 4 ≤ length piece → word_at all (place_of b + k) ≡ word_at piece k
  word_piece k inside = word_rest b K (piece ++ rest) h k ∙ word_front piece rest k inside

  word_first : 4 ≤ length piece → word_at all (place_of b) ≡ word_at piece 0
  word_first long = ap (word_at all) (let e : place_of b ≡ place_of b + 0 = omega arith in e) ∙ word_piece 0 (omega arith)

  offer_fine : length piece ≡ 16 → length b.offers < b.front.offers → first_failing (offer_piece piece (next_rank 0 b.offers) (place_of b)) ≡ None
  offer_fine long more =
      let none = K.offers_first more in
      let c : ℕ = b.front.offers - suc (length b.offers) in
      let kept : bad_offer all 0 1556 (length b.offers + suc (b.front.offers - suc (length b.offers))) ≡ None = ap (bad_offer all 0 1556) (let e : length b.offers + suc (b.front.offers - suc (length b.offers)) ≡ b.front.offers = omega arith in e) ∙ (head b K (piece ++ rest) h).offers_kept in
      let over = offers_over all _ b.offers 0 1556 (suc (b.front.offers - suc (length b.offers))) K.offers.pending (offers_here b K (piece ++ rest) h) kept in
      let at : 1556 + 16 * length b.offers ≡ place_of b = (let s : frames_stored b.roles ≡ 0 = ap frames_stored none in omega arith) in
      let here : first_failing (offer_fields all (next_rank 0 b.offers) (place_of b)) ≡ None = ap (λ a. first_failing (offer_fields all (next_rank 0 b.offers) a)) (sym at) ∙ (neither _ _ over).0 in
      (λ i. first_failing (offer_tests (next_rank 0 b.offers) (place_of b) (sym (word_first (omega arith)) i) (sym (word_piece 4 (omega arith)) i) (sym (word_piece 8 (omega arith)) i) (sym (word_piece 12 (omega arith)) i)))
      ∙ here

  frame_fine : length piece ≡ 4116 → length b.offers ≡ b.front.offers → frames_stored b.roles < b.front.stored → first_failing (frame_piece piece b.front.frames (length b.roles) (place_of b)) ≡ None
  frame_fine long full more =
      let n : ℕ = b.front.frames in
      let inside = K.inside in
      let most = K.front.most in
      let kept : bad_frame all b.front.frames 0 (1556 + 16 * length b.offers) (frames_stored b.roles + suc (b.front.stored - suc (frames_stored b.roles))) ≡ None =
      (λ i. bad_frame all b.front.frames 0 (1556 + 16 * full i) ((let e : frames_stored b.roles + suc (b.front.stored - suc (frames_stored b.roles)) ≡ b.front.stored = omega arith in e) i)) ∙ (head b K (piece ++ rest) h).frames_kept in
      let over = frames_over all (piece ++ rest) b.front.frames b.roles b.bytes 0 0 (1556 + 16 * length b.offers) (suc (b.front.stored - suc (frames_stored b.roles))) (omega arith) K.size K.roles (frames_here b K (piece ++ rest) h) kept in
      let here : first_failing (frame_fields all b.front.frames (length b.roles) (place_of b)) ≡ None = ap (λ f. first_failing (frame_fields all b.front.frames f (place_of b))) (sym K.last) ∙ (neither _ _ over).0 in
      (λ i. first_failing (frame_tests b.front.frames (length b.roles) (place_of b) (sym (word_first (omega arith)) i) (sym (word_piece 4 (omega arith)) i) (sym (word_piece 8 (omega arith)) i) (sym (word_piece 12 (omega arith)) i) (sym (word_piece 16 (omega arith)) i)))
      ∙ here

  -- where there is no reason against bytes, there is none against a piece of them
  pub piece_fine : 0 < wanted b → length piece ≡ wanted b → piece_fault b piece ≡ None
  piece_fine some long = ap (option_map bad_field) (by (nat_lt (length b.offers) b.front.offers) (nat_lt (frames_stored b.roles) b.front.stored) refl refl)
    where
      by : (x y : Bool) → nat_lt (length b.offers) b.front.offers ≡ x → nat_lt (frames_stored b.roles) b.front.stored ≡ y → first_failing (piece_fields b piece) ≡ None
      by true y offer frame =
          ap (λ t. first_failing (if t then offer_piece piece (next_rank 0 b.offers) (place_of b) else frame_piece piece b.front.frames (length b.roles) (place_of b))) offer
          ∙ offer_fine (long ∙ ap (λ t. if t then 16 else if nat_lt (frames_stored b.roles) b.front.stored then 4116 else 0) offer) (ltb-true (length b.offers) b.front.offers offer)
      by false true offer frame =
          ap (λ t. first_failing (if t then offer_piece piece (next_rank 0 b.offers) (place_of b) else frame_piece piece b.front.frames (length b.roles) (place_of b))) offer
          ∙ frame_fine (long ∙ (λ i. if offer i then 16 else if frame i then 4116 else 0)) (let l = not_less (length b.offers) b.front.offers offer in let m = K.offers_most in omega arith) (ltb-true (frames_stored b.roles) b.front.stored frame)
      by false false offer frame =
          let none : wanted b ≡ 0 = (λ i. if offer i then 16 else if frame i then 4116 else 0) in
          absurd (omega (arith, none, some))

module _ (b : Begun) (K : IsBegun b) (rest : List ℕ) (h : fault_of (so_far b ++ rest) ≡ None) where
  -- what is behind has as many bytes as the next piece
  pub piece_there : wanted b ≤ length rest
  piece_there = by (nat_lt (length b.offers) b.front.offers) (nat_lt (frames_stored b.roles) b.front.stored) refl refl
    where
      by : (x y : Bool) → nat_lt (length b.offers) b.front.offers ≡ x → nat_lt (frames_stored b.roles) b.front.stored ≡ y → wanted b ≤ length rest
      by true y offer frame =
          let is : wanted b ≡ 16 = ap (λ t. if t then 16 else if nat_lt (frames_stored b.roles) b.front.stored then 4116 else 0) offer in
          let more = ltb-true (length b.offers) b.front.offers offer in
          let none : frames_stored b.roles ≡ 0 = ap frames_stored (K.offers_first more) in
          let l = rest_long b K rest h in
          omega (arith, is, more, none, l)
      by false true offer frame =
          let is : wanted b ≡ 4116 = (λ i. if offer i then 16 else if frame i then 4116 else 0) in
          let more = ltb-true (frames_stored b.roles) b.front.stored frame in
          let full = not_less (length b.offers) b.front.offers offer in
          let most = K.offers_most in
          let l = rest_long b K rest h in
          omega (arith, is, more, full, most, l)
      by false false offer frame =
          let is : wanted b ≡ 0 = (λ i. if offer i then 16 else if frame i then 4116 else 0) in
          omega (arith, is)

  -- nothing is behind the last one
  pub none_behind : wanted b ≡ 0 → length rest ≡ 0
  none_behind is = by (nat_lt (length b.offers) b.front.offers) (nat_lt (frames_stored b.roles) b.front.stored) refl refl
    where
      by : (x y : Bool) → nat_lt (length b.offers) b.front.offers ≡ x → nat_lt (frames_stored b.roles) b.front.stored ≡ y → length rest ≡ 0
      by true y offer frame = absurd (let e : 16 ≡ 0 = sym (ap (λ t. if t then 16 else if nat_lt (frames_stored b.roles) b.front.stored then 4116 else 0) offer) ∙ is in omega (arith, e))
      by false true offer frame = absurd (let e : 4116 ≡ 0 = sym (λ i. if offer i then 16 else if frame i then 4116 else 0) ∙ is in omega (arith, e))
      by false false offer frame =
          let full = not_less (length b.offers) b.front.offers offer in
          let all = not_less (frames_stored b.roles) b.front.stored frame in
          let most = K.offers_most in
          let few = K.stored_most in
          let l = rest_long b K rest h in
          omega (arith, full, all, most, few, l)

-- ---- A reader

no_none : {C : Type 0} (x : Option C) (c : C) → x ≡ None → x ≡ Some c → ⊥
no_none x c a b = let e : None ≡ Some c = sym a ∙ b in cc

-- the bytes of a front that is refused encode none, whatever is behind them
pub front_refused : (before after : Option (List ℕ)) (front : List ℕ) (fault : WideImageFault) → Consumes before after front → (length front < 1556 → IsAtEnd after) → length front ≤ 1556
    → front_fault front ≡ Some fault → NoneEncode [] before
front_refused None after front fault used ended most is = tt
front_refused (Some xs) None front fault used ended most is = absurd used
front_refused (Some xs) (Some ys) front fault used ended most is = λ h. by h (cases_lt (length front) 1556)
  where
    by : fault_of xs ≡ None → (length front < 1556) ⊎ (1556 ≤ length front) → ⊥
    by h (inl few) =
        let none : ys ≡ [] = ended few in
        let whole : xs ≡ front = used ∙ ap (λ t. front ++ t) none ∙ append-nil front in
        front_short front few (ap fault_of (sym whole) ∙ h)
    by h (inr all) = no_none (front_fault front) fault (front_fine front ys (omega (arith, most, all)) (ap fault_of (sym used) ∙ h)) is

module _ (b : Begun) (K : IsBegun b) where
  -- so it is with a piece that is refused
  pub piece_refused : (before after : Option (List ℕ)) (piece : List ℕ) (fault : WideImageFault) → Consumes before after piece → 0 < wanted b → length piece ≡ wanted b
      → piece_fault b piece ≡ Some fault → NoneEncode (so_far b) before
  piece_refused None after piece fault used some long is = tt
  piece_refused (Some xs) None piece fault used some long is = absurd used
  piece_refused (Some xs) (Some ys) piece fault used some long is = λ h.
      no_none (piece_fault b piece) fault (piece_fine b K piece ys (ap (λ t. fault_of (so_far b ++ t)) (sym used) ∙ h) some long) is

  -- and where fewer bytes are left
  pub piece_short : (remaining : Option (List ℕ)) → IfSome remaining (λ bytes. length bytes < wanted b) → NoneEncode (so_far b) remaining
  piece_short None few = tt
  piece_short (Some xs) few = λ h. (let there = piece_there b K xs h in omega (arith, there, few))

  -- and where some are left behind the last piece
  pub more_refused : (remaining : Option (List ℕ)) → wanted b ≡ 0 → IfSome remaining (λ bytes. bytes ≡ [] → ⊥) → NoneEncode (so_far b) remaining
  more_refused None none more = tt
  more_refused (Some xs) none more = λ h. more (empty xs (none_behind b K xs h none))
    where
      empty : (xs : List ℕ) → length xs ≡ 0 → xs ≡ []
      empty [] e = refl
      empty (x ∷ xs) e = absurd (omega (arith, e))

-- a piece that can't be read belongs to no snapshot
pub short_refused : (b : Begun) → IsBegun b → (remaining : Option (List ℕ)) (count : ℕ) (fault : WideReadFault) → count ≡ wanted b → IsShort remaining count fault → IsRefusedBehind (so_far b) remaining fault
short_refused b K remaining count ReadFailed is short = tt
short_refused b K remaining count (NotRead fault) is short = inr (piece_short b K remaining (subst (λ n. IfSome remaining (λ bytes. length bytes < n)) is short))

-- nor do bytes behind its last
pub end_refused : (b : Begun) → IsBegun b → (remaining : Option (List ℕ)) (fault : WideReadFault) → wanted b ≡ 0 → HasMore remaining fault → IsRefusedBehind (so_far b) remaining fault
end_refused b K remaining ReadFailed none more = tt
end_refused b K remaining (NotRead fault) none more = inr (more_refused b K remaining none more)

-- bytes that were read belong to those that there were
pub refused_from : (text : List ℕ) (before now : Option (List ℕ)) (fault : WideReadFault) → Consumes before now text → IsRefusedBehind text now fault → IsRefusedBehind [] before fault
refused_from text before now ReadFailed used refused = tt
refused_from text before now (NotRead fault) used (inl none) = inl none
refused_from text before now (NotRead fault) used (inr reason) = inr (by before now used reason)
  where
    by : (before now : Option (List ℕ)) → Consumes before now text → NoneEncode text now → NoneEncode [] before
    by None now used reason = tt
    by (Some xs) None used reason = absurd used
    by (Some xs) (Some ys) used reason = λ h. reason (ap fault_of (sym used) ∙ h)

-- a snapshot's bytes are refused only for want
pub for_want : {C : Type 0} (remaining : Option (List ℕ)) (r : Result C WideReadFault) → IfErr r (IsRefusedBehind [] remaining) → (image : WideImage) → HasWideFields image → remaining ≡ Some (text image) → IfErr r IsForWant
for_want remaining (Ok c) refused image H is = tt
for_want remaining (Err ReadFailed) refused image H is = tt
for_want remaining (Err (NotRead fault)) (inl none) image H is = none
for_want remaining (Err (NotRead fault)) (inr reason) image H is = absurd (subst (NoneEncode []) is reason (no_reason image H))
