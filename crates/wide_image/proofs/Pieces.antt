-- A snapshot that grows by pieces.
use Rattle.std.proofs.Common.{◌≡◌, ℕ, zero, suc, ◌+◌, ◌*◌, ◌-◌, ◌<◌, ◌≤◌, ◌||◌, Bool, true, false, List, [], ◌∷◌, ◌++◌, length, length-append, length-take, length-drop, map, take, drop, append_assoc, append-nil, replicate, refl, sym, ap, subst, ◌∙◌, arith, inr, Some, None}
use Rattle.std.specs.Prelude.{◌==◌, if◌then◌else◌, nat_lt, nat_le, slice_get, slice_index}
use Rattle.std.specs.List.{flat_map, range_with_len}
use Rattle.std.proofs.lemmas.Bool.{eqb-true, leb-true, ltb-true}
use Rattle.std.proofs.lemmas.List.{drop-drop, take_all, length-replicate}
use Rattle.std.proofs.lemmas.List.FromFn.{length-map-range_with_len}
use Rattle.phys_memory.specs.Bytes.{word_at}
use Rattle.phys_memory.proofs.Words.{word_at-lt}
use Rattle.alloc_table.specs.declared.Role.{Role}
use Rattle.alloc_table.specs.declared.Role.TheVariants.{Free}
use Rattle.alloc_table.specs.Roles.{is_free}
use Rattle.memory_image.specs.Image.{IsRole, IsProcess}
use Rattle.memory_image.specs.Restored.{image_with}
use Rattle.memory_image.specs.Spelling.{number, process_bytes, role_bytes}
use Rattle.memory_image.specs.Tests.{first_failing}
use Rattle.memory_image.specs.Refusals.{process_fields}
use Rattle.memory_image.specs.Reading.{process_in}
use Rattle.memory_image.proofs.FieldLemmas.{none_both, none_each}
use Rattle.memory_image.proofs.PieceLemmas.{number_spells, take-more}
use Rattle.memory_image.proofs.ReadingLemmas.{chosen, no_fault, no_bad, or_none, not_less, unmapped, records_spelled, process_fits, role_kept}
use Rattle.wide_image.specs.declared.fronts.Front.{Front}
use Rattle.wide_image.specs.declared.offers.PendingOffer.{PendingOffer}
use Rattle.wide_image.specs.Faults.{front_fields, bad_field}
use Rattle.wide_image.specs.FirstBytes.{begins_snapshot, snapshot_magic}
use Rattle.wide_image.specs.Layout.{frames_text, frames_stored}
use Rattle.wide_image.specs.Offers.{rank_of, IsPending, Rise, offer_bytes}
use Rattle.wide_image.specs.Pieces.{front_text, IsFront, front_bad, front_fault, Begun, IsBegun, so_far, place_of, wanted, left, next_rank, next_frame, offer_piece, frame_piece, piece_fields, with_offer, with_frame}
use Rattle.wide_image.specs.Reading.{offer_at, role_at}
use Rattle.wide_image.specs.Wide.{WideImage, IsWhole, Encodes, text}
use Rattle.wide_image.proofs.FirstBytes.{snapshot_so}
use Rattle.wide_image.proofs.FrameTexts.{frames_both, free_text, one_more, stored_both, none_stored, stored_more, blank_both, blank_free, blank_more}
use Rattle.wide_image.proofs.Kept.{offer_kept, FrameKept, frame_kept}
use Rattle.wide_image.proofs.OfferTexts.{right_is}
use Rattle.wide_image.proofs.Records.{four_at, piece, each_both, each_free, each_one, long_more}

-- ---- Places

pub rank_end : (from : ℕ) (os : List PendingOffer) (o : PendingOffer) → next_rank from (os ++ o ∷ []) ≡ rank_of o + 1
rank_end from [] o = refl
rank_end from (p ∷ os) o = rank_end (rank_of p + 1) os o

rise_more : (from : ℕ) (os : List PendingOffer) (o : PendingOffer) → Rise from os → next_rank from os ≤ rank_of o → Rise from (os ++ o ∷ [])
rise_more from [] o r low = (low, tt)
rise_more from (p ∷ os) o r low = (r.0, rise_more (rank_of p + 1) os o r.1 low)

next_free : (from f k : ℕ) (role : Role) → is_free role ≡ false → next_frame from f (replicate k Free ++ role ∷ []) ≡ f + k + 1
next_free from f zero role used = ap (λ b. if b then from else f + 1) used ∙ (let e : f + 1 ≡ f + 0 + 1 = omega arith in e)
next_free from f (suc k) role used = next_free from (f + 1) k role used ∙ (let e : f + 1 + k + 1 ≡ f + suc k + 1 = omega arith in e)

next_end : (from f : ℕ) (roles : List Role) (k : ℕ) (role : Role) → is_free role ≡ false → next_frame from f (roles ++ (replicate k Free ++ role ∷ [])) ≡ f + length roles + k + 1
next_end from f [] k role used = next_free from f k role used ∙ (let e : f + k + 1 ≡ f + 0 + k + 1 = omega arith in e)
next_end from f (r ∷ roles) k role used =
    next_end (if is_free r then from else f + 1) (f + 1) roles k role used ∙ (let e : f + 1 + length roles + k + 1 ≡ f + suc (length roles) + k + 1 = omega arith in e)

-- ---- The front

-- what no reason against a front says of it
pub record FrontStands (xs : List ℕ) (n : ℕ) : Type 0 where
  pub magic : begins_snapshot xs ≡ true
  pub version : word_at xs 4 ≡ 1
  pub fewest : 16 ≤ n
  pub most : n ≤ 1048576
  pub long : 1556 ≤ length xs
  pub processes : (p : ℕ) → p < 64 → first_failing (process_fields xs n p) ≡ None
  pub stored : word_at xs 1552 ≤ n

pub front_of : (xs : List ℕ) → front_fault xs ≡ None → FrontStands xs (word_at xs 8)
unfolding front_fault front_bad
front_of xs h =
    let a = no_fault (begins_snapshot xs) _ _ h in
    let b = no_bad (nat_lt (length xs) 12) _ _ a.1 in
    let c = no_fault (word_at xs 4 == 1) _ _ b.1 in
    let d = no_bad (nat_lt (word_at xs 8) 16 || nat_lt 1048576 (word_at xs 8)) _ _ c.1 in
    let e = no_bad (nat_lt (length xs) 1556) _ _ d.1 in
    let g = or_none (nat_lt (word_at xs 8) 16) (nat_lt 1048576 (word_at xs 8)) d.0 in
    let j = unmapped bad_field (first_failing (front_fields xs (word_at xs 8) (word_at xs 1552))) e.1 in
    let t = none_both (flat_map (process_fields xs (word_at xs 8)) (range_with_len 0 64)) ((nat_le (word_at xs 1552) (word_at xs 8), 1552) ∷ []) j in
    let r = chosen (nat_le (word_at xs 1552) (word_at xs 8)) _ _ t.1 in
    record {
      magic = a.0;
      version = eqb-true (word_at xs 4) 1 c.0;
      fewest = not_less (word_at xs 8) 16 g.0;
      most = not_less 1048576 (word_at xs 8) g.1;
      long = not_less (length xs) 1556 e.0;
      processes = λ p low. none_each (process_fields xs (word_at xs 8)) 0 64 t.0 p (omega arith) (omega (arith, low));
      stored = leb-true (word_at xs 1552) (word_at xs 8) r.0;
    }

-- two pieces next to each other
joined : (xs : List ℕ) (a b c : ℕ) → take b (drop a xs) ++ take c (drop (a + b) xs) ≡ take (b + c) (drop a xs)
joined xs a b c = ap (λ ys. take b (drop a xs) ++ take c ys) (sym (drop-drop b a xs)) ∙ take-more b c (drop a xs)

module _ (xs : List ℕ) (small : (i : ℕ) → slice_index xs i < 256) (K : FrontStands xs (word_at xs 8)) where
  abbrev pub front_read : Front
  front_read = record { frames = word_at xs 8; processes = map (process_in xs) (range_with_len 0 64); offers = word_at xs 1548; stored = word_at xs 1552 }

  front-long : 1548 ≤ length xs
  front-long = let l = K.long in omega arith

  pub front_fits : IsFront front_read
  front_fits = record {
    fewest = K.fewest;
    most = K.most;
    offers = word_at-lt xs 1548 small;
    stored = K.stored;
    pids = length-map-range_with_len (process_in xs) 0 64;
    processes = process_fits xs small (word_at xs 8) front-long K.processes;
  }

  pub front_spelled : front_text front_read ≡ take 1556 xs
  unfolding front_text
  front_spelled =
      let l = K.long in
      (λ i. snapshot_magic ++ (number (sym K.version i) ++ (number (word_at xs 8) ++ (records_spelled xs small (word_at xs 8) front-long K.processes i ++ (number_spells xs 1548 small (omega arith) i ++ number_spells xs 1552 small (omega arith) i)))))
      ∙ (λ i. sym (snapshot_so xs K.magic) i ++ (number_spells xs 4 small (omega arith) i ++ (number_spells xs 8 small (omega arith) i ++ (take 1536 (drop 12 xs) ++ joined xs 1548 4 4 i))))
      ∙ (λ i. take 4 xs ++ (take 4 (drop 4 xs) ++ (take 4 (drop 8 xs) ++ joined xs 12 1536 8 i)))
      ∙ (λ i. take 4 xs ++ (take 4 (drop 4 xs) ++ joined xs 8 4 1544 i))
      ∙ (λ i. take 4 xs ++ joined xs 4 4 1548 i)
      ∙ take-more 4 1552 xs

pub text_first : (f : Front) (xs : List ℕ) → front_text f ≡ xs → so_far (record { front = f; offers = []; roles = []; bytes = [] }) ≡ xs
unfolding so_far
text_first f xs h = append-nil (front_text f) ∙ h

-- ---- An offer more

flat_more : {X : Type 0} (f : X → List ℕ) (xs : List X) (x : X) → flat_map f (xs ++ x ∷ []) ≡ flat_map f xs ++ f x
flat_more f [] x = append-nil (f x)
flat_more f (y ∷ ys) x = ap (λ t. f y ++ t) (flat_more f ys x) ∙ sym (append_assoc (f y) (flat_map f ys) (f x))

each_offer : (o : PendingOffer) → IsPending o → (i : ℕ) (p : PendingOffer) → slice_get (o ∷ []) i ≡ Some p → IsPending p
each_offer o K zero p h = let e : o ≡ p = cc in subst IsPending e K
each_offer o K (suc i) p h = cc

module _ (b : Begun) (K : IsBegun b) (bytes : List ℕ) (small : (i : ℕ) → slice_index bytes i < 256) (long : length bytes ≡ 16)
    (more : length b.offers < b.front.offers) (passes : first_failing (offer_piece bytes (next_rank 0 b.offers) (place_of b)) ≡ None) where
  offer_spelled : offer_bytes (offer_at bytes 0) ≡ bytes
  offer_spelled =
      let k = offer_kept (next_rank 0 b.offers) (place_of b) (word_at bytes 0) (word_at bytes 4) (word_at bytes 8) (word_at bytes 12) passes in
      ap (λ w. number (word_at bytes 0) ++ number (word_at bytes 4) ++ number (word_at bytes 8) ++ number w) (right_is (word_at bytes 12) k.right)
      ∙ four_at bytes small 0 4 8 12 refl refl refl (omega arith)
      ∙ take_all 16 bytes (omega arith)

  pub begun_offer : IsBegun (with_offer b (offer_at bytes 0))
  begun_offer =
      let k = offer_kept (next_rank 0 b.offers) (place_of b) (word_at bytes 0) (word_at bytes 4) (word_at bytes 8) (word_at bytes 12) passes in
      let l = length-append b.offers (offer_at bytes 0 ∷ []) in
      record {
        front = K.front;
        offers = record {
          pending = each_both IsPending b.offers _ K.offers.pending (each_offer (offer_at bytes 0) (record { offerer = k.offerer; page = k.page; target = k.target }));
          rise = rise_more 0 b.offers (offer_at bytes 0) K.offers.rise k.from;
        };
        offers_most = omega (arith, l);
        offers_first = λ _. K.offers_first more;
        inside = K.inside;
        last = K.last;
        roles = K.roles;
        size = K.size;
        blank = K.blank;
        stored_most = K.stored_most;
      }

  pub text_offer : so_far (with_offer b (offer_at bytes 0)) ≡ so_far b ++ bytes
  unfolding so_far
  text_offer =
      let none = K.offers_first more in
      ap (λ rs. front_text b.front ++ (flat_map offer_bytes (b.offers ++ offer_at bytes 0 ∷ []) ++ frames_text 0 rs b.bytes)) none
      ∙ ap (λ t. front_text b.front ++ t) (append-nil _ ∙ flat_more offer_bytes b.offers (offer_at bytes 0) ∙ ap (λ t. flat_map offer_bytes b.offers ++ t) offer_spelled)
      ∙ sym (append_assoc (front_text b.front) (flat_map offer_bytes b.offers) bytes)
      ∙ ap (λ t. (front_text b.front ++ t) ++ bytes) (sym (append-nil (flat_map offer_bytes b.offers)))
      ∙ sym (ap (λ rs. (front_text b.front ++ (flat_map offer_bytes b.offers ++ frames_text 0 rs b.bytes)) ++ bytes) none)

  pub left_offer : left b ≡ left (with_offer b (offer_at bytes 0)) + 1
  left_offer =
      let l = length-append b.offers (offer_at bytes 0 ∷ []) in
      let m = K.stored_most in
      omega (arith, l)

-- ---- A frame more

module _ (b : Begun) (K : IsBegun b) (bytes : List ℕ) (small : (i : ℕ) → slice_index bytes i < 256) (long : length bytes ≡ 4116)
    (full : length b.offers ≡ b.front.offers) (more : frames_stored b.roles < b.front.stored)
    (passes : first_failing (frame_piece bytes b.front.frames (length b.roles) (place_of b)) ≡ None) where
  abbrev grown : Begun
  grown = with_frame b (word_at bytes 0) (role_at bytes 0) (take 4096 (drop 20 bytes))

  kept : FrameKept b.front.frames (length b.roles) (place_of b) (word_at bytes 0) (word_at bytes 4) (word_at bytes 8) (word_at bytes 12) (word_at bytes 16)
  kept = frame_kept b.front.frames (length b.roles) (place_of b) (word_at bytes 0) (word_at bytes 4) (word_at bytes 8) (word_at bytes 12) (word_at bytes 16) passes

  kind : (role_bytes (role_at bytes 0) ≡ number (word_at bytes 4) ++ number (word_at bytes 8) ++ number (word_at bytes 12) ++ number (word_at bytes 16)) × IsRole (role_at bytes 0)
  kind = role_kept (place_of b + 4) (word_at bytes 4) (word_at bytes 8) (word_at bytes 12) (word_at bytes 16) kept.role (word_at-lt bytes 16 small)

  frame_spelled : number (word_at bytes 0) ++ (role_bytes (role_at bytes 0) ++ take 4096 (drop 20 bytes)) ≡ bytes
  frame_spelled = piece bytes small 0 0 0 (omega arith) 0 (omega arith) kind.0 ∙ take_all 4116 bytes (omega arith)

  whole : length (take 4096 (drop 20 bytes)) ≡ 4096
  whole = let a = length-take 4096 (drop 20 bytes) in let d = length-drop 20 bytes in omega (arith, a, d)

  pub begun_frame : IsBegun grown
  begun_frame =
      let from = kept.from in
      let below = kept.inside in
      let size = K.size in
      let w = whole in
      let a = length-append b.bytes (replicate (4096 * (word_at bytes 0 - length b.roles)) 0 ++ take 4096 (drop 20 bytes)) in
      let c = length-append (replicate (4096 * (word_at bytes 0 - length b.roles)) 0) (take 4096 (drop 20 bytes)) in
      let d = length-replicate {A = ℕ} (4096 * (word_at bytes 0 - length b.roles)) 0 in
      let l = long_more b.roles (word_at bytes 0) (role_at bytes 0) kept.from in
      let s = stored_more b.roles (word_at bytes 0 - length b.roles) (role_at bytes 0) kept.used in
      let e = next_end 0 0 b.roles (word_at bytes 0 - length b.roles) (role_at bytes 0) kept.used in
      record {
        front = K.front;
        offers = K.offers;
        offers_most = K.offers_most;
        offers_first = λ low. absurd (omega (arith, low));
        inside = omega (arith, l);
        last = e ∙ (let g : 0 + length b.roles + (word_at bytes 0 - length b.roles) + 1 ≡ word_at bytes 0 + 1 = omega arith in g) ∙ sym l;
        roles = each_both IsRole b.roles _ K.roles (each_both IsRole (replicate (word_at bytes 0 - length b.roles) Free) _ (each_free _) (each_one (role_at bytes 0) kind.1));
        size = omega (arith, a, c, d, l, w);
        blank = blank_more b.roles b.bytes (word_at bytes 0 - length b.roles) (role_at bytes 0) (take 4096 (drop 20 bytes)) K.size kept.used K.blank;
        stored_most = omega (arith, s);
      }

  pub stored_frame : frames_stored grown.roles ≡ frames_stored b.roles + 1
  stored_frame = stored_more b.roles (word_at bytes 0 - length b.roles) (role_at bytes 0) kept.used

  pub text_frame : so_far grown ≡ so_far b ++ bytes
  unfolding so_far
  text_frame =
      ap (λ t. front_text b.front ++ (flat_map offer_bytes b.offers ++ t))
      (one_more b.roles b.bytes (word_at bytes 0) (role_at bytes 0) (take 4096 (drop 20 bytes)) K.size kept.from kept.used whole
      ∙ ap (λ t. frames_text 0 b.roles b.bytes ++ t) frame_spelled)
      ∙ ap (λ t. front_text b.front ++ t) (sym (append_assoc (flat_map offer_bytes b.offers) (frames_text 0 b.roles b.bytes) bytes))
      ∙ sym (append_assoc (front_text b.front) (flat_map offer_bytes b.offers ++ frames_text 0 b.roles b.bytes) bytes)

  pub left_frame : left b ≡ left grown + 1
  left_frame = let s = stored_frame in omega (arith, s)

-- ---- Which piece it is

pub offer_wanted : (b : Begun) (bytes : List ℕ) → nat_lt (length b.offers) b.front.offers ≡ true → length bytes ≡ wanted b → first_failing (piece_fields b bytes) ≡ None
    → (length bytes ≡ 16) × (length b.offers < b.front.offers) × (first_failing (offer_piece bytes (next_rank 0 b.offers) (place_of b)) ≡ None)
offer_wanted b bytes offer long passes = (
  long ∙ ap (λ t. if t then 16 else if nat_lt (frames_stored b.roles) b.front.stored then 4116 else 0) offer,
  ltb-true (length b.offers) b.front.offers offer,
  sym (ap (λ t. first_failing (if t then offer_piece bytes (next_rank 0 b.offers) (place_of b) else frame_piece bytes b.front.frames (length b.roles) (place_of b))) offer) ∙ passes,
)

pub frame_wanted : (b : Begun) → IsBegun b → (bytes : List ℕ) → nat_lt (length b.offers) b.front.offers ≡ false → 0 < wanted b → length bytes ≡ wanted b → first_failing (piece_fields b bytes) ≡ None
    → (length bytes ≡ 4116) × (length b.offers ≡ b.front.offers) × (frames_stored b.roles < b.front.stored) × (first_failing (frame_piece bytes b.front.frames (length b.roles) (place_of b)) ≡ None)
frame_wanted b K bytes frame some long passes = by (nat_lt (frames_stored b.roles) b.front.stored) refl
  where
    by : (t : Bool) → nat_lt (frames_stored b.roles) b.front.stored ≡ t
        → (length bytes ≡ 4116) × (length b.offers ≡ b.front.offers) × (frames_stored b.roles < b.front.stored) × (first_failing (frame_piece bytes b.front.frames (length b.roles) (place_of b)) ≡ None)
    by true e = (
      long ∙ ap (λ t. if t then 16 else if nat_lt (frames_stored b.roles) b.front.stored then 4116 else 0) frame ∙ ap (λ t. if t then 4116 else 0) e,
      (let l = not_less (length b.offers) b.front.offers frame in let m = K.offers_most in omega arith),
      ltb-true (frames_stored b.roles) b.front.stored e,
      sym (ap (λ t. first_failing (if t then offer_piece bytes (next_rank 0 b.offers) (place_of b) else frame_piece bytes b.front.frames (length b.roles) (place_of b))) frame) ∙ passes,
    )
    by false e =
        let none : wanted b ≡ 0 = ap (λ t. if t then 16 else if nat_lt (frames_stored b.roles) b.front.stored then 4116 else 0) frame ∙ ap (λ t. if t then 4116 else 0) e in
        absurd (omega (arith, none, some))

-- ---- The end

none_wanted : (x y : Bool) → ◌≡◌ {A = ℕ} (if x then 16 else if y then 4116 else 0) 0 → (x ≡ false) × (y ≡ false)
none_wanted true y h = absurd (omega (arith, h))
none_wanted false true h = absurd (omega (arith, h))
none_wanted false false h = (refl, refl)

module _ (b : Begun) (K : IsBegun b) (none : wanted b ≡ 0) where
  abbrev pub finished : WideImage
  finished = record {
    image = image_with b.front.processes (b.roles ++ replicate (b.front.frames - length b.roles) Free) (b.bytes ++ replicate (4096 * (b.front.frames - length b.roles)) 0);
    offers = b.offers;
  }

  ended : (nat_lt (length b.offers) b.front.offers ≡ false) × (nat_lt (frames_stored b.roles) b.front.stored ≡ false)
  ended = none_wanted (nat_lt (length b.offers) b.front.offers) (nat_lt (frames_stored b.roles) b.front.stored) none

  full : length b.offers ≡ b.front.offers
  full = let l = not_less (length b.offers) b.front.offers ended.0 in let m = K.offers_most in omega arith

  all : frames_stored b.roles ≡ b.front.stored
  all = let l = not_less (frames_stored b.roles) b.front.stored ended.1 in let m = K.stored_most in omega arith

  frames-all : length finished.image.roles ≡ b.front.frames
  frames-all =
      let i = K.inside in
      let d = length-append b.roles (replicate (b.front.frames - length b.roles) Free) in
      let g = length-replicate (b.front.frames - length b.roles) Free in
      omega (arith, d, g)

  stored-all : frames_stored finished.image.roles ≡ b.front.stored
  stored-all =
      let a = stored_both b.roles (replicate (b.front.frames - length b.roles) Free) in
      let z = none_stored (b.front.frames - length b.roles) in
      let m = all in
      omega (arith, a, z, m)

  frames-text : frames_text 0 finished.image.roles finished.image.bytes ≡ frames_text 0 b.roles b.bytes
  frames-text =
      frames_both 0 b.roles (replicate (b.front.frames - length b.roles) Free) b.bytes (replicate (4096 * (b.front.frames - length b.roles)) 0) K.size
      ∙ ap (λ t. frames_text 0 b.roles b.bytes ++ t) (free_text (0 + length b.roles) (b.front.frames - length b.roles) (replicate (4096 * (b.front.frames - length b.roles)) 0))
      ∙ append-nil (frames_text 0 b.roles b.bytes)

  pub finished_whole : ((i : ℕ) → slice_index finished.image.bytes i < 256) → IsWhole finished
  finished_whole small =
      let F = K.front in
      let n = frames-all in
      let fewest = F.fewest in
      let most = F.most in
      let size = K.size in
      let a = length-append b.bytes (replicate (4096 * (b.front.frames - length b.roles)) 0) in
      let c = length-replicate {A = ℕ} (4096 * (b.front.frames - length b.roles)) 0 in
      let i = K.inside in
      record {
        fields = record {
          image = record {
            version = inr refl;
            most = omega arith;
            fewest = omega arith;
            pids = F.pids;
            processes = λ p r h. subst (λ j. IsProcess j p r) (sym n) (F.processes p r h);
            roles = each_both IsRole b.roles _ K.roles (each_free (b.front.frames - length b.roles));
            size = omega (arith, a, c);
            small = small;
          };
          today = refl;
          offers = K.offers;
        };
        blank = blank_both b.roles (replicate (b.front.frames - length b.roles) Free) b.bytes (replicate (4096 * (b.front.frames - length b.roles)) 0) K.size K.blank (blank_free (b.front.frames - length b.roles));
      }

  pub finished_text : so_far b ≡ text finished
  unfolding text so_far front_text
  finished_text =
      ap (λ t. snapshot_magic ++ (number 1 ++ (number b.front.frames ++ t))) (append_assoc (flat_map process_bytes b.front.processes) (number b.front.offers ++ number b.front.stored) (flat_map offer_bytes b.offers ++ frames_text 0 b.roles b.bytes))
      ∙ sym (λ i. snapshot_magic ++ (number 1 ++ (number (frames-all i) ++ (flat_map process_bytes b.front.processes ++ (number (full i) ++ (number (stored-all i) ++ (flat_map offer_bytes b.offers ++ frames-text i)))))))

  pub finished_encodes : ((i : ℕ) → slice_index finished.image.bytes i < 256) → Encodes (so_far b) finished
  finished_encodes small = record { whole = finished_whole small; is = finished_text }
