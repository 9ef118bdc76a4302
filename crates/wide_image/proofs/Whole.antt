-- Bytes against which there is no reason encode the snapshot that is read from them, and there is none against a
-- snapshot's.
use Rattle.std.proofs.Common.{◌≡◌, ℕ, ◌+◌, ◌*◌, ◌<◌, ◌≤◌, true, false, ◌||◌, List, [], ◌∷◌, ◌++◌, map, length, length-append, length-drop, take, drop, take-append-drop, refl, sym, ap, subst, ◌∙◌, arith, inr, Option, Some, None}
use Rattle.std.specs.Prelude.{◌==◌, nat_lt, nat_le, slice_get, slice_index}
use Rattle.std.specs.Option.{option_map, unwrap_or}
use Rattle.std.specs.List.{flat_map, range_with_len}
use Rattle.std.proofs.Math.Seq.{drop-append-add}
use Rattle.std.proofs.lemmas.Bool.{eqb-true, leb-true, eq-eqb, le-ltb, le-leb}
use Rattle.std.proofs.lemmas.List.{drop-drop, take_all}
use Rattle.std.proofs.lemmas.List.FromFn.{length-map-range_with_len}
use Rattle.phys_memory.specs.Bytes.{word_at}
use Rattle.alloc_table.specs.declared.Role.{Role}
use Rattle.alloc_table.specs.declared.Role.TheVariants.{Reserved, Free, Directory, Table, Page}
use Rattle.memory_image.specs.declared.processes.Process.{Process}
use Rattle.memory_image.specs.Image.{IsWord, IsProcess, frames}
use Rattle.memory_image.specs.Restored.{image_with}
use Rattle.memory_image.specs.Spelling.{number, process_bytes}
use Rattle.memory_image.specs.Tests.{first_failing}
use Rattle.memory_image.specs.Refusals.{process_fields}
use Rattle.memory_image.specs.Reading.{process_in}
use Rattle.memory_image.proofs.FieldLemmas.{none_both, none_each, append_none, each_none}
use Rattle.memory_image.proofs.PieceLemmas.{number_spells}
use Rattle.memory_image.proofs.SpellingLemmas.{process_wide, pieces_long}
use Rattle.memory_image.proofs.ReadingLemmas.{chosen, no_fault, no_bad, or_none, not_less, unmapped, rest_of, get-map, records_spelled, process_fits}
use Rattle.memory_image.proofs.RespellLemmas.{word_of_number, word-shift, passes_not, passes_other, processes_pass, AllProcess}
use Rattle.wide_image.specs.declared.faults.WideImageFault.TheVariants.{NotImage, BadLength, BadVersion, BadField}
use Rattle.wide_image.specs.declared.offers.PendingOffer.{PendingOffer}
use Rattle.wide_image.specs.FirstBytes.{begins_snapshot, snapshot_magic}
use Rattle.wide_image.specs.Layout.{frames_text, stored, frames_stored}
use Rattle.wide_image.specs.Offers.{IsPending, offer_bytes}
use Rattle.wide_image.specs.Wide.{WideImage, HasWideFields, text, Encodes}
use Rattle.wide_image.specs.Faults.{bad_offer, bad_frame, front_fields, first_bad, bad_field, fault_by, fault_with, fault_of}
use Rattle.wide_image.specs.Reading.{offer_in, offers_in, AreFrames}
use Rattle.wide_image.proofs.FirstBytes.{snapshot_so}
use Rattle.wide_image.proofs.FrameTexts.{frames_long}
use Rattle.wide_image.proofs.Loops.{neither}
use Rattle.wide_image.proofs.OfferTexts.{each_pending, offers_rise, offers_spelled}
use Rattle.wide_image.proofs.Passing.{few_offers, offers_pass, frames_pass, both_pass, holds}

-- what no reason against bytes says of them
pub record HeadStands (xs : List ℕ) (n offers stored : ℕ) : Type 0 where
  pub magic : begins_snapshot xs ≡ true
  pub version : word_at xs 4 ≡ 1
  pub fewest : 16 ≤ n
  pub most : n ≤ 1048576
  pub long : length xs ≡ 1556 + 16 * offers + 4116 * stored
  pub processes : (p : ℕ) → p < 64 → first_failing (process_fields xs n p) ≡ None
  pub within : stored ≤ n
  pub offers_kept : bad_offer xs 0 1556 offers ≡ None
  pub frames_kept : bad_frame xs n 0 (1556 + 16 * offers) stored ≡ None

pub head_of : (xs : List ℕ) → fault_of xs ≡ None → HeadStands xs (word_at xs 8) (word_at xs 1548) (word_at xs 1552)
unfolding fault_of first_bad
head_of xs h =
    let a = no_fault (begins_snapshot xs) _ _ h in
    let b = no_bad (nat_lt (length xs) 12) _ _ a.1 in
    let c = no_fault (word_at xs 4 == 1) _ _ b.1 in
    let d = no_bad (nat_lt (word_at xs 8) 16 || nat_lt 1048576 (word_at xs 8)) _ _ c.1 in
    let e = no_bad (nat_lt (length xs) 1556) _ _ d.1 in
    let f = no_fault (length xs == 1556 + 16 * word_at xs 1548 + 4116 * word_at xs 1552) _ _ e.1 in
    let g = or_none (nat_lt (word_at xs 8) 16) (nat_lt 1048576 (word_at xs 8)) d.0 in
    let j = neither (first_failing (front_fields xs (word_at xs 8) (word_at xs 1552))) _ (unmapped bad_field _ f.1) in
    let o = neither (bad_offer xs 0 1556 (word_at xs 1548)) _ j.1 in
    let t = none_both (flat_map (process_fields xs (word_at xs 8)) (range_with_len 0 64)) ((nat_le (word_at xs 1552) (word_at xs 8), 1552) ∷ []) j.0 in
    let r = chosen (nat_le (word_at xs 1552) (word_at xs 8)) _ _ t.1 in
    record {
      magic = a.0;
      version = eqb-true (word_at xs 4) 1 c.0;
      fewest = not_less (word_at xs 8) 16 g.0;
      most = not_less 1048576 (word_at xs 8) g.1;
      long = eqb-true (length xs) (1556 + 16 * word_at xs 1548 + 4116 * word_at xs 1552) f.0;
      processes = λ p low. none_each (process_fields xs (word_at xs 8)) 0 64 t.0 p (omega arith) (omega (arith, low));
      within = leb-true (word_at xs 1552) (word_at xs 8) r.0;
      offers_kept = o.0;
      frames_kept = o.1;
    }

-- the same of numbers that are read there
pub head_at : (xs : List ℕ) (n k m : ℕ) → n ≡ word_at xs 8 → k ≡ word_at xs 1548 → m ≡ word_at xs 1552 → fault_of xs ≡ None → HeadStands xs n k m
head_at xs n k m en ek em h =
    subst (λ n. HeadStands xs n k m) (sym en)
    (subst (λ k. HeadStands xs (word_at xs 8) k m) (sym ek)
    (subst (λ m. HeadStands xs (word_at xs 8) (word_at xs 1548) m) (sym em) (head_of xs h)))

module _ (xs : List ℕ) (small : (i : ℕ) → slice_index xs i < 256) (n k m : ℕ) (en : n ≡ word_at xs 8) (ek : k ≡ word_at xs 1548) (em : m ≡ word_at xs 1552) (K : HeadStands xs n k m)
    (roles : List Role) (store : List ℕ)
    (F : AreFrames xs n (1556 + 16 * k) m roles store) where
  abbrev read_so : WideImage
  read_so = record { image = image_with (map (process_in xs) (range_with_len 0 64)) roles store; offers = offers_in xs (k) }

  front-long : 1548 ≤ length xs
  front-long = let l = K.long in omega arith

  fields : HasWideFields read_so
  fields = record {
    image = record {
      version = inr refl;
      most = (let a = F.all in let most = K.most in omega arith);
      fewest = (let a = F.all in let fewest = K.fewest in omega arith);
      pids = length-map-range_with_len (process_in xs) 0 64;
      processes = λ p r h. subst (λ j. IsProcess j p r) (sym F.all) (process_fits xs small (n) front-long K.processes p r h);
      roles = F.read.kinds;
      size = F.read.size;
      small = F.small;
    };
    today = refl;
    offers = record {
      pending = λ i o h. let g = get-map (offer_in xs) k i o h in subst IsPending g.1 (each_pending xs small k K.offers_kept i g.0);
      rise = offers_rise xs small (k) K.offers_kept;
    };
  }

  respelled : xs ≡ text read_so
  unfolding text
  respelled =
      let l = K.long in
      let offers-long = length-map-range_with_len (offer_in xs) 0 (k) in
      let rest = length-drop (1556 + 16 * k) xs in
      let body : frames_text 0 roles store ≡ drop (1556 + 16 * k) xs = F.read.text ∙ take_all (4116 * m) (drop (1556 + 16 * k) xs) (omega arith) in
      let offers = rest_of xs 1556 (16 * k) (drop (1556 + 16 * k) xs) refl in
      let stored = rest_of xs 1552 4 (drop 1556 xs) refl in
      let offered = rest_of xs 1548 4 (drop 1552 xs) refl in
      let records = rest_of xs 12 1536 (drop 1548 xs) refl in
      let count = rest_of xs 8 4 (drop 12 xs) refl in
      let version = rest_of xs 4 4 (drop 8 xs) refl in
      let front = take-append-drop 4 xs in
      sym (
      (λ i. snapshot_magic ++ (number (sym K.version i) ++ (number ((F.all ∙ en) i) ++ (records_spelled xs small (n) front-long K.processes i ++ (number ((offers-long ∙ ek) i) ++ (number ((F.read.many ∙ em) i) ++ (offers_spelled xs small (k) K.offers_kept (omega arith) i ++ body i)))))))
      ∙ (λ i. snapshot_magic ++ (number_spells xs 4 small (omega arith) i ++ (number_spells xs 8 small (omega arith) i ++ (take 1536 (drop 12 xs) ++ (number_spells xs 1548 small (omega arith) i ++ (number_spells xs 1552 small (omega arith) i ++ offers i))))))
      ∙ (λ i. snapshot_magic ++ (take 4 (drop 4 xs) ++ (take 4 (drop 8 xs) ++ (take 1536 (drop 12 xs) ++ (take 4 (drop 1548 xs) ++ stored i)))))
      ∙ (λ i. snapshot_magic ++ (take 4 (drop 4 xs) ++ (take 4 (drop 8 xs) ++ (take 1536 (drop 12 xs) ++ offered i))))
      ∙ (λ i. snapshot_magic ++ (take 4 (drop 4 xs) ++ (take 4 (drop 8 xs) ++ records i)))
      ∙ (λ i. snapshot_magic ++ (take 4 (drop 4 xs) ++ count i))
      ∙ (λ i. snapshot_magic ++ version i)
      ∙ ap (λ ys. ys ++ drop 4 xs) (sym (snapshot_so xs K.magic))
      ∙ front)

  pub encoded : Encodes xs read_so
  encoded = record { whole = record { fields = fields; blank = F.read.blank }; is = respelled }

-- ---- No reason against a snapshot's text

pub offer_wide : (o : PendingOffer) → length (offer_bytes o) ≡ 16
offer_wide o = refl

pub stored_most : (roles : List Role) → frames_stored roles ≤ length roles
stored_most [] = omega arith
stored_most (role ∷ roles) = let k = stored_most roles in let m = at_most_one role in omega (arith, k, m)
  where
    at_most_one : (role : Role) → stored role ≤ 1
    at_most_one Reserved = omega arith
    at_most_one Free = omega arith
    at_most_one (Directory p) = omega arith
    at_most_one (Table p s) = omega arith
    at_most_one (Page c) = omega arith

module _ (w : WideImage) (H : HasWideFields w) where
  abbrev tail-4 : List ℕ
  tail-4 = flat_map offer_bytes w.offers ++ frames_text 0 w.image.roles w.image.bytes

  abbrev tail-3 : List ℕ
  tail-3 = number (length w.offers) ++ (number (frames_stored w.image.roles) ++ tail-4)

  records-at : drop 12 (text w) ≡ flat_map process_bytes w.image.processes ++ tail-3
  unfolding text
  records-at = refl

  counts-at : drop 1548 (text w) ≡ tail-3
  counts-at =
      let l = pieces_long process_bytes 24 process_wide w.image.processes in
      let p = H.image.pids in
      let e : 1536 ≡ length (flat_map process_bytes w.image.processes) + 0 = omega arith in
      sym (drop-drop 1536 12 (text w)) ∙ ap (drop 1536) records-at
      ∙ ap (λ n. drop n (flat_map process_bytes w.image.processes ++ tail-3)) e ∙ drop-append-add (flat_map process_bytes w.image.processes) tail-3 0

  offers-at : drop 1556 (text w) ≡ tail-4
  offers-at = sym (drop-drop 8 1548 (text w)) ∙ ap (drop 8) counts-at

  offers-long : length (flat_map offer_bytes w.offers) ≡ 16 * length w.offers
  offers-long = pieces_long offer_bytes 16 offer_wide w.offers

  frames-at : drop (1556 + 16 * length w.offers) (text w) ≡ frames_text 0 w.image.roles w.image.bytes
  frames-at =
      let l = offers-long in
      let e : 16 * length w.offers ≡ length (flat_map offer_bytes w.offers) + 0 = omega arith in
      sym (drop-drop (16 * length w.offers) 1556 (text w)) ∙ ap (drop (16 * length w.offers)) offers-at
      ∙ ap (λ n. drop n tail-4) e ∙ drop-append-add (flat_map offer_bytes w.offers) (frames_text 0 w.image.roles w.image.bytes) 0

  long : length (text w) ≡ 1556 + 16 * length w.offers + 4116 * frames_stored w.image.roles
  unfolding text
  long =
      let a = pieces_long process_bytes 24 process_wide w.image.processes in
      let p = H.image.pids in
      let b = offers-long in
      let f = frames_long 0 w.image.roles w.image.bytes H.image.size in
      let x = length-append (flat_map process_bytes w.image.processes) tail-3 in
      let y = length-append (flat_map offer_bytes w.offers) (frames_text 0 w.image.roles w.image.bytes) in
      omega (arith, a, p, b, f, x, y)

  frames-small : IsWord (frames w.image)
  frames-small = let m = H.image.most in omega arith

  version-read : word_at (text w) 4 ≡ 1
  unfolding text word_at
  version-read = word_of_number 1 [] (omega arith)

  frames-read : word_at (text w) 8 ≡ frames w.image
  unfolding text word_at
  frames-read = word_of_number (frames w.image) [] frames-small

  offers-read : word_at (text w) 1548 ≡ length w.offers
  unfolding word_at
  offers-read = word-shift (text w) tail-3 1548 0 counts-at ∙ word_of_number (length w.offers) [] (let f = few_offers 0 w.offers (omega arith) H.offers.pending H.offers.rise in omega arith)

  stored-read : word_at (text w) 1552 ≡ frames_stored w.image.roles
  unfolding word_at
  stored-read = word-shift (text w) tail-3 1548 4 counts-at ∙ word_of_number (frames_stored w.image.roles) [] (let m = stored_most w.image.roles in let f = frames-small in omega arith)

  fitting : (p : ℕ) (x : Option Process) → slice_get w.image.processes p ≡ Some x → AllProcess (frames w.image) p x
  fitting p None h = tt
  fitting p (Some r) h = H.image.processes p r (ap (λ o. unwrap_or o None) h)

  front-passes : first_failing (front_fields (text w) (frames w.image) (frames_stored w.image.roles)) ≡ None
  front-passes =
      append_none (flat_map (process_fields (text w) (frames w.image)) (range_with_len 0 64)) ((nat_le (frames_stored w.image.roles) (frames w.image), 1552) ∷ [])
      (each_none (process_fields (text w) (frames w.image)) 0 64 (λ p _ high. processes_pass (text w) tail-3 (frames w.image) w.image.processes H.image.most H.image.pids fitting records-at p (omega (arith, high))))
      ∙ holds (nat_le (frames_stored w.image.roles) (frames w.image)) 1552 _ (le-leb (frames_stored w.image.roles) (frames w.image) (stored_most w.image.roles)) refl

  all-pass : first_bad (text w) (frames w.image) (length w.offers) (frames_stored w.image.roles) ≡ None
  unfolding first_bad
  all-pass =
      both_pass _ _ front-passes
      (both_pass _ _ (offers_pass (text w) (frames_text 0 w.image.roles w.image.bytes) w.offers 0 1556 H.offers.pending H.offers.rise offers-at)
      (frames_pass (text w) (frames w.image) w.image.roles w.image.bytes 0 0 (1556 + 16 * length w.offers) (let m = H.image.most in omega arith) (omega arith) (omega arith) H.image.size H.image.roles frames-at))

  right-size : (nat_lt (frames w.image) 16 || nat_lt 1048576 (frames w.image)) ≡ false
  right-size = λ i. le-ltb (frames w.image) 16 H.image.fewest i || le-ltb 1048576 (frames w.image) H.image.most i

  begins-right : begins_snapshot (text w) ≡ true
  unfolding text
  begins-right = refl

  pub no_reason : fault_of (text w) ≡ None
  unfolding fault_of
  no_reason =
      passes_not (begins_snapshot (text w)) NotImage _ begins-right
      (passes_other (nat_lt (length (text w)) 12) BadLength _ (le-ltb (length (text w)) 12 (let l = long in omega arith))
      (passes_not (word_at (text w) 4 == 1) BadVersion _ (eq-eqb (word_at (text w) 4) 1 version-read)
      (ap (fault_with (text w)) frames-read
      ∙ passes_other (nat_lt (frames w.image) 16 || nat_lt 1048576 (frames w.image)) (BadField 8) _ right-size
      (passes_other (nat_lt (length (text w)) 1556) BadLength _ (le-ltb (length (text w)) 1556 (let l = long in omega arith))
      ((λ i. fault_by (text w) (frames w.image) (offers-read i) (stored-read i))
      ∙ passes_not (length (text w) == 1556 + 16 * length w.offers + 4116 * frames_stored w.image.roles) BadLength _ (eq-eqb (length (text w)) (1556 + 16 * length w.offers + 4116 * frames_stored w.image.roles) long)
      (ap (option_map bad_field) all-pass))))))
