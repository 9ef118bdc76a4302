-- No test refuses the records of a machine.
use Rattle.std.proofs.Common.{◌≡◌, ℕ, suc, ◌+◌, ◌*◌, ◌<◌, ◌≤◌, ◌^◌, Bool, true, false, not, ◌&&◌, List, [], ◌∷◌, ◌++◌, length, length-append, length-drop, length-take, take, drop, append_assoc, refl, sym, ap, ◌∙◌, arith, Option, Some, None}
use Rattle.std.specs.Prelude.{if◌then◌else◌, slice_get, nat_lt, nat_le, ◌==◌}
use Rattle.std.specs.List.{flat_map}
use Rattle.std.proofs.lemmas.Bool.{and_from, lt-ltb, le-leb}
use Rattle.std.proofs.lemmas.List.{drop-drop, drop_at}
use Rattle.phys_memory.specs.Bytes.{word_at}
use Rattle.alloc_table.specs.declared.Role.{Role}
use Rattle.alloc_table.specs.declared.Role.TheVariants.{Reserved, Free, Directory, Table, Page}
use Rattle.alloc_table.specs.Roles.{is_free}
use Rattle.memory_image.specs.Image.{IsRole, IsWord}
use Rattle.memory_image.specs.Spelling.{number, role_bytes}
use Rattle.memory_image.specs.Tests.{first_failing}
use Rattle.memory_image.proofs.SpellingLemmas.{role_wide}
use Rattle.memory_image.proofs.RespellLemmas.{word_of_number, word-shift, role_numbers, role_passes, role_four, role_small}
use Rattle.wide_image.specs.declared.offers.PendingOffer.{PendingOffer}
use Rattle.wide_image.specs.Layout.{frames_text, stored, frames_stored}
use Rattle.wide_image.specs.Offers.{rank, rank_of, IsPending, Rise, right_number, offer_bytes}
use Rattle.wide_image.specs.Faults.{first_of, offer_tests, offer_fields, bad_offer, frame_tests, frame_fields, bad_frame}

-- ---- Tests that hold

pub holds : {C : Type 0} (b : Bool) (c : C) (x : Option C) → b ≡ true → x ≡ None → (if b then x else Some c) ≡ None
holds true c x h k = k
holds false c x h k = cc

pub both_pass : {C : Type 0} (x y : Option C) → x ≡ None → y ≡ None → first_of x y ≡ None
both_pass None y h k = k
both_pass (Some c) y h k = cc

-- ---- Offers

offer_passes : (from place : ℕ) (o : PendingOffer) → IsPending o → from ≤ rank_of o → first_failing (offer_tests from place o.offerer o.page o.target (right_number o.write)) ≡ None
offer_passes from place o K low =
    holds (nat_lt o.offerer 64) place _ (lt-ltb o.offerer 64 K.offerer)
    (holds (nat_lt o.page 983040) (place + 4) _ (lt-ltb o.page 983040 K.page)
    (holds (nat_lt o.target 64) (place + 8) _ (lt-ltb o.target 64 K.target)
    (holds (nat_le (right_number o.write) 1) (place + 12) _ (right o.write)
    (holds (nat_le from (rank_of o)) place _ (le-leb from (rank_of o) low) refl))))
  where
    right : (b : Bool) → nat_le (right_number b) 1 ≡ true
    right true = refl
    right false = refl

pub right_small : (b : Bool) → IsWord (right_number b)
right_small true = omega arith
right_small false = omega arith

-- the numbers of an offer at a place
pub record IsOfferAt (bytes : List ℕ) (at : ℕ) (o : PendingOffer) : Type 0 where
  pub offerer : word_at bytes at ≡ o.offerer
  pub page : word_at bytes (at + 4) ≡ o.page
  pub target : word_at bytes (at + 8) ≡ o.target
  pub right : word_at bytes (at + 12) ≡ right_number o.write

pub offer_at : (bytes rest : List ℕ) (at : ℕ) (o : PendingOffer) → IsPending o → drop at bytes ≡ offer_bytes o ++ rest → IsOfferAt bytes at o
unfolding word_at
offer_at bytes rest at o K h =
    let w : (k : ℕ) → word_at bytes (at + k) ≡ word_at (offer_bytes o ++ rest) k = λ k. word-shift bytes (offer_bytes o ++ rest) at k h in
    let a = K.offerer in
    let b = K.page in
    let c = K.target in
    record {
      offerer = ap (word_at bytes) (let e : at ≡ at + 0 = omega arith in e) ∙ w 0 ∙ word_of_number o.offerer [] (omega arith);
      page = w 4 ∙ word_of_number o.page [] (omega arith);
      target = w 8 ∙ word_of_number o.target [] (omega arith);
      right = w 12 ∙ word_of_number (right_number o.write) [] (right_small o.write);
    }

-- offers in order are few
pub few_offers : (from : ℕ) (offers : List PendingOffer) → from ≤ 4290772992 → ((i : ℕ) (o : PendingOffer) → slice_get offers i ≡ Some o → IsPending o) → Rise from offers → from + length offers ≤ 4290772992
few_offers from [] most K rise = omega arith
few_offers from (o ∷ os) most K rise =
    let k = K 0 o refl in
    let a = k.offerer in
    let b = k.page in
    let c = k.target in
    let low = rise.0 in
    let rest = few_offers (rank_of o + 1) os (omega arith) (λ i x g. K (suc i) x g) rise.1 in
    omega (arith, rest, low)

pub offers_pass : (bytes rest : List ℕ) (offers : List PendingOffer) (from at : ℕ) → ((i : ℕ) (o : PendingOffer) → slice_get offers i ≡ Some o → IsPending o) → Rise from offers
    → drop at bytes ≡ flat_map offer_bytes offers ++ rest → bad_offer bytes from at (length offers) ≡ None
offers_pass bytes rest [] from at K rise h = refl
offers_pass bytes rest (o ∷ os) from at K rise h =
    let k : drop at bytes ≡ offer_bytes o ++ (flat_map offer_bytes os ++ rest) = h ∙ append_assoc (offer_bytes o) (flat_map offer_bytes os) rest in
    let n = offer_at bytes _ at o (K 0 o refl) k in
    let tail : drop (at + 16) bytes ≡ flat_map offer_bytes os ++ rest = sym (drop-drop 16 at bytes) ∙ ap (drop 16) k ∙ drop_at (offer_bytes o) (flat_map offer_bytes os ++ rest) 16 refl in
    both_pass (first_failing (offer_fields bytes from at)) _
    ((λ i. first_failing (offer_tests from at (n.offerer i) (n.page i) (n.target i) (n.right i))) ∙ offer_passes from at o (K 0 o refl) rise.0)
    ((λ i. bad_offer bytes (rank (n.offerer i) (n.page i) (n.target i) + 1) (at + 16) (length os)) ∙ offers_pass bytes rest os (rank_of o + 1) (at + 16) (λ i x g. K (suc i) x g) rise.1 tail)

-- ---- Frames

not_free : (r : Role) → is_free r ≡ false → (not ((role_numbers r).0 == 1)) ≡ true
not_free Reserved h = refl
not_free Free h = cc
not_free (Directory p) h = refl
not_free (Table p s) h = refl
not_free (Page c) h = refl

frame_passes : (n from place f : ℕ) (r : Role) → IsRole r → is_free r ≡ false → from ≤ f → f < n → first_failing (frame_tests n from place f (role_numbers r).0 (role_numbers r).1 (role_numbers r).2 (role_numbers r).3) ≡ None
frame_passes n from place f r K used low high =
    holds (nat_le from f && nat_lt f n) place _ (and_from (nat_le from f) (nat_lt f n) (le-leb from f low) (lt-ltb f n high))
    (holds (not ((role_numbers r).0 == 1)) (place + 4) _ (not_free r used) (role_passes (place + 4) r K))

pub record IsFrameAt (bytes : List ℕ) (at f : ℕ) (r : Role) : Type 0 where
  pub frame : word_at bytes at ≡ f
  pub role : word_at bytes (at + 4) ≡ (role_numbers r).0
  pub pid : word_at bytes (at + 8) ≡ (role_numbers r).1
  pub slot : word_at bytes (at + 12) ≡ (role_numbers r).2
  pub count : word_at bytes (at + 16) ≡ (role_numbers r).3

pub frame_at : (bytes rest : List ℕ) (at f : ℕ) (r : Role) → IsRole r → IsWord f → drop at bytes ≡ number f ++ (role_bytes r ++ rest) → IsFrameAt bytes at f r
unfolding word_at
frame_at bytes rest at f r K small h =
    let s = role_small r K in
    let k : drop at bytes ≡ number f ++ ((number (role_numbers r).0 ++ number (role_numbers r).1 ++ number (role_numbers r).2 ++ number (role_numbers r).3) ++ rest) = h ∙ ap (λ ys. number f ++ (ys ++ rest)) (role_four r) in
    let w : (o : ℕ) → word_at bytes (at + o) ≡ word_at (number f ++ ((number (role_numbers r).0 ++ number (role_numbers r).1 ++ number (role_numbers r).2 ++ number (role_numbers r).3) ++ rest)) o = λ o. word-shift bytes _ at o k in
    record {
      frame = ap (word_at bytes) (let e : at ≡ at + 0 = omega arith in e) ∙ w 0 ∙ word_of_number f [] small;
      role = w 4 ∙ word_of_number (role_numbers r).0 [] s.role;
      pid = w 8 ∙ word_of_number (role_numbers r).1 [] s.pid;
      slot = w 12 ∙ word_of_number (role_numbers r).2 [] s.slot;
      count = w 16 ∙ word_of_number (role_numbers r).3 [] s.count;
    }

pub frames_pass : (bytes : List ℕ) (n : ℕ) (roles : List Role) (parts : List ℕ) (from f at : ℕ) → n ≤ 2 ^ 32 → from ≤ f → f + length roles ≡ n → length parts ≡ 4096 * length roles
    → ((i : ℕ) (r : Role) → slice_get roles i ≡ Some r → IsRole r) → drop at bytes ≡ frames_text f roles parts → bad_frame bytes n from at (frames_stored roles) ≡ None
frames_pass bytes n [] parts from f at most low end size K h = refl
frames_pass bytes n (r ∷ roles) parts from f at most low end size K h =
    by (is_free r) refl (λ from at low h. frames_pass bytes n roles (drop 4096 parts) from (f + 1) at most low (omega arith) (omega (arith, length-drop 4096 parts)) (λ i x g. K (suc i) x g) h)
  where
    text : (b : Bool) → is_free r ≡ b → drop at bytes ≡ (if b then [] else number f ++ (role_bytes r ++ take 4096 parts)) ++ frames_text (f + 1) roles (drop 4096 parts)
    text b e = h ∙ ap (λ b. (if b then [] else number f ++ (role_bytes r ++ take 4096 parts)) ++ frames_text (f + 1) roles (drop 4096 parts)) e

    by : (b : Bool) → is_free r ≡ b
        → ((from at : ℕ) → from ≤ f + 1 → drop at bytes ≡ frames_text (f + 1) roles (drop 4096 parts) → bad_frame bytes n from at (frames_stored roles) ≡ None)
        → bad_frame bytes n from at (stored r + frames_stored roles) ≡ None
    by true free next =
        ap (bad_frame bytes n from at) (let s : stored r ≡ 0 = ap (λ b. if b then 0 else 1) free in let e : stored r + frames_stored roles ≡ frames_stored roles = omega arith in e)
        ∙ next from at (omega arith) (text true free)
    by false used next =
        let whole = length-take 4096 parts in
        let wide = role_wide r in
        let k : drop at bytes ≡ number f ++ (role_bytes r ++ (take 4096 parts ++ frames_text (f + 1) roles (drop 4096 parts))) =
        text false used ∙ append_assoc (number f) (role_bytes r ++ take 4096 parts) _ ∙ ap (λ t. number f ++ t) (append_assoc (role_bytes r) (take 4096 parts) _) in
        let a = frame_at bytes _ at f r (K 0 r refl) (omega arith) k in
        let long : length (number f ++ (role_bytes r ++ take 4096 parts)) ≡ 4116 = (let x = length-append (number f) (role_bytes r ++ take 4096 parts) in let y = length-append (role_bytes r) (take 4096 parts) in omega (arith, x, y, whole, wide)) in
        let tail : drop (at + 4116) bytes ≡ frames_text (f + 1) roles (drop 4096 parts) = sym (drop-drop 4116 at bytes) ∙ ap (drop 4116) (text false used) ∙ drop_at (number f ++ (role_bytes r ++ take 4096 parts)) _ 4116 long in
        ap (bad_frame bytes n from at) (let s : stored r ≡ 1 = ap (λ b. if b then 0 else 1) used in let e : stored r + frames_stored roles ≡ suc (frames_stored roles) = omega arith in e)
        ∙ both_pass (first_failing (frame_fields bytes n from at)) _
        ((λ i. first_failing (frame_tests n from at (a.frame i) (a.role i) (a.pid i) (a.slot i) (a.count i))) ∙ frame_passes n from at f r (K 0 r refl) used low (omega arith))
        ((λ i. bad_frame bytes n (a.frame i + 1) (at + 4116) (frames_stored roles)) ∙ next (f + 1) (at + 4116) (omega arith) tail)
