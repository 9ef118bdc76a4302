-- Bytes against which there is no reason encode the image that is read from them.
use Rattle.std.proofs.Common.{◌≡◌, ℕ, zero, suc, ◌+◌, ◌*◌, ◌<◌, ◌≤◌, Bool, true, false, ◌&&◌, ◌||◌, not, List, [], ◌∷◌, ◌++◌, map, length, length-drop, take, drop, take-append-drop, refl, sym, ap, subst, ◌∙◌, arith, inl, inr, Option, Some, None}
use Rattle.std.specs.Prelude.{if◌then◌else◌, ◌==◌, ◌⊎◌, nat_lt, nat_le, slice_get, slice_index}
use Rattle.std.specs.Option.{option_map, unwrap_or}
use Rattle.std.specs.List.{flat_map, range_with_len}
use Rattle.std.proofs.lemmas.Bool.{and_parts, or_cases, cases_lt, eqb-true, eq-eqb, ltb-true, lt-ltb, leb-true}
use Rattle.std.proofs.lemmas.List.{drop-drop}
use Rattle.std.proofs.lemmas.List.Folds.{flat_map-map}
use Rattle.std.proofs.lemmas.List.FromFn.{length-map-range_with_len, get_or-map-range_with_len}
use Rattle.std.proofs.lemmas.Option.{slice_get_within, get_or_from_slice_get}
use Rattle.phys_memory.specs.Bytes.{word_at}
use Rattle.phys_memory.proofs.Words.{word_at-lt}
use Rattle.memory_image.specs.declared.processes.Process.{Process}
use Rattle.memory_image.specs.Image.{IsWord, IsProcess, IsRole, IsImage}
use Rattle.memory_image.specs.Spelling.{magic, number, process_bytes, role_bytes, spelling, Spells}
use Rattle.memory_image.specs.Tests.{first_failing}
use Rattle.memory_image.specs.Refusals.{begins, process_tests, role_tests, process_place, role_place, process_fields, role_fields, fields, bad_field, fault_of}
use Rattle.memory_image.specs.Reading.{process_of_numbers, process_in, role_of_numbers, role_in, image_in, HasParent, HasOwner}
use Rattle.memory_image.proofs.FieldLemmas.{none_both, none_each}
use Rattle.memory_image.proofs.PieceLemmas.{number_spells, take-more, pieces, small-drop}

pub chosen : {C : Type 0} (b : Bool) (x : Option C) (c : C) → (if b then x else Some c) ≡ None → (b ≡ true) × (x ≡ None)
chosen true x c h = (refl, h)
chosen false x c h = cc

-- ---- One record of a process

-- the numbers of a live process's record
record AreLive (n p l q d : ℕ) : Type 0 where
  one : l ≡ 1
  parent : q < 64
  root : p ≡ 0 → q ≡ 0
  directory : d < n

-- those of another's are all 0
record AreZero (l q a u g d : ℕ) : Type 0 where
  live : l ≡ 0
  parent : q ≡ 0
  quota : a ≡ 0
  used : u ≡ 0
  given : g ≡ 0
  directory : d ≡ 0

process_kept : (n p place live parent quota used given directory : ℕ) → first_failing (process_tests n p place live parent quota used given directory) ≡ None
    → AreLive n p live parent directory ⊎ AreZero live parent quota used given directory
process_kept n p place live parent quota used given directory h = by (live == 1) refl h
  where
    by : (b : Bool) → (live == 1) ≡ b
        → first_failing ((b || live == 0, place) ∷ ((if b then nat_lt parent 64 && (not (p == 0) || parent == 0) else parent == 0), place + 4) ∷ (b || quota == 0, place + 8) ∷ (b || used == 0, place + 12) ∷ (b || given == 0, place + 16) ∷ ((if b then nat_lt directory n else directory == 0), place + 20) ∷ []) ≡ None
        → AreLive n p live parent directory ⊎ AreZero live parent quota used given directory
    by true e h =
        let a = chosen (nat_lt parent 64 && (not (p == 0) || parent == 0)) _ _ h in
        let b = and_parts (nat_lt parent 64) (not (p == 0) || parent == 0) a.0 in
        let d = chosen (nat_lt directory n) _ _ a.1 in
        inl (record {
          one = eqb-true live 1 e;
          parent = ltb-true parent 64 b.0;
          root = λ z. elim (or_cases (not (p == 0)) (parent == 0) b.1) [
            | inl other ↦ absurd (let y = eq-eqb p 0 z in cc)
            | inr same ↦ eqb-true parent 0 same
          ];
          directory = ltb-true directory n d.0;
        })
    by false e h =
        let a = chosen (live == 0) _ _ h in
        let b = chosen (parent == 0) _ _ a.1 in
        let c = chosen (quota == 0) _ _ b.1 in
        let d = chosen (used == 0) _ _ c.1 in
        let f = chosen (given == 0) _ _ d.1 in
        let g = chosen (directory == 0) _ _ f.1 in
        inr (record { live = eqb-true live 0 a.0; parent = eqb-true parent 0 b.0; quota = eqb-true quota 0 c.0; used = eqb-true used 0 d.0; given = eqb-true given 0 f.0; directory = eqb-true directory 0 g.0 })

abbrev six : ℕ → ℕ → ℕ → ℕ → ℕ → ℕ → List ℕ
six live parent quota used given directory = number live ++ number parent ++ number quota ++ number used ++ number given ++ number directory

process_respelled : (n p live parent quota used given directory : ℕ) → AreLive n p live parent directory ⊎ AreZero live parent quota used given directory
    → process_bytes (process_of_numbers live parent quota used given directory) ≡ six live parent quota used given directory
process_respelled n p live parent quota used given directory (inl l) = rw l.one refl
process_respelled n p live parent quota used given directory (inr z) = rw (z.live, z.parent, z.quota, z.used, z.given, z.directory) refl

process_read : (n p live parent quota used given directory : ℕ) (r : Process) → AreLive n p live parent directory ⊎ AreZero live parent quota used given directory
    → IsWord quota → IsWord used → IsWord given → process_of_numbers live parent quota used given directory ≡ Some r → IsProcess n p r
process_read n p live parent quota used given directory r (inr z) q u g h = let k : None ≡ Some r = (rw z.live at h) in cc
process_read n p live parent quota used given directory r (inl l) q u g h =
    let k : ◌≡◌ {A = Option Process} (Some (record { parent = parent; quota = quota; used = used; given = given; directory = directory })) (Some r) = (rw l.one at h) in
    let e : record { parent = parent; quota = quota; used = used; given = given; directory = directory } ≡ r = ap (λ o. unwrap_or o r) k in
    subst (IsProcess n p) e (record { parent = l.parent; root = l.root; quota = q; used = u; given = g; directory = l.directory })

-- ---- One record of a frame

pub role_kept : (place role pid slot count : ℕ) → first_failing (role_tests place role pid slot count) ≡ None → IsWord count
    → (role_bytes (role_of_numbers role pid slot count) ≡ number role ++ number pid ++ number slot ++ number count) × IsRole (role_of_numbers role pid slot count)
role_kept place zero pid slot count h small =
    let a = chosen (pid == 0) _ _ h in
    let b = chosen (slot == 0) _ _ a.1 in
    let c = chosen (count == 0) _ _ b.1 in
    let x = eqb-true pid 0 a.0 in let y = eqb-true slot 0 b.0 in let z = eqb-true count 0 c.0 in
    (sym (λ i. number 0 ++ number (x i) ++ number (y i) ++ number (z i)), tt)
role_kept place (suc zero) pid slot count h small =
    let a = chosen (pid == 0) _ _ h in
    let b = chosen (slot == 0) _ _ a.1 in
    let c = chosen (count == 0) _ _ b.1 in
    let x = eqb-true pid 0 a.0 in let y = eqb-true slot 0 b.0 in let z = eqb-true count 0 c.0 in
    (sym (λ i. number 1 ++ number (x i) ++ number (y i) ++ number (z i)), tt)
role_kept place (suc (suc zero)) pid slot count h small =
    let a = chosen (nat_lt pid 64) _ _ h in
    let b = chosen (slot == 0) _ _ a.1 in
    let c = chosen (count == 0) _ _ b.1 in
    let y = eqb-true slot 0 b.0 in let z = eqb-true count 0 c.0 in
    (sym (λ i. number 2 ++ number pid ++ number (y i) ++ number (z i)), ltb-true pid 64 a.0)
role_kept place (suc (suc (suc zero))) pid slot count h small =
    let a = chosen (nat_lt pid 64) _ _ h in
    let b = chosen (nat_lt slot 1024) _ _ a.1 in
    let c = chosen (count == 0) _ _ b.1 in
    let z = eqb-true count 0 c.0 in
    (sym (λ i. number 3 ++ number pid ++ number slot ++ number (z i)), (ltb-true pid 64 a.0, ltb-true slot 1024 b.0))
role_kept place (suc (suc (suc (suc zero)))) pid slot count h small =
    let a = chosen (pid == 0) _ _ h in
    let b = chosen (slot == 0) _ _ a.1 in
    let x = eqb-true pid 0 a.0 in let y = eqb-true slot 0 b.0 in
    (sym (λ i. number 4 ++ number (x i) ++ number (y i) ++ number count), small)
role_kept place (suc (suc (suc (suc (suc k))))) pid slot count h small = absurd (let a = leb-true (suc (suc (suc (suc (suc k))))) 4 (chosen (nat_le (suc (suc (suc (suc (suc k))))) 4) _ _ h).0 in omega arith)

pub role_owner : (place role pid slot count : ℕ) → first_failing (role_tests place role pid slot count) ≡ None → (role ≡ 2) ⊎ (role ≡ 3) → pid < 64
role_owner place role pid slot count h (inl e) = ltb-true pid 64 (chosen (nat_lt pid 64) _ _ (rw e at h)).0
role_owner place role pid slot count h (inr e) = ltb-true pid 64 (chosen (nat_lt pid 64) _ _ (rw e at h)).0

-- ---- All of them

-- numbers at neighbouring places spell the bytes there
module _ (xs : List ℕ) (small : (i : ℕ) → slice_index xs i < 256) where
  one-more : (place width : ℕ) (rest : List ℕ) → place + 4 ≤ length xs → rest ≡ take width (drop (place + 4) xs)
      → number (word_at xs place) ++ rest ≡ take (4 + width) (drop place xs)
  one-more place width rest inside h =
      (λ i. number_spells xs place small inside i ++ h i)
      ∙ ap (λ ys. take 4 (drop place xs) ++ take width ys) (ap (λ k. drop k xs) (let e : place + 4 ≡ place + 4 = refl in e) ∙ sym (drop-drop 4 place xs))
      ∙ take-more 4 width (drop place xs)

  pub four_numbers : (place : ℕ) → place + 16 ≤ length xs
      → number (word_at xs place) ++ number (word_at xs (place + 4)) ++ number (word_at xs (place + 8)) ++ number (word_at xs (place + 12)) ≡ take 16 (drop place xs)
  four_numbers place inside =
      one-more place 12 _ (omega arith) (at (place + 4) (place + 8) (place + 12) (omega arith) (omega arith) (omega arith))
    where
      at : (a b c : ℕ) → b ≡ a + 4 → c ≡ a + 8 → a + 12 ≤ length xs → number (word_at xs a) ++ number (word_at xs b) ++ number (word_at xs c) ≡ take 12 (drop a xs)
      at a b c e f inside =
          one-more a 8 _ (omega arith)
          (ap (λ k. number (word_at xs k) ++ number (word_at xs c)) e
          ∙ one-more (a + 4) 4 _ (omega arith) (ap (λ k. number (word_at xs k)) (let g : c ≡ a + 4 + 4 = omega arith in g) ∙ number_spells xs (a + 4 + 4) small (omega arith)))

  six_numbers : (place : ℕ) → place + 24 ≤ length xs
      → six (word_at xs place) (word_at xs (place + 4)) (word_at xs (place + 8)) (word_at xs (place + 12)) (word_at xs (place + 16)) (word_at xs (place + 20)) ≡ take 24 (drop place xs)
  six_numbers place inside =
      one-more place 20 _ (omega arith)
      (ap (λ ys. number (word_at xs (place + 4)) ++ ys) (at (place + 8) (place + 12) (place + 16) (place + 20) (omega arith) (omega arith) (omega arith) (omega arith))
      ∙ one-more (place + 4) 16 _ (omega arith) (ap (λ k. take 16 (drop k xs)) (let g : place + 8 ≡ place + 4 + 4 = omega arith in g)))
    where
      at : (a b c d : ℕ) → b ≡ a + 4 → c ≡ a + 8 → d ≡ a + 12 → a + 16 ≤ length xs
          → number (word_at xs a) ++ number (word_at xs b) ++ number (word_at xs c) ++ number (word_at xs d) ≡ take 16 (drop a xs)
      at a b c d e f g inside = (λ i. number (word_at xs a) ++ number (word_at xs (e i)) ++ number (word_at xs (f i)) ++ number (word_at xs (g i))) ∙ four_numbers a inside

pub flat-same : {A : Type 0} (f g : ℕ → List A) (first count : ℕ) → ((k : ℕ) → first ≤ k → k < first + count → f k ≡ g k) → flat_map f (range_with_len first count) ≡ flat_map g (range_with_len first count)
flat-same f g first zero h = refl
flat-same f g first (suc count) h = λ i. h first (omega arith) (omega arith) i ++ flat-same f g (first + 1) count (λ k low high. h k (omega arith) (omega arith)) i

pub get-map : {X : Type 0} (f : ℕ → X) (n p : ℕ) (x : X) → slice_get (map f (range_with_len 0 n)) p ≡ Some x → (p < n) × (f p ≡ x)
get-map f n p x h =
    let inside : p < n = (let w = slice_get_within (map f (range_with_len 0 n)) p x h in let l = length-map-range_with_len f 0 n in omega arith) in
    (inside, sym (get_or-map-range_with_len f 0 n p p x inside (omega arith)) ∙ get_or_from_slice_get (map f (range_with_len 0 n)) p x x h)

pub some-unwrapped : {X : Type 0} (x : Option (Option X)) (r : X) → unwrap_or x None ≡ Some r → x ≡ Some (Some r)
some-unwrapped None r h = cc
some-unwrapped (Some y) r h = ap Some h

-- a part of a list, and what comes after it
pub rest_of : (xs : List ℕ) (a b : ℕ) (ys : List ℕ) → ys ≡ drop (a + b) xs → take b (drop a xs) ++ ys ≡ drop a xs
rest_of xs a b ys h = ap (λ zs. take b (drop a xs) ++ zs) (h ∙ sym (drop-drop b a xs)) ∙ take-append-drop b (drop a xs)

-- ---- The records of processes, in an image of n frames

module _ (xs : List ℕ) (small : (i : ℕ) → slice_index xs i < 256) (n : ℕ) (long : 1548 ≤ length xs) (kept : (p : ℕ) → p < 64 → first_failing (process_fields xs n p) ≡ None) where
  process-kind : (p : ℕ) → p < 64 → AreLive n p (word_at xs (process_place p)) (word_at xs (process_place p + 4)) (word_at xs (process_place p + 20))
      ⊎ AreZero (word_at xs (process_place p)) (word_at xs (process_place p + 4)) (word_at xs (process_place p + 8)) (word_at xs (process_place p + 12)) (word_at xs (process_place p + 16)) (word_at xs (process_place p + 20))
  process-kind p low = process_kept n p (process_place p) _ _ _ _ _ _ (kept p low)

  process-piece : (p : ℕ) → p < 64 → process_bytes (process_in xs p) ≡ take 24 (drop (12 + 24 * p) xs)
  process-piece p low =
      process_respelled n p _ _ _ _ _ _ (process-kind p low)
      ∙ six_numbers xs small (process_place p) (omega arith)

  -- their bytes are those at their places
  pub records_spelled : flat_map process_bytes (map (process_in xs) (range_with_len 0 64)) ≡ take 1536 (drop 12 xs)
  records_spelled =
      flat_map-map process_bytes (process_in xs) (range_with_len 0 64)
      ∙ flat-same (λ p. process_bytes (process_in xs p)) (λ p. take 24 (drop (12 + 24 * p) xs)) 0 64 (λ p _ high. process-piece p (omega (arith, high)))
      ∙ pieces xs 24 12 0 64

  -- their numbers are within their limits
  pub process_fits : (p : ℕ) (r : Process) → unwrap_or (slice_get (map (process_in xs) (range_with_len 0 64)) p) None ≡ Some r → IsProcess n p r
  process_fits p r h =
      let k = get-map (process_in xs) 64 p (Some r) (some-unwrapped _ r h) in
      process_read n p _ _ _ _ _ _ r (process-kind p k.0) (word_at-lt xs (process_place p + 8) small) (word_at-lt xs (process_place p + 12) small) (word_at-lt xs (process_place p + 16) small) k.1

-- a live process's parent is the number of one
pub parent_in : (xs : List ℕ) (n p : ℕ) → first_failing (process_fields xs n p) ≡ None → HasParent xs p
parent_in xs n p kept live = elim (process_kept n p (process_place p) _ _ _ _ _ _ kept) [
  | inl l ↦ l.parent
  | inr z ↦ absurd (let a = z.live in let b : 0 ≡ 1 = sym a ∙ live in cc)
]

-- what no reason against bytes says of them
pub record HeadStands (xs : List ℕ) (n : ℕ) : Type 0 where
  pub magic : begins xs ≡ true
  pub version : (word_at xs 4 ≡ 1) ⊎ (word_at xs 4 ≡ 2)
  pub fewest : 16 ≤ n
  pub most : n ≤ 4096
  pub long : length xs ≡ 1548 + 4112 * n
  pub processes : (p : ℕ) → p < 64 → first_failing (process_fields xs n p) ≡ None
  pub roles : (f : ℕ) → f < n → first_failing (role_fields xs f) ≡ None

pub no_fault : {X : Type 0} (b : Bool) (x : X) (y : Option X) → (if not b then Some x else y) ≡ None → (b ≡ true) × (y ≡ None)
no_fault true x y h = (refl, h)
no_fault false x y h = cc

pub no_bad : {X : Type 0} (b : Bool) (x : X) (y : Option X) → (if b then Some x else y) ≡ None → (b ≡ false) × (y ≡ None)
no_bad true x y h = cc
no_bad false x y h = (refl, h)

pub or_none : (a b : Bool) → (a || b) ≡ false → (a ≡ false) × (b ≡ false)
or_none true b h = cc
or_none false b h = (refl, h)

pub not_less : (a b : ℕ) → nat_lt a b ≡ false → b ≤ a
not_less a b h = elim (cases_lt a b) [
  | inl low ↦ absurd (let y = lt-ltb a b low in cc)
  | inr high ↦ high
]

pub unmapped : {A B : Type 0} (f : A → B) (x : Option A) → option_map f x ≡ None → x ≡ None
unmapped f None h = refl
unmapped f (Some a) h = cc

pub kept_of : (xs : List ℕ) → fault_of xs ≡ None → HeadStands xs (word_at xs 8)
unfolding fault_of fields
kept_of xs h =
    let n : ℕ = word_at xs 8 in
    let a = no_fault (begins xs) _ _ h in
    let b = no_bad (nat_lt (length xs) 12) _ _ a.1 in
    let c = no_fault (word_at xs 4 == 1 || word_at xs 4 == 2) _ _ b.1 in
    let d = no_bad (nat_lt (word_at xs 8) 16 || nat_lt 4096 (word_at xs 8)) _ _ c.1 in
    let e = no_fault (length xs == 1548 + 4112 * word_at xs 8) _ _ d.1 in
    let f = or_none (nat_lt (word_at xs 8) 16) (nat_lt 4096 (word_at xs 8)) d.0 in
    let g = none_both (flat_map (process_fields xs (word_at xs 8)) (range_with_len 0 64)) (flat_map (role_fields xs) (range_with_len 0 (word_at xs 8))) (unmapped bad_field _ e.1) in
    record {
      magic = a.0;
      version = elim (or_cases (word_at xs 4 == 1) (word_at xs 4 == 2) c.0) [ inl y ↦ inl (eqb-true (word_at xs 4) 1 y) | inr y ↦ inr (eqb-true (word_at xs 4) 2 y) ];
      fewest = not_less (word_at xs 8) 16 f.0;
      most = not_less 4096 (word_at xs 8) f.1;
      long = eqb-true (length xs) (1548 + 4112 * word_at xs 8) e.0;
      processes = λ p low. none_each (process_fields xs (word_at xs 8)) 0 64 g.0 p (omega arith) (omega (arith, low));
      roles = λ f low. none_each (role_fields xs) 0 (word_at xs 8) g.1 f (omega arith) (omega (arith, low));
    }

pub begins_so : (xs : List ℕ) → begins xs ≡ true → take 4 xs ≡ magic
begins_so [] h = cc
begins_so (a ∷ []) h = cc
begins_so (a ∷ b ∷ []) h = cc
begins_so (a ∷ b ∷ c ∷ []) h = cc
begins_so (a ∷ b ∷ c ∷ d ∷ rest) h =
    let k = and_parts (a == 0x6d && b == 0x43 && c == 0x32) (d == 0x49) h in
    let l = and_parts (a == 0x6d && b == 0x43) (c == 0x32) k.0 in
    let m = and_parts (a == 0x6d) (b == 0x43) l.0 in
    λ i. eqb-true a 0x6d m.0 i ∷ eqb-true b 0x43 m.1 i ∷ eqb-true c 0x32 l.1 i ∷ eqb-true d 0x49 k.1 i ∷ []

module _ (xs : List ℕ) (small : (i : ℕ) → slice_index xs i < 256) (K : HeadStands xs (word_at xs 8)) where
  n : ℕ
  n = word_at xs 8

  word-small : (place : ℕ) → IsWord (word_at xs place)
  word-small place = word_at-lt xs place small

  role-read : (f : ℕ) → f < word_at xs 8 → (role_bytes (role_in xs f) ≡ take 16 (drop (1548 + 16 * f) xs)) × IsRole (role_in xs f)
  role-read f low =
      let k = role_kept (role_place f) (word_at xs (role_place f)) _ _ _ (K.roles f low) (word-small (role_place f + 12)) in
      (k.0 ∙ four_numbers xs small (role_place f) (let l = K.long in omega arith), k.1)

  roles-long : length (map (role_in xs) (range_with_len 0 (word_at xs 8))) ≡ word_at xs 8
  roles-long = length-map-range_with_len (role_in xs) 0 (word_at xs 8)

  body-long : length (drop (1548 + 16 * word_at xs 8) xs) ≡ 4096 * word_at xs 8
  body-long = let l = K.long in let d = length-drop (1548 + 16 * word_at xs 8) xs in omega arith

  pub is_image : IsImage (image_in xs)
  is_image = record {
    version = K.version;
    most = (let l = roles-long in let k = K.most in omega arith);
    fewest = (let l = roles-long in let k = K.fewest in omega arith);
    pids = length-map-range_with_len (process_in xs) 0 64;
    processes = λ p r h. subst (λ m. IsProcess m p r) (sym roles-long) (process_fits xs small (word_at xs 8) (let l = K.long in omega arith) K.processes p r h);
    roles = λ f r h. let k = get-map (role_in xs) (word_at xs 8) f r h in subst IsRole k.1 (role-read f k.0).1;
    size = body-long ∙ ap (λ m. 4096 * m) (sym roles-long);
    small = small-drop xs (1548 + 16 * word_at xs 8) small;
  }

  processes-spelled : flat_map process_bytes (map (process_in xs) (range_with_len 0 64)) ≡ take 1536 (drop 12 xs)
  processes-spelled = records_spelled xs small (word_at xs 8) (let l = K.long in omega arith) K.processes

  roles-spelled : flat_map role_bytes (map (role_in xs) (range_with_len 0 (word_at xs 8))) ≡ take (16 * word_at xs 8) (drop 1548 xs)
  roles-spelled =
      flat_map-map role_bytes (role_in xs) (range_with_len 0 (word_at xs 8))
      ∙ flat-same (λ f. role_bytes (role_in xs f)) (λ f. take 16 (drop (1548 + 16 * f) xs)) 0 (word_at xs 8) (λ f _ high. (role-read f (omega (arith, high))).0)
      ∙ pieces xs 16 1548 0 (word_at xs 8)

  pub respelled : xs ≡ spelling (image_in xs)
  unfolding spelling
  respelled =
      let l = K.long in
      let body = rest_of xs 1548 (16 * word_at xs 8) (drop (1548 + 16 * word_at xs 8) xs) refl in
      let records = rest_of xs 12 1536 (drop 1548 xs) refl in
      let count = rest_of xs 8 4 (drop 12 xs) refl in
      let version = rest_of xs 4 4 (drop 8 xs) refl in
      let front = take-append-drop 4 xs in
      sym (
      (λ i. magic ++ (number (word_at xs 4) ++ (number (roles-long i) ++ (processes-spelled i ++ (roles-spelled i ++ drop (1548 + 16 * word_at xs 8) xs)))))
      ∙ (λ i. magic ++ (number_spells xs 4 small (omega arith) i ++ (number_spells xs 8 small (omega arith) i ++ (take 1536 (drop 12 xs) ++ body i))))
      ∙ (λ i. magic ++ (take 4 (drop 4 xs) ++ (take 4 (drop 8 xs) ++ records i)))
      ∙ (λ i. magic ++ (take 4 (drop 4 xs) ++ count i))
      ∙ (λ i. magic ++ version i)
      ∙ ap (λ ys. ys ++ drop 4 xs) (sym (begins_so xs K.magic))
      ∙ front)

-- bytes against which there is no reason spell the image that is read from them
pub spelled : (xs : List ℕ) → ((i : ℕ) → slice_index xs i < 256) → fault_of xs ≡ None → Spells xs (image_in xs)
spelled xs small h = let K = kept_of xs h in record { fits = is_image xs small K; is = respelled xs small K }

pub has_parent : (xs : List ℕ) → fault_of xs ≡ None → (p : ℕ) → p < 64 → HasParent xs p
has_parent xs h p low = parent_in xs (word_at xs 8) p ((kept_of xs h).processes p low)

pub has_owner : (xs : List ℕ) → fault_of xs ≡ None → (f : ℕ) → f < word_at xs 8 → HasOwner xs f
has_owner xs h f low owned = role_owner (role_place f) (word_at xs (role_place f)) _ _ _ ((kept_of xs h).roles f low) owned
