-- There is no reason against the encoding of an image.
use Rattle.std.proofs.Common.{◌≡◌, ℕ, zero, suc, ◌+◌, ◌*◌, ◌<◌, ◌≤◌, Bool, true, false, ◌||◌, not, List, [], ◌∷◌, ◌++◌, length, drop, append_assoc, refl, sym, ap, subst, ◌∙◌, arith, inl, inr, Option, Some, None}
use Rattle.std.specs.Prelude.{if◌then◌else◌, ◌==◌, ◌⊎◌, nat_lt, slice_get}
use Rattle.std.specs.Option.{option_map, unwrap_or}
use Rattle.std.specs.List.{flat_map, range_with_len}
use Rattle.std.proofs.Math.Seq.{drop-append-add}
use Rattle.std.proofs.lemmas.Bool.{and_from, cases_eq, eq-eqb, ne_eqb, lt-ltb, le-ltb}
use Rattle.std.proofs.lemmas.List.{drop-drop}
use Rattle.std.proofs.lemmas.Nat.{from_le_bytes-to_le_bytes_4}
use Rattle.std.proofs.lemmas.Option.{slice_get-get_or}
use Rattle.phys_memory.specs.Bytes.{word_at}
use Rattle.alloc_table.specs.declared.Role.{Role}
use Rattle.alloc_table.specs.declared.Role.TheVariants.{Reserved, Free, Directory, Table, Page}
use Rattle.memory_image.specs.declared.faults.ImageFault.TheVariants.{NotImage, BadLength, BadVersion, BadField}
use Rattle.memory_image.specs.declared.processes.Process.{Process}
use Rattle.memory_image.specs.Image.{Image, frames, IsWord, IsProcess, IsRole, IsImage}
use Rattle.memory_image.specs.Spelling.{number, process_bytes, role_bytes, spelling, Spells}
use Rattle.memory_image.specs.Tests.{first_failing}
use Rattle.memory_image.specs.Refusals.{begins, process_tests, role_tests, process_place, role_place, process_fields, role_fields, fields, first_bad, bad_field, fault_with, fault_of, RefusedWhereNotSpelled}
use Rattle.memory_image.specs.Reading.{image_in}
use Rattle.memory_image.proofs.FieldLemmas.{append_none, each_none}
use Rattle.memory_image.proofs.PieceLemmas.{four}
use Rattle.memory_image.proofs.SpellingLemmas.{process_wide, role_wide, pieces_long, spellings_are_long, version_small}
use Rattle.memory_image.proofs.ReadingLemmas.{spelled}

-- ---- Words of a spelling

pub word_of_number : (m : ℕ) (rest : List ℕ) → IsWord m → word_at (number m ++ rest) 0 ≡ m
unfolding word_at
word_of_number m rest small = four (number m ++ rest) (omega arith) ∙ from_le_bytes-to_le_bytes_4 m small

pub word-shift : (xs ys : List ℕ) (a o : ℕ) → drop a xs ≡ ys → word_at xs (a + o) ≡ word_at ys o
unfolding word_at
word-shift xs ys a o h = ap (λ zs. word_at zs 0) (sym (drop-drop o a xs) ∙ ap (drop o) h)

-- the piece of one of several
piece-at : {X : Type 0} (f : X → List ℕ) (width : ℕ) → ((x : X) → length (f x) ≡ width) → (xs : List X) (tail : List ℕ) (k : ℕ) (x : X) → slice_get xs k ≡ Some x
    → (rest : List ℕ) × (drop (width * k) (flat_map f xs ++ tail) ≡ f x ++ rest)
piece-at f width wide [] tail k x h = cc
piece-at f width wide (y ∷ ys) tail zero x h = (
  flat_map f ys ++ tail,
  ap (λ n. drop n ((f y ++ flat_map f ys) ++ tail)) (let e : width * 0 ≡ 0 = omega arith in e)
      ∙ append_assoc (f y) (flat_map f ys) tail
      ∙ ap (λ z. f z ++ (flat_map f ys ++ tail)) (ap (λ o. unwrap_or o y) h),
)
piece-at f width wide (y ∷ ys) tail (suc k) x h =
    let r = piece-at f width wide ys tail k x h in (
      r.0,
      ap (λ n. drop n ((f y ++ flat_map f ys) ++ tail)) (let w = wide y in let e : width * suc k ≡ length (f y) + width * k = omega (arith, (let d : width * suc k ≡ width + width * k = omega arith in d)) in e)
          ∙ ap (drop (length (f y) + width * k)) (append_assoc (f y) (flat_map f ys) tail)
          ∙ drop-append-add (f y) (flat_map f ys ++ tail) (width * k)
          ∙ r.1,
    )

-- ---- A record of a process

root_test : (p parent : ℕ) → (p ≡ 0 → parent ≡ 0) → (not (p == 0) || parent == 0) ≡ true
root_test p parent root = elim (cases_eq p 0) [
  | inl e ↦ (λ i. not (eq-eqb p 0 e i) || eq-eqb parent 0 (root e) i)
  | inr differ ↦ (λ i. not (ne_eqb p 0 differ i) || (parent == 0))
]

process_passes : (n p place : ℕ) (r : Process) → IsProcess n p r → first_failing (process_tests n p place 1 r.parent r.quota r.used r.given r.directory) ≡ None
process_passes n p place r K =
    let a = and_from (nat_lt r.parent 64) (not (p == 0) || r.parent == 0) (lt-ltb r.parent 64 K.parent) (root_test p r.parent K.root) in
    let d = lt-ltb r.directory n K.directory in
    λ i. if a i then (if d i then None else Some (place + 20)) else Some (place + 4)

abbrev pub AllProcess : ℕ → ℕ → Option Process → Type 0
AllProcess n p None = Unit {0}
AllProcess n p (Some r) = IsProcess n p r

record_passes : (xs rest : List ℕ) (n p : ℕ) (x : Option Process) → n ≤ 1048576 → AllProcess n p x → drop (process_place p) xs ≡ process_bytes x ++ rest → first_failing (process_fields xs n p) ≡ None
unfolding word_at
record_passes xs rest n p None most K h =
    let w : (o : ℕ) → word_at xs (process_place p + o) ≡ word_at (process_bytes None ++ rest) o = λ o. word-shift xs (process_bytes None ++ rest) (process_place p) o h in
    let first : word_at xs (process_place p) ≡ 0 = ap (word_at xs) (let e : process_place p ≡ process_place p + 0 = omega arith in e) ∙ w 0 ∙ word_of_number 0 [] (omega arith) in
    (λ i. first_failing (process_tests n p (process_place p) (first i) ((w 4 ∙ word_of_number 0 [] (omega arith)) i) ((w 8 ∙ word_of_number 0 [] (omega arith)) i) ((w 12 ∙ word_of_number 0 [] (omega arith)) i) ((w 16 ∙ word_of_number 0 [] (omega arith)) i) ((w 20 ∙ word_of_number 0 [] (omega arith)) i)))
record_passes xs rest n p (Some r) most K h =
    let w : (o : ℕ) → word_at xs (process_place p + o) ≡ word_at (process_bytes (Some r) ++ rest) o = λ o. word-shift xs (process_bytes (Some r) ++ rest) (process_place p) o h in
    let first : word_at xs (process_place p) ≡ 1 = ap (word_at xs) (let e : process_place p ≡ process_place p + 0 = omega arith in e) ∙ w 0 ∙ word_of_number 1 [] (omega arith) in
    let q : IsWord r.parent = (let k = K.parent in omega arith) in
    let d : IsWord r.directory = (let k = K.directory in omega arith) in
    (λ i. first_failing (process_tests n p (process_place p) (first i) ((w 4 ∙ word_of_number r.parent [] q) i) ((w 8 ∙ word_of_number r.quota [] K.quota) i) ((w 12 ∙ word_of_number r.used [] K.used) i) ((w 16 ∙ word_of_number r.given [] K.given) i) ((w 20 ∙ word_of_number r.directory [] d) i)))
    ∙ process_passes n p (process_place p) r K

some-there : {X : Type 0} (xs : List X) (k : ℕ) (d : X) → k < length xs → (x : X) × (slice_get xs k ≡ Some x)
some-there xs k d inside = (_, slice_get-get_or xs k d inside)

-- no test refuses the records of an image's processes
pub processes_pass : (xs rest : List ℕ) (n : ℕ) (processes : List (Option Process)) → n ≤ 1048576 → length processes ≡ 64 → ((p : ℕ) (x : Option Process) → slice_get processes p ≡ Some x → AllProcess n p x)
    → drop 12 xs ≡ flat_map process_bytes processes ++ rest → (p : ℕ) → p < 64 → first_failing (process_fields xs n p) ≡ None
processes_pass xs rest n processes most pids fit at p low =
    let x = some-there processes p None (omega arith) in
    let r = piece-at process_bytes 24 process_wide processes rest p x.0 x.1 in
    record_passes xs r.0 n p x.0 most (fit p x.0 x.1)
    (sym (drop-drop (24 * p) 12 xs) ∙ ap (drop (24 * p)) at ∙ r.1)

-- ---- A record of a frame

abbrev pub role_numbers : Role → ℕ × ℕ × ℕ × ℕ
role_numbers Reserved = (0, 0, 0, 0)
role_numbers Free = (1, 0, 0, 0)
role_numbers (Directory p) = (2, p, 0, 0)
role_numbers (Table p s) = (3, p, s, 0)
role_numbers (Page c) = (4, 0, 0, c)

pub role_passes : (place : ℕ) (r : Role) → IsRole r → first_failing (role_tests place (role_numbers r).0 (role_numbers r).1 (role_numbers r).2 (role_numbers r).3) ≡ None
role_passes place Reserved K = refl
role_passes place Free K = refl
role_passes place (Directory p) K = let a = lt-ltb p 64 K in λ i. if a i then None else Some (place + 4)
role_passes place (Table p s) K = let a = lt-ltb p 64 K.0 in let b = lt-ltb s 1024 K.1 in λ i. if a i then (if b i then None else Some (place + 8)) else Some (place + 4)
role_passes place (Page c) K = refl

pub role_four : (r : Role) → role_bytes r ≡ number (role_numbers r).0 ++ number (role_numbers r).1 ++ number (role_numbers r).2 ++ number (role_numbers r).3
role_four Reserved = refl
role_four Free = refl
role_four (Directory p) = refl
role_four (Table p s) = refl
role_four (Page c) = refl

pub record Small (r : Role) : Type 0 where
  pub role : IsWord (role_numbers r).0
  pub pid : IsWord (role_numbers r).1
  pub slot : IsWord (role_numbers r).2
  pub count : IsWord (role_numbers r).3

pub role_small : (r : Role) → IsRole r → Small r
role_small Reserved K = record { role = omega arith; pid = omega arith; slot = omega arith; count = omega arith }
role_small Free K = record { role = omega arith; pid = omega arith; slot = omega arith; count = omega arith }
role_small (Directory p) K = record { role = omega arith; pid = omega (arith, K); slot = omega arith; count = omega arith }
role_small (Table p s) K = let a = K.0 in let b = K.1 in record { role = omega arith; pid = omega arith; slot = omega arith; count = omega arith }
role_small (Page c) K = record { role = omega arith; pid = omega arith; slot = omega arith; count = K }

role_record_passes : (xs rest : List ℕ) (f : ℕ) (r : Role) → IsRole r → drop (role_place f) xs ≡ role_bytes r ++ rest → first_failing (role_fields xs f) ≡ None
unfolding word_at
role_record_passes xs rest f r K h =
    let s = role_small r K in
    let k : drop (role_place f) xs ≡ (number (role_numbers r).0 ++ number (role_numbers r).1 ++ number (role_numbers r).2 ++ number (role_numbers r).3) ++ rest = h ∙ ap (λ ys. ys ++ rest) (role_four r) in
    let w : (o : ℕ) → word_at xs (role_place f + o) ≡ word_at ((number (role_numbers r).0 ++ number (role_numbers r).1 ++ number (role_numbers r).2 ++ number (role_numbers r).3) ++ rest) o = λ o. word-shift xs _ (role_place f) o k in
    let first : word_at xs (role_place f) ≡ (role_numbers r).0 = ap (word_at xs) (let e : role_place f ≡ role_place f + 0 = omega arith in e) ∙ w 0 ∙ word_of_number (role_numbers r).0 [] s.role in
    (λ i. first_failing (role_tests (role_place f) (first i) ((w 4 ∙ word_of_number (role_numbers r).1 [] s.pid) i) ((w 8 ∙ word_of_number (role_numbers r).2 [] s.slot) i) ((w 12 ∙ word_of_number (role_numbers r).3 [] s.count) i)))
    ∙ role_passes (role_place f) r K

-- ---- All of them

pub passes_not : {X : Type 0} (b : Bool) (x : X) (y : Option X) → b ≡ true → y ≡ None → (if not b then Some x else y) ≡ None
passes_not true x y h k = k
passes_not false x y h k = cc

pub passes_other : {X : Type 0} (b : Bool) (x : X) (y : Option X) → b ≡ false → y ≡ None → (if b then Some x else y) ≡ None
passes_other true x y h k = cc
passes_other false x y h k = k

version_known : (v : ℕ) → (v ≡ 1) ⊎ (v ≡ 2) → (v == 1 || v == 2) ≡ true
version_known v (inl e) = λ i. e i == 1 || e i == 2
version_known v (inr e) = λ i. e i == 1 || e i == 2

module _ (image : Image) (I : IsImage image) where
  abbrev tail-3 : List ℕ
  tail-3 = flat_map role_bytes image.roles ++ image.bytes

  abbrev tail-2 : List ℕ
  tail-2 = flat_map process_bytes image.processes ++ tail-3

  long : length (spelling image) ≡ 1548 + 4112 * frames image
  long = spellings_are_long image I

  version-read : word_at (spelling image) 4 ≡ image.version
  unfolding spelling word_at
  version-read = word_of_number image.version [] (version_small image.version I.version)

  frames-small : IsWord (frames image)
  frames-small = let m = I.most in omega arith

  frames-read : word_at (spelling image) 8 ≡ frames image
  unfolding spelling word_at
  frames-read = word_of_number (frames image) [] frames-small

  records-at : drop 12 (spelling image) ≡ tail-2
  unfolding spelling
  records-at = refl

  roles-at : drop 1548 (spelling image) ≡ tail-3
  roles-at =
      let l = pieces_long process_bytes 24 process_wide image.processes in
      let p = I.pids in
      let e : 1536 ≡ length (flat_map process_bytes image.processes) + 0 = omega arith in
      sym (drop-drop 1536 12 (spelling image)) ∙ ap (drop 1536) records-at
      ∙ ap (λ n. drop n tail-2) e ∙ drop-append-add (flat_map process_bytes image.processes) tail-3 0

  fitting : (p : ℕ) (x : Option Process) → slice_get image.processes p ≡ Some x → AllProcess (frames image) p x
  fitting p None h = tt
  fitting p (Some r) h = I.processes p r (ap (λ o. unwrap_or o None) h)

  process-passes : (p : ℕ) → p < 64 → first_failing (process_fields (spelling image) (frames image) p) ≡ None
  process-passes = processes_pass (spelling image) tail-3 (frames image) image.processes (let m = I.most in omega arith) I.pids fitting records-at

  role-passes : (f : ℕ) → f < frames image → first_failing (role_fields (spelling image) f) ≡ None
  role-passes f low =
      let x = some-there image.roles f Reserved low in
      let r = piece-at role_bytes 16 role_wide image.roles image.bytes f x.0 x.1 in
      role_record_passes (spelling image) r.0 f x.0 (I.roles f x.0 x.1)
      (sym (drop-drop (16 * f) 1548 (spelling image)) ∙ ap (drop (16 * f)) roles-at ∙ r.1)

  all-pass : first_bad (spelling image) (frames image) ≡ None
  unfolding fields
  all-pass =
      append_none (flat_map (process_fields (spelling image) (frames image)) (range_with_len 0 64)) (flat_map (role_fields (spelling image)) (range_with_len 0 (frames image)))
      (each_none (process_fields (spelling image) (frames image)) 0 64 (λ p _ high. process-passes p (omega (arith, high))))
      ∙ each_none (role_fields (spelling image)) 0 (frames image) (λ f _ high. role-passes f (omega (arith, high)))

  right-size : (nat_lt (frames image) 16 || nat_lt 4096 (frames image)) ≡ false
  right-size = λ i. le-ltb (frames image) 16 I.fewest i || le-ltb 4096 (frames image) I.most i

  begins-so : begins (spelling image) ≡ true
  unfolding spelling
  begins-so = refl

  pub no_reason : fault_of (spelling image) ≡ None
  unfolding fault_of
  no_reason =
      passes_not (begins (spelling image)) NotImage _ begins-so
      (passes_other (nat_lt (length (spelling image)) 12) BadLength _ (le-ltb (length (spelling image)) 12 (let l = long in omega arith))
      (passes_not (word_at (spelling image) 4 == 1 || word_at (spelling image) 4 == 2) BadVersion _ (version_known (word_at (spelling image) 4) (subst (λ v. (v ≡ 1) ⊎ (v ≡ 2)) (sym version-read) I.version))
      (ap (fault_with (spelling image)) frames-read
      ∙ passes_other (nat_lt (frames image) 16 || nat_lt 4096 (frames image)) (BadField 8) _ right-size
      (passes_not (length (spelling image) == 1548 + 4112 * frames image) BadLength _ (eq-eqb (length (spelling image)) (1548 + 4112 * frames image) long)
      (ap (option_map bad_field) all-pass)))))

-- bytes that spell an image have no reason against them
pub unfaulted : (bytes : List ℕ) (image : Image) → Spells bytes image → fault_of bytes ≡ None
unfaulted bytes image S = ap fault_of S.is ∙ no_reason image S.fits

pub refused_where_not_spelled : RefusedWhereNotSpelled
refused_where_not_spelled bytes small = (λ h. (image_in bytes, spelled bytes small h), λ s. unfaulted bytes s.0 s.1)
