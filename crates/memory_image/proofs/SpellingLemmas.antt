-- Each image has one encoding, and no bytes encode two.
use Rattle.std.proofs.Common.{◌≡◌, ℕ, suc, ◌+◌, ◌*◌, ◌≤◌, ◌^◌, List, [], ◌∷◌, ◌++◌, length, refl, sym, ap, ◌∙◌, arith, append_assoc, length-append, inl, inr, Option, Some, None}
use Rattle.std.specs.Prelude.{slice_get, ◌⊎◌}
use Rattle.std.specs.Option.{unwrap_or}
use Rattle.std.specs.Int.{w32, from_le_bytes}
use Rattle.std.specs.List.{flat_map}
use Rattle.std.proofs.lemmas.Nat.{from_le_bytes-to_le_bytes_4}
use Rattle.alloc_table.specs.declared.Role.{Role}
use Rattle.alloc_table.specs.declared.Role.TheVariants.{Reserved, Free, Directory, Table, Page}
use Rattle.memory_image.specs.declared.processes.Process.{Process}
use Rattle.memory_image.specs.Image.{Image, IsWord, IsRole, HasFields, IsImage, frames}
use Rattle.memory_image.specs.Spelling.{magic, number, process_bytes, role_bytes, spelling, SpellingIsExact, SpellingsAreLong}

-- two lists in two parts, the first ones as long
pub same_parts : (a b x y : List ℕ) → length a ≡ length b → a ++ x ≡ b ++ y → (a ≡ b) × (x ≡ y)
same_parts [] [] x y l h = (refl, h)
same_parts [] (b ∷ bs) x y l h = absurd (omega arith)
same_parts (a ∷ more) [] x y l h = absurd (omega arith)
same_parts (a ∷ more) (b ∷ bs) x y l h =
    let e : a ≡ b = cc in
    let r = same_parts more bs x y (omega arith) cc in
    (λ i. e i ∷ r.0 i, r.1)

pub same_number : (m n : ℕ) → IsWord m → IsWord n → number m ≡ number n → m ≡ n
same_number m n p q h = sym (from_le_bytes-to_le_bytes_4 m p) ∙ ap (from_le_bytes w32) h ∙ from_le_bytes-to_le_bytes_4 n q

pub first_number : (m n : ℕ) (x y : List ℕ) → IsWord m → IsWord n → number m ++ x ≡ number n ++ y → (m ≡ n) × (x ≡ y)
first_number m n x y p q h = let a = same_parts (number m) (number n) x y refl h in (same_number m n p q a.0, a.1)

-- ---- Pieces of one width

module _ {X : Type 0} (f : X → List ℕ) (width : ℕ) (Q : X → Type 0) (wide : (x : X) → length (f x) ≡ width) (exact : (x y : X) → Q x → Q y → f x ≡ f y → x ≡ y) where
  pub same_pieces : (xs ys : List X) (a b : List ℕ) → length xs ≡ length ys
      → ((i : ℕ) (x : X) → slice_get xs i ≡ Some x → Q x) → ((i : ℕ) (y : X) → slice_get ys i ≡ Some y → Q y)
      → flat_map f xs ++ a ≡ flat_map f ys ++ b → (xs ≡ ys) × (a ≡ b)
  same_pieces [] [] a b l p q h = (refl, h)
  same_pieces [] (y ∷ ys) a b l p q h = absurd (omega arith)
  same_pieces (x ∷ xs) [] a b l p q h = absurd (omega arith)
  same_pieces (x ∷ xs) (y ∷ ys) a b l p q h =
      let one = same_parts (f x) (f y) (flat_map f xs ++ a) (flat_map f ys ++ b) (wide x ∙ sym (wide y))
      (sym (append_assoc (f x) (flat_map f xs) a) ∙ h ∙ append_assoc (f y) (flat_map f ys) b) in
      let first = exact x y (p 0 x refl) (q 0 y refl) one.0 in
      let rest = same_pieces xs ys a b (omega arith) (λ i x e. p (suc i) x e) (λ i y e. q (suc i) y e) one.1 in
      (λ i. first i ∷ rest.0 i, rest.1)

-- ---- Processes

pub record IsWide (r : Process) : Type 0 where
  pub parent : IsWord r.parent
  pub quota : IsWord r.quota
  pub used : IsWord r.used
  pub given : IsWord r.given
  pub directory : IsWord r.directory

abbrev pub Fits : Option Process → Type 0
Fits None = Unit {0}
Fits (Some r) = IsWide r

pub process_wide : (x : Option Process) → length (process_bytes x) ≡ 24
process_wide None = refl
process_wide (Some r) = refl

pub process_exact : (x y : Option Process) → Fits x → Fits y → process_bytes x ≡ process_bytes y → x ≡ y
process_exact None None p q h = refl
process_exact None (Some s) p q h = absurd (let e = (first_number 0 1 _ _ (omega arith) (omega arith) h).0 in omega arith)
process_exact (Some r) None p q h = absurd (let e = (first_number 1 0 _ _ (omega arith) (omega arith) h).0 in omega arith)
process_exact (Some r) (Some s) p q h =
    let l = first_number 1 1 _ _ (omega arith) (omega arith) h in
    let a = first_number r.parent s.parent _ _ p.parent q.parent l.1 in
    let b = first_number r.quota s.quota _ _ p.quota q.quota a.1 in
    let c = first_number r.used s.used _ _ p.used q.used b.1 in
    let d = first_number r.given s.given _ _ p.given q.given c.1 in
    let e = same_number r.directory s.directory p.directory q.directory d.1 in
    λ i. Some (record { parent = a.0 i; quota = b.0 i; used = c.0 i; given = d.0 i; directory = e i })

-- ---- Roles

pub role_wide : (r : Role) → length (role_bytes r) ≡ 16
role_wide Reserved = refl
role_wide Free = refl
role_wide (Directory p) = refl
role_wide (Table p s) = refl
role_wide (Page c) = refl

pub role_exact : (x y : Role) → IsRole x → IsRole y → role_bytes x ≡ role_bytes y → x ≡ y
role_exact Reserved Reserved p q h = refl
role_exact Free Free p q h = refl
role_exact (Directory a) (Directory b) p q h =
    let k = first_number 2 2 _ _ (omega arith) (omega arith) h in
    ap Directory (first_number a b _ _ (omega (arith, p)) (omega (arith, q)) k.1).0
role_exact (Table a s) (Table b t) p q h =
    let p0 = p.0 in let p1 = p.1 in let q0 = q.0 in let q1 = q.1 in
    let k = first_number 3 3 _ _ (omega arith) (omega arith) h in
    let e = first_number a b _ _ (omega arith) (omega arith) k.1 in
    let f = first_number s t _ _ (omega arith) (omega arith) e.1 in
    λ i. Table (e.0 i) (f.0 i)
role_exact (Page a) (Page b) p q h =
    let k = first_number 4 4 _ _ (omega arith) (omega arith) h in
    let z = first_number 0 0 _ _ (omega arith) (omega arith) k.1 in
    let y = first_number 0 0 _ _ (omega arith) (omega arith) z.1 in
    ap Page (same_number a b p q y.1)
role_exact Reserved Free p q h = absurd (let e = (first_number 0 1 _ _ (omega arith) (omega arith) h).0 in omega arith)
role_exact Reserved (Directory b) p q h = absurd (let e = (first_number 0 2 _ _ (omega arith) (omega arith) h).0 in omega arith)
role_exact Reserved (Table b t) p q h = absurd (let e = (first_number 0 3 _ _ (omega arith) (omega arith) h).0 in omega arith)
role_exact Reserved (Page b) p q h = absurd (let e = (first_number 0 4 _ _ (omega arith) (omega arith) h).0 in omega arith)
role_exact Free Reserved p q h = absurd (let e = (first_number 1 0 _ _ (omega arith) (omega arith) h).0 in omega arith)
role_exact Free (Directory b) p q h = absurd (let e = (first_number 1 2 _ _ (omega arith) (omega arith) h).0 in omega arith)
role_exact Free (Table b t) p q h = absurd (let e = (first_number 1 3 _ _ (omega arith) (omega arith) h).0 in omega arith)
role_exact Free (Page b) p q h = absurd (let e = (first_number 1 4 _ _ (omega arith) (omega arith) h).0 in omega arith)
role_exact (Directory a) Reserved p q h = absurd (let e = (first_number 2 0 _ _ (omega arith) (omega arith) h).0 in omega arith)
role_exact (Directory a) Free p q h = absurd (let e = (first_number 2 1 _ _ (omega arith) (omega arith) h).0 in omega arith)
role_exact (Directory a) (Table b t) p q h = absurd (let e = (first_number 2 3 _ _ (omega arith) (omega arith) h).0 in omega arith)
role_exact (Directory a) (Page b) p q h = absurd (let e = (first_number 2 4 _ _ (omega arith) (omega arith) h).0 in omega arith)
role_exact (Table a s) Reserved p q h = absurd (let e = (first_number 3 0 _ _ (omega arith) (omega arith) h).0 in omega arith)
role_exact (Table a s) Free p q h = absurd (let e = (first_number 3 1 _ _ (omega arith) (omega arith) h).0 in omega arith)
role_exact (Table a s) (Directory b) p q h = absurd (let e = (first_number 3 2 _ _ (omega arith) (omega arith) h).0 in omega arith)
role_exact (Table a s) (Page b) p q h = absurd (let e = (first_number 3 4 _ _ (omega arith) (omega arith) h).0 in omega arith)
role_exact (Page a) Reserved p q h = absurd (let e = (first_number 4 0 _ _ (omega arith) (omega arith) h).0 in omega arith)
role_exact (Page a) Free p q h = absurd (let e = (first_number 4 1 _ _ (omega arith) (omega arith) h).0 in omega arith)
role_exact (Page a) (Directory b) p q h = absurd (let e = (first_number 4 2 _ _ (omega arith) (omega arith) h).0 in omega arith)
role_exact (Page a) (Table b t) p q h = absurd (let e = (first_number 4 3 _ _ (omega arith) (omega arith) h).0 in omega arith)

-- ---- Images

pub fields_fit : (limit : ℕ) (image : Image) → limit ≤ 2 ^ 32 → HasFields limit image → (i : ℕ) (x : Option Process) → slice_get image.processes i ≡ Some x → Fits x
fields_fit limit image low I i None h = tt
fields_fit limit image low I i (Some r) h =
    let k = I.processes i r (ap (λ o. unwrap_or o None) h) in
    let most = I.most in
    let a = k.parent in
    let b = k.directory in
    record { parent = omega arith; quota = k.quota; used = k.used; given = k.given; directory = omega arith }

pub version_small : (v : ℕ) → (v ≡ 1) ⊎ (v ≡ 2) → IsWord v
version_small v (inl e) = omega arith
version_small v (inr e) = omega arith

same_spelling : (image other : Image) → IsImage image → IsImage other → spelling image ≡ spelling other → image ≡ other
unfolding spelling
same_spelling image other I J h =
    let most = I.most in
    let most' = J.most in
    let a = same_parts magic magic _ _ refl h in
    let v = first_number image.version other.version _ _ (version_small image.version I.version) (version_small other.version J.version) a.1 in
    let n = first_number (frames image) (frames other) _ _ (omega arith) (omega arith) v.1 in
    let p = same_pieces process_bytes 24 Fits process_wide process_exact image.processes other.processes _ _ (I.pids ∙ sym J.pids) (fields_fit 4096 image (omega arith) I) (fields_fit 4096 other (omega arith) J) n.1 in
    let r = same_pieces role_bytes 16 IsRole role_wide role_exact image.roles other.roles image.bytes other.bytes n.0 I.roles J.roles p.1 in
    λ i. record { version = v.0 i; processes = p.0 i; roles = r.0 i; bytes = r.1 i }

pub spelling_is_exact : SpellingIsExact
spelling_is_exact = record {
  has = λ image I. (spelling image, record { fits = I; is = refl });
  one = λ bytes more image f g. f.is ∙ sym g.is;
  alone = λ bytes image other f g. same_spelling image other f.fits g.fits (sym f.is ∙ g.is);
}

-- ---- Lengths

pub pieces_long : {X : Type 0} (f : X → List ℕ) (width : ℕ) → ((x : X) → length (f x) ≡ width) → (xs : List X) → length (flat_map f xs) ≡ width * length xs
pieces_long f width wide [] = omega arith
pieces_long f width wide (x ∷ xs) =
    let a = length-append (f x) (flat_map f xs) in
    let b = wide x in
    let c = pieces_long f width wide xs in
    let d : width * suc (length xs) ≡ width + width * length xs = omega arith in
    omega (arith, a, b, c, d)

pub spellings_are_long : SpellingsAreLong
unfolding spelling
spellings_are_long image I =
    let p = length-append (flat_map process_bytes image.processes) (flat_map role_bytes image.roles ++ image.bytes) in
    let r = length-append (flat_map role_bytes image.roles) image.bytes in
    let a = pieces_long process_bytes 24 process_wide image.processes in
    let b = pieces_long role_bytes 16 role_wide image.roles in
    let size = I.size in
    let pids = I.pids in
    omega (arith, p, r, a, b)
