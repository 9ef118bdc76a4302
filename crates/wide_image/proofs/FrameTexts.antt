-- The records of frames, one list after another.
use Rattle.std.proofs.Common.{◌≡◌, ℕ, zero, suc, ◌+◌, ◌*◌, ◌-◌, ◌<◌, ◌≤◌, ◌^◌, Bool, true, false, List, [], ◌∷◌, ◌++◌, length, length-append, length-drop, length-take, take, drop, replicate, append_assoc, append-nil, get_or, refl, sym, ap, subst, ◌∙◌, arith, Some}
use Rattle.std.specs.Prelude.{if◌then◌else◌, slice_get}
use Rattle.std.proofs.lemmas.List.{take-append-le, drop-append-le, length-replicate, drop-replicate, take-replicate, drop-drop, take_all, take_more, drop_more, drop_all}
use Rattle.phys_memory.specs.Bytes.{frame_bytes}
use Rattle.alloc_table.specs.declared.Role.{Role}
use Rattle.alloc_table.specs.declared.Role.TheVariants.{Reserved, Free, Directory, Table, Page}
use Rattle.alloc_table.specs.Roles.{is_free}
use Rattle.memory_image.specs.Image.{IsRole}
use Rattle.memory_image.specs.Spelling.{number, role_bytes}
use Rattle.memory_image.proofs.SpellingLemmas.{same_parts, first_number, role_exact, role_wide}
use Rattle.wide_image.specs.Layout.{frame_text, frames_text, stored, frames_stored, AreBlank, HoldTheSame}

-- the records of two lists are those of the first, and then those of the second
pub frames_both : (f : ℕ) (roles more : List Role) (bytes rest : List ℕ) → length bytes ≡ 4096 * length roles
    → frames_text f (roles ++ more) (bytes ++ rest) ≡ frames_text f roles bytes ++ frames_text (f + length roles) more rest
frames_both f [] more [] rest size = ap (λ g. frames_text g more rest) (let e : f ≡ f + 0 = omega arith in e)
frames_both f [] more (b ∷ bytes) rest size = absurd (omega arith)
frames_both f (role ∷ roles) more bytes rest size =
    let enough : 4096 ≤ length bytes = omega arith in
    let shorter : length (drop 4096 bytes) ≡ 4096 * length roles = omega (arith, length-drop 4096 bytes) in
    (λ i. frame_text f role (take-append-le 4096 bytes rest enough i) ++ frames_text (f + 1) (roles ++ more) (drop-append-le 4096 bytes rest enough i))
    ∙ ap (λ t. frame_text f role (take 4096 bytes) ++ t) (frames_both (f + 1) roles more (drop 4096 bytes) rest shorter ∙ ap (λ g. frames_text (f + 1) roles (drop 4096 bytes) ++ frames_text g more rest) (let e : f + 1 + length roles ≡ f + suc (length roles) = omega arith in e))
    ∙ sym (append_assoc (frame_text f role (take 4096 bytes)) _ _)

-- free frames have no record
pub free_text : (f k : ℕ) (bytes : List ℕ) → frames_text f (replicate k Free) bytes ≡ []
free_text f zero bytes = refl
free_text f (suc k) bytes = free_text (f + 1) k (drop 4096 bytes)

pub stored_both : (roles more : List Role) → frames_stored (roles ++ more) ≡ frames_stored roles + frames_stored more
stored_both [] more = omega arith
stored_both (role ∷ roles) more = let h = stored_both roles more in omega (arith, h)

pub none_stored : (k : ℕ) → frames_stored (replicate k Free) ≡ 0
none_stored zero = refl
none_stored (suc k) = let h = none_stored k in omega (arith, h)

pub record_text : (f : ℕ) (role : Role) (part : List ℕ) → is_free role ≡ false → frame_text f role part ≡ number f ++ (role_bytes role ++ part)
record_text f role part used = ap (λ b. if b then [] else number f ++ (role_bytes role ++ part)) used

-- after free frames, one that isn't
alone : (f k : ℕ) (role : Role) (part : List ℕ) → is_free role ≡ false → length part ≡ 4096
    → frames_text f (replicate k Free ++ role ∷ []) (replicate (4096 * k) 0 ++ part) ≡ number (f + k) ++ (role_bytes role ++ part)
alone f k role part used size =
    frames_both f (replicate k Free) (role ∷ []) (replicate (4096 * k) 0) part (length-replicate (4096 * k) 0 ∙ ap (λ n. 4096 * n) (sym (length-replicate k Free)))
    ∙ (λ i. free_text f k (replicate (4096 * k) 0) i ++ frames_text (f + length-replicate k Free i) (role ∷ []) part)
    ∙ append-nil _
    ∙ record_text (f + k) role (take 4096 part) used
    ∙ ap (λ p. number (f + k) ++ (role_bytes role ++ p)) (take_all 4096 part (omega arith))

-- a record more
pub one_more : (roles : List Role) (bytes : List ℕ) (f : ℕ) (role : Role) (part : List ℕ) → length bytes ≡ 4096 * length roles → length roles ≤ f → is_free role ≡ false → length part ≡ 4096
    → frames_text 0 (roles ++ (replicate (f - length roles) Free ++ role ∷ [])) (bytes ++ (replicate (4096 * (f - length roles)) 0 ++ part)) ≡ frames_text 0 roles bytes ++ (number f ++ (role_bytes role ++ part))
one_more roles bytes f role part size next used whole =
    frames_both 0 roles (replicate (f - length roles) Free ++ role ∷ []) bytes (replicate (4096 * (f - length roles)) 0 ++ part) size
    ∙ ap (λ t. frames_text 0 roles bytes ++ t) (alone (0 + length roles) (f - length roles) role part used whole ∙ ap (λ g. number g ++ (role_bytes role ++ part)) (let e : 0 + length roles + (f - length roles) ≡ f = omega arith in e))

pub stored_more : (roles : List Role) (k : ℕ) (role : Role) → is_free role ≡ false → frames_stored (roles ++ (replicate k Free ++ role ∷ [])) ≡ frames_stored roles + 1
stored_more roles k role used =
    let a = stored_both roles (replicate k Free ++ role ∷ []) in
    let b = stored_both (replicate k Free) (role ∷ []) in
    let c = none_stored k in
    let d : stored role ≡ 1 = ap (λ b. if b then 0 else 1) used in
    omega (arith, a, b, c, d)

-- one more of those that are counted
pub stored_next : (roles : List Role) (i : ℕ) (role : Role) → i < length roles → role ≡ get_or roles i role → frames_stored (take (i + 1) roles) ≡ frames_stored (take i roles) + stored role
stored_next roles i role low is =
    let a = stored_both (take i roles) (role ∷ []) in
    ap frames_stored (take_more roles i role low ∙ ap (λ x. take i roles ++ x ∷ []) (sym is)) ∙ a ∙ (let e : frames_stored (take i roles) + (stored role + 0) ≡ frames_stored (take i roles) + stored role = omega arith in e)

-- a record more of those that are written
pub next_frame : (roles : List Role) (bytes : List ℕ) (f : ℕ) (role : Role) (rest : List Role) → drop f roles ≡ role ∷ rest
    → frames_text f (drop f roles) (drop (4096 * f) bytes) ≡ frame_text f role (take 4096 (drop (4096 * f) bytes)) ++ frames_text (f + 1) rest (drop (4096 * (f + 1)) bytes)
next_frame roles bytes f role rest h =
    ap (λ rs. frames_text f rs (drop (4096 * f) bytes)) h
    ∙ ap (λ bs. frame_text f role (take 4096 (drop (4096 * f) bytes)) ++ frames_text (f + 1) rest bs) (drop-drop 4096 (4096 * f) bytes ∙ ap (λ n. drop n bytes) (let e : 4096 * f + 4096 ≡ 4096 * (f + 1) = omega arith in e))

pub frames_left : (roles : List Role) (bytes : List ℕ) (f : ℕ) (role : Role) (part : List ℕ) → f < length roles → role ≡ get_or roles f role → part ≡ take 4096 (drop (4096 * f) bytes)
    → frames_text f (drop f roles) (drop (4096 * f) bytes) ≡ frame_text f role part ++ frames_text (f + 1) (drop (f + 1) roles) (drop (4096 * (f + 1)) bytes)
frames_left roles bytes f role part low is same =
    next_frame roles bytes f role (drop (f + 1) roles) (drop_more roles f role low ∙ ap (λ r. r ∷ drop (f + 1) roles) (sym is))
    ∙ ap (λ p. frame_text f role p ++ frames_text (f + 1) (drop (f + 1) roles) (drop (4096 * (f + 1)) bytes)) (sym same)

pub no_frame_left : (roles : List Role) (bytes : List ℕ) (f : ℕ) → length roles ≤ f → frames_text f (drop f roles) (drop (4096 * f) bytes) ≡ []
no_frame_left roles bytes f past = ap (λ rs. frames_text f rs (drop (4096 * f) bytes)) (drop_all f roles past)

-- how long records are
pub frames_long : (f : ℕ) (roles : List Role) (bytes : List ℕ) → length bytes ≡ 4096 * length roles → length (frames_text f roles bytes) ≡ 4116 * frames_stored roles
frames_long f [] bytes size = refl
frames_long f (role ∷ roles) bytes size = by (is_free role) refl (frames_long (f + 1) roles (drop 4096 bytes) (omega (arith, length-drop 4096 bytes)))
  where
    by : (b : Bool) → is_free role ≡ b → length (frames_text (f + 1) roles (drop 4096 bytes)) ≡ 4116 * frames_stored roles → length (frames_text f (role ∷ roles) bytes) ≡ 4116 * (stored role + frames_stored roles)
    by true free more =
        ap (λ b. length ((if b then [] else number f ++ (role_bytes role ++ take 4096 bytes)) ++ frames_text (f + 1) roles (drop 4096 bytes))) free
        ∙ more ∙ ap (λ k. 4116 * k) (let s : stored role ≡ 0 = ap (λ b. if b then 0 else 1) free in let e : frames_stored roles ≡ stored role + frames_stored roles = omega arith in e)
    by false used more =
        let whole = length-take 4096 bytes in
        let wide = role_wide role in
        let x = length-append (number f) (role_bytes role ++ take 4096 bytes) in
        let y = length-append (role_bytes role) (take 4096 bytes) in
        let z = length-append (number f ++ (role_bytes role ++ take 4096 bytes)) (frames_text (f + 1) roles (drop 4096 bytes)) in
        let s : stored role ≡ 1 = ap (λ b. if b then 0 else 1) used in
        let n : length (number f) ≡ 4 = refl in
        let e : length ((number f ++ (role_bytes role ++ take 4096 bytes)) ++ frames_text (f + 1) roles (drop 4096 bytes)) ≡ 4116 * (stored role + frames_stored roles) = omega (arith, x, y, z, s, n, whole, wide, more, size) in
        ap (λ b. length ((if b then [] else number f ++ (role_bytes role ++ take 4096 bytes)) ++ frames_text (f + 1) roles (drop 4096 bytes))) used ∙ e

-- ---- Free frames hold zeros

pub blank_both : (roles more : List Role) (bytes rest : List ℕ) → length bytes ≡ 4096 * length roles → AreBlank roles bytes → AreBlank more rest → AreBlank (roles ++ more) (bytes ++ rest)
blank_both [] more [] rest size a b = b
blank_both [] more (x ∷ bytes) rest size a b = absurd (omega arith)
blank_both (role ∷ roles) more bytes rest size a b =
    let enough : 4096 ≤ length bytes = omega arith in
    let shorter : length (drop 4096 bytes) ≡ 4096 * length roles = omega (arith, length-drop 4096 bytes) in (
      λ free. take-append-le 4096 bytes rest enough ∙ a.0 free,
      subst (AreBlank (roles ++ more)) (sym (drop-append-le 4096 bytes rest enough)) (blank_both roles more (drop 4096 bytes) rest shorter a.1 b),
    )

pub blank_free : (k : ℕ) → AreBlank (replicate k Free) (replicate (4096 * k) 0)
blank_free zero = tt
blank_free (suc k) = (
  λ _. take-replicate 4096 (4096 * suc k) 0 (omega arith),
  subst (AreBlank (replicate k Free)) (sym (drop-replicate 4096 (4096 * suc k) 0 ∙ ap (λ n. replicate n 0) (let e : 4096 * suc k - 4096 ≡ 4096 * k = omega arith in e))) (blank_free k),
)

blank_one : (role : Role) (part : List ℕ) → is_free role ≡ false → AreBlank (role ∷ []) part
blank_one role part used = (λ free. absurd (let e : true ≡ false = sym free ∙ used in cc), tt)

pub blank_more : (roles : List Role) (bytes : List ℕ) (k : ℕ) (role : Role) (part : List ℕ) → length bytes ≡ 4096 * length roles → is_free role ≡ false → AreBlank roles bytes
    → AreBlank (roles ++ (replicate k Free ++ role ∷ [])) (bytes ++ (replicate (4096 * k) 0 ++ part))
blank_more roles bytes k role part size used a =
    blank_both roles (replicate k Free ++ role ∷ []) bytes (replicate (4096 * k) 0 ++ part) size a
    (blank_both (replicate k Free) (role ∷ []) (replicate (4096 * k) 0) part (length-replicate (4096 * k) 0 ∙ ap (λ n. 4096 * n) (sym (length-replicate k Free))) (blank_free k) (blank_one role part used))

-- ---- One list of records is of one list of roles

-- the records from g on don't begin with an earlier frame's
later_first : (g : ℕ) (roles : List Role) (bytes : List ℕ) (f : ℕ) (ys : List ℕ) → f < g → g + length roles ≤ 2 ^ 32 → frames_text g roles bytes ≡ number f ++ ys → ⊥
later_first g [] bytes f ys less most h = let l = ap length h in absurd (omega arith)
later_first g (role ∷ roles) bytes f ys less most h = by (is_free role) refl (later_first (g + 1) roles (drop 4096 bytes) f ys (omega arith) (omega arith))
  where
    by : (b : Bool) → is_free role ≡ b → (frames_text (g + 1) roles (drop 4096 bytes) ≡ number f ++ ys → ⊥) → ⊥
    by true free more = more (sym (ap (λ b. (if b then [] else number g ++ (role_bytes role ++ take 4096 bytes)) ++ frames_text (g + 1) roles (drop 4096 bytes)) free) ∙ h)
    by false used more =
        let k = first_number g f _ _ (omega arith) (omega arith) (sym (append_assoc (number g) (role_bytes role ++ take 4096 bytes) (frames_text (g + 1) roles (drop 4096 bytes))) ∙ sym (ap (λ t. t ++ frames_text (g + 1) roles (drop 4096 bytes)) (record_text g role (take 4096 bytes) used)) ∙ h) in
        let e = k.0 in
        absurd (omega arith)

free_is : (role : Role) → is_free role ≡ true → role ≡ Free
free_is Reserved h = cc
free_is Free h = refl
free_is (Directory p) h = cc
free_is (Table p s) h = cc
free_is (Page c) h = cc

-- what the same records say of two machines
pub record AreSame (roles more : List Role) (bytes rest : List ℕ) : Type 0 where
  pub same : roles ≡ more
  pub agree : HoldTheSame roles bytes rest

pub same_frames : (f : ℕ) (roles more : List Role) (bytes rest : List ℕ) → length roles ≡ length more → f + length roles ≤ 2 ^ 32
    → length bytes ≡ 4096 * length roles → length rest ≡ 4096 * length more
    → ((i : ℕ) (r : Role) → slice_get roles i ≡ Some r → IsRole r) → ((i : ℕ) (r : Role) → slice_get more i ≡ Some r → IsRole r)
    → frames_text f roles bytes ≡ frames_text f more rest → AreSame roles more bytes rest
same_frames f [] [] bytes rest long most size sizes p q h = record { same = refl; agree = tt }
same_frames f [] (b ∷ more) bytes rest long most size sizes p q h = absurd (omega arith)
same_frames f (a ∷ roles) [] bytes rest long most size sizes p q h = absurd (omega arith)
same_frames f (a ∷ roles) (b ∷ more) bytes rest long most size sizes p q h =
    by (is_free a) (is_free b) refl refl
    (same_frames (f + 1) roles more (drop 4096 bytes) (drop 4096 rest) (omega arith) (omega arith) (omega (arith, length-drop 4096 bytes)) (omega (arith, length-drop 4096 rest)) (λ i r g. p (suc i) r g) (λ i r g. q (suc i) r g))
  where
    left : (b : Bool) → is_free a ≡ b → frames_text f (a ∷ roles) bytes ≡ (if b then [] else number f ++ (role_bytes a ++ take 4096 bytes)) ++ frames_text (f + 1) roles (drop 4096 bytes)
    left b e = ap (λ b. (if b then [] else number f ++ (role_bytes a ++ take 4096 bytes)) ++ frames_text (f + 1) roles (drop 4096 bytes)) e

    right : (c : Bool) → is_free b ≡ c → frames_text f (b ∷ more) rest ≡ (if c then [] else number f ++ (role_bytes b ++ take 4096 rest)) ++ frames_text (f + 1) more (drop 4096 rest)
    right c e = ap (λ c. (if c then [] else number f ++ (role_bytes b ++ take 4096 rest)) ++ frames_text (f + 1) more (drop 4096 rest)) e

    by : (x y : Bool) → is_free a ≡ x → is_free b ≡ y → (frames_text (f + 1) roles (drop 4096 bytes) ≡ frames_text (f + 1) more (drop 4096 rest) → AreSame roles more (drop 4096 bytes) (drop 4096 rest)) → AreSame (a ∷ roles) (b ∷ more) bytes rest
    by true true m n next =
        let s = next (sym (left true m) ∙ h ∙ right true n) in
        let e : a ≡ b = free_is a m ∙ sym (free_is b n) in
        record { same = λ i. e i ∷ s.same i; agree = (λ used. absurd (let z : true ≡ false = sym m ∙ used in cc), s.agree) }
    by true false m n next = absurd (later_first (f + 1) roles (drop 4096 bytes) f _ (omega arith) (omega arith) (sym (left true m) ∙ h ∙ right false n ∙ append_assoc (number f) (role_bytes b ++ take 4096 rest) (frames_text (f + 1) more (drop 4096 rest))))
    by false true m n next = absurd (later_first (f + 1) more (drop 4096 rest) f _ (omega arith) (omega arith) (sym (right true n) ∙ sym h ∙ left false m ∙ append_assoc (number f) (role_bytes a ++ take 4096 bytes) (frames_text (f + 1) roles (drop 4096 bytes))))
    by false false m n next =
        let k = first_number f f _ _ (omega arith) (omega arith) (sym (append_assoc (number f) (role_bytes a ++ take 4096 bytes) (frames_text (f + 1) roles (drop 4096 bytes))) ∙ sym (left false m) ∙ h ∙ right false n ∙ append_assoc (number f) (role_bytes b ++ take 4096 rest) (frames_text (f + 1) more (drop 4096 rest))) in
        let kind = same_parts (role_bytes a) (role_bytes b) _ _ (role_wide a ∙ sym (role_wide b)) (sym (append_assoc (role_bytes a) (take 4096 bytes) _) ∙ k.1 ∙ append_assoc (role_bytes b) (take 4096 rest) _) in
        let whole = length-take 4096 bytes in
        let wholes = length-take 4096 rest in
        let part = same_parts (take 4096 bytes) (take 4096 rest) _ _ (omega (arith, whole, wholes)) kind.1 in
        let e = role_exact a b (p 0 a refl) (q 0 b refl) kind.0 in
        let s = next part.1 in
        record { same = λ i. e i ∷ s.same i; agree = (λ _. part.0, s.agree) }

-- ---- By frames

frame_first : (bytes : List ℕ) → frame_bytes bytes 0 ≡ take 4096 bytes
unfolding frame_bytes
frame_first bytes = refl

frame_next : (bytes : List ℕ) (f : ℕ) → frame_bytes bytes (suc f) ≡ frame_bytes (drop 4096 bytes) f
unfolding frame_bytes
frame_next bytes f =
    (λ i. take ((let e : 4096 * suc f + 4096 - 4096 * suc f ≡ 4096 * f + 4096 - 4096 * f = omega arith in e) i) (drop ((let e : 4096 * suc f ≡ 4096 + 4096 * f = omega arith in e) i) bytes))
    ∙ ap (take (4096 * f + 4096 - 4096 * f)) (sym (drop-drop (4096 * f) 4096 bytes))

pub agree_at : (roles : List Role) (bytes rest : List ℕ) → HoldTheSame roles bytes rest → (f : ℕ) (role : Role) → slice_get roles f ≡ Some role → is_free role ≡ false → frame_bytes bytes f ≡ frame_bytes rest f
agree_at [] bytes rest a f role h used = cc
agree_at (x ∷ roles) bytes rest a zero role h used = frame_first bytes ∙ a.0 (ap is_free (let e : x ≡ role = cc in e) ∙ used) ∙ sym (frame_first rest)
agree_at (x ∷ roles) bytes rest a (suc f) role h used = frame_next bytes f ∙ agree_at roles (drop 4096 bytes) (drop 4096 rest) a.1 f role h used ∙ sym (frame_next rest f)
