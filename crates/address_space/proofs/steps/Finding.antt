-- What walks that find a frame for each page of an access find at each of its bytes.
use Rattle.address_space.proofs.Prelude.{◌≡◌, ℕ, zero, suc, ◌+◌, ◌^◌, ◌<◌, true, List, ◌∷◌, refl, ap, sym, ◌∙◌, subst, arith, Option, Some, is_some, IfSome, IsOk, option_map, unwrap_or, range_with_len, and_parts, IsUserPage, page_number, start_number, byte_count, second_page, Size, some_bytes, Role, Access, walk_of, Image, directory_at, image_from, directory_of, IsSound, finds_at, finds, map as each}
use Rattle.address_space.proofs.steps.Bytes.{each_byte}
use Rattle.address_space.proofs.steps.WalkSteps.{found_entry, page_found}

-- ---- By the test

-- so are those of an access
pub finds_live : (image : Image) (p address : ℕ) (size : Size) (access : Access) → finds image p address size access ≡ true → is_some (directory_at image p) ≡ true
finds_live image p address size access h = grind (arith, and_parts)

pub found_at : (image : Image) (p d address : ℕ) (access : Access) → directory_at image p ≡ Some d → finds_at image p access address ≡ true → (address < 2 ^ 32) × IsOk (walk_of image.bytes d address access)
found_at image p d address access live h = grind (arith, and_parts)

-- ---- At each byte

-- the walk of each byte of an access finds a frame, at a page of the user range
pub record FoundEach (bytes : List ℕ) (d address : ℕ) (size : Size) (access : Access) : Type 0 where
  pub found : (i : ℕ) → i < byte_count size → IsOk (walk_of bytes d (address + i) access)
  pub user : (i : ℕ) → i < byte_count size → IsUserPage (page_number (address + i))

pub found_each : (directories : List (Option ℕ)) (bytes : List ℕ) (roles : List Role) (p d address : ℕ) (size : Size) (access : Access) → IsSound directories bytes roles → directory_of directories p ≡ Some d
    → finds (image_from directories bytes roles) p address size access ≡ true → FoundEach bytes d address size access
found_each directories bytes roles p d address size access sound live h =
    record {
      found = grind (arith, user_at, each_byte, Q, all);
      user = user_at;
    }
  where
    image : Image
    image = image_from directories bytes roles

    Q : ℕ → Type 0
    Q page = (a : ℕ) → a < 2 ^ 32 → page_number a ≡ page → IsOk (walk_of bytes d a access)

    parts : (finds_at image p access address ≡ true) × (unwrap_or (option_map (λ page. finds_at image p access (start_number page)) (second_page address size)) true ≡ true)
    parts = and_parts (finds_at image p access address) _ h

    one : (a : ℕ) → finds_at image p access a ≡ true → IsUserPage (page_number a) × Q (page_number a)
    one a is =
        let f = found_at image p d a access live is in
        let e = found_entry directories bytes roles p d sound live a access f.0 f.1 in
        ((e.low, e.high), λ b l same. page_found directories bytes roles p d sound live a b access f.0 l same f.1)

    start : (page : ℕ) → finds_at image p access (start_number page) ≡ true → IsUserPage page × Q page
    start page is = let e : page_number (start_number page) ≡ page = omega arith in subst (λ n. IsUserPage n × Q n) e (one (start_number page) is)

    second : IfSome (second_page address size) (λ page. IsUserPage page × Q page)
    second = by (second_page address size) parts.1
      where
        by : (x : Option ℕ) → unwrap_or (option_map (λ page. finds_at image p access (start_number page)) x) true ≡ true → IfSome x (λ page. IsUserPage page × Q page)
        by x is = grind (arith, start)

    all : Q (page_number address) × IfSome (second_page address size) Q
    all = ((one address parts.0).1, by (second_page address size) second)
      where
        by : (x : Option ℕ) → IfSome x (λ page. IsUserPage page × Q page) → IfSome x Q
        by x is = grind arith

    user_at : (i : ℕ) → i < byte_count size → IsUserPage (page_number (address + i))
    user_at i l = ((each_byte address size (λ page. IsUserPage page × Q page) (one address parts.0, second)) i l).0

-- and its addresses have 32 bits
pub found_fits : (bytes : List ℕ) (d address : ℕ) (size : Size) (access : Access) → FoundEach bytes d address size access → address + byte_count size < 2 ^ 32
found_fits bytes d address size access each = grind (arith, some_bytes)

-- ---- The number at the bytes

pub same_each : (f g : ℕ → ℕ) (a n : ℕ) → ((i : ℕ) → i < n → f (a + i) ≡ g (a + i)) → each f (range_with_len a n) ≡ each g (range_with_len a n)
same_each f g a zero is = refl
same_each f g a (suc n) is =
    let z : a ≡ a + 0 = omega arith in
    let first : f a ≡ g a = ap f z ∙ is 0 (omega arith) ∙ sym (ap g z) in
    (λ i. first i ∷ same_each f g (a + 1) n (λ i l. let e : a + 1 + i ≡ a + suc i = omega arith in ap f e ∙ is (suc i) (omega (arith, l)) ∙ sym (ap g e)) i)
