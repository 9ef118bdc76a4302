-- Pages that are mapped for an access, and what an access of mapped pages leaves mapped.
use Rattle.address_space.proofs.Prelude.{◌≡◌, ℕ, zero, suc, ◌+◌, ◌/◌, ◌%◌, ◌<◌, true, [], ◌∷◌, refl, ap, ◌∙◌, arith, Option, Some, None, if◌then◌else◌, IfSome, page_number, offset_number, byte_count, second_page, page_and, touched, EachTouched, Size, same_itself, Slot, Spaces, at_page, slot_at, cell_or_fresh, fresh, accessed, stored, bytes_of, with_page, with_pages, all_accessed, all_stored}
use Rattle.address_space.proofs.Lemmas.{key-insert, key-stored, kept, each_byte, stored_in_page}
use Rattle.page_words.specs.FiniteMap as map

abbrev pub IsThere : Spaces → ℕ → ℕ → Type 0
IsThere S p page = map.contains_key S (at_page p page) ≡ true

-- a mapped page stays as it is
pub with_page-same : (S : Spaces) (p page : ℕ) → IsThere S p page → with_page S p page ≡ S
with_page-same S p page there = ap (λ b. if b then S else map.insert S (at_page p page) (fresh (at_page p page) true)) there

pub with_page-there : (S : Spaces) (p page : ℕ) → IsThere (with_page S p page) p page
with_page-there S p page = grind (arith, key-insert, same_itself)

pub with_page-keeps : (S : Spaces) (p page : ℕ) (q : Slot) → map.contains_key S q ≡ true → map.contains_key (with_page S p page) q ≡ true
with_page-keeps S p page q there = grind (arith, key-insert)

-- where all pages of an access are mapped, none is mapped for it
pub with_touched-same : (S : Spaces) (p address : ℕ) (size : Size) → EachTouched address size (IsThere S p) → with_pages S p (touched address size) ≡ S
with_touched-same S p address size there = grind (arith, with_page-same)

-- each page that an access touches is mapped then
pub touched-there : (S : Spaces) (p address : ℕ) (size : Size) → EachTouched address size (IsThere (with_pages S p (touched address size)) p)
touched-there S p address size = grind (arith, with_page-there, with_page-keeps)

-- ---- What is mapped after an access of mapped pages

pub key-all_accessed : (S : Spaces) (p address : ℕ) (size : Size) → EachTouched address size (IsThere S p) → (q : Slot) → map.contains_key (all_accessed S p (touched address size)) q ≡ map.contains_key S q
key-all_accessed S p address size there q = by (second_page address size) there.1
  where
    by : (x : Option ℕ) → IfSome x (IsThere S p) → map.contains_key (all_accessed S p (page_and (page_number address) x)) q ≡ map.contains_key S q
    by None h = kept S (at_page p (page_number address)) _ there.0 q
    by (Some second) h =
        kept (accessed S (at_page p (page_number address))) (at_page p second) _ (kept S (at_page p (page_number address)) _ there.0 (at_page p second) ∙ h) q
        ∙ kept S (at_page p (page_number address)) _ there.0 q

key-byte : (S : Spaces) (slot : Slot) (at b : ℕ) → map.contains_key S slot ≡ true → (q : Slot) → map.contains_key (stored S slot at (b ∷ [])) q ≡ map.contains_key S q
key-byte S slot at b there q = key-stored S slot at (b ∷ []) (cell_or_fresh S slot) q ∙ kept S slot (cell_or_fresh S slot) there q

-- each byte of some goes to a mapped page
abbrev pub AreThere : Spaces → ℕ → ℕ → ℕ → Type 0
AreThere S p a k = (i : ℕ) → i < k → IsThere S p (page_number (a + i))

pub first_there : (S : Spaces) (p a k : ℕ) → AreThere S p a (suc k) → map.contains_key S (slot_at p a) ≡ true
first_there S p a k there = let e : a ≡ a + 0 = omega arith in ap (λ x. map.contains_key S (slot_at p x)) e ∙ there 0 (omega arith)

pub rest_there : (S : Spaces) (p a k at b : ℕ) → AreThere S p a (suc k) → AreThere (stored S (slot_at p a) at (b ∷ [])) p (a + 1) k
rest_there S p a k at b there i l =
    let e : a + 1 + i ≡ a + suc i = omega arith in
    key-byte S (slot_at p a) at b (first_there S p a k there) (slot_at p (a + 1 + i)) ∙ ap (λ x. map.contains_key S (slot_at p x)) e ∙ there (suc i) (omega (arith, l))

pub key-all_stored : (S : Spaces) (p a k v : ℕ) → AreThere S p a k → (q : Slot) → map.contains_key (all_stored S p a (bytes_of k v)) q ≡ map.contains_key S q
key-all_stored S p a zero v there q = refl
key-all_stored S p a (suc k) v there q =
    key-all_stored (stored S (slot_at p a) (offset_number a) (v % 256 ∷ [])) p (a + 1) k (v / 256) (rest_there S p a k (offset_number a) (v % 256) there) q
    ∙ key-byte S (slot_at p a) (offset_number a) (v % 256) (first_there S p a k there) q

-- the bytes of an access of mapped pages
pub bytes_there : (S : Spaces) (p address : ℕ) (size : Size) → EachTouched address size (IsThere S p) → AreThere S p address (byte_count size)
bytes_there S p address size there = each_byte address size (IsThere S p) there

-- ---- An access whose bytes lie in one mapped page

pub load_in_page : (S : Spaces) (p address : ℕ) (size : Size) → second_page address size ≡ None → IsThere S p (page_number address)
    → all_accessed (with_pages S p (touched address size)) p (touched address size) ≡ accessed S (slot_at p address)
load_in_page S p address size within there = grind (arith, with_page-same)

pub store_in_page : (S : Spaces) (p address : ℕ) (size : Size) (value : ℕ) → second_page address size ≡ None → IsThere S p (page_number address)
    → all_stored (with_pages S p (touched address size)) p address (bytes_of (byte_count size) value) ≡ stored S (slot_at p address) (offset_number address) (bytes_of (byte_count size) value)
store_in_page S p address size value within there = grind (arith, with_page-same, stored_in_page)
