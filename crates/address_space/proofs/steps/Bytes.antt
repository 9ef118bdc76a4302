-- Accesses byte by byte, and as one where their bytes lie in one page.
use Rattle.address_space.proofs.Prelude.{◌≡◌, ℕ, zero, suc, ◌+◌, ◌*◌, ◌/◌, ◌<◌, ◌≤◌, true, false, cond, List, [], ◌∷◌, ◌++◌, length, take, drop, refl, ap, sym, ◌∙◌, arith, inl, inr, Some, None, length-drop, ◌-◌, drop-drop, option_map, slice_index, if◌then◌else◌, ◌⊎◌, range_with_len, slice_range, page_number, offset_number, byte_count, covered, second_page, EachTouched, Size, same, cases_lt, same_or_not, same_itself, same_map, get-insert, get-map_values, Slot, slot_order, at_page, slot_at, Cell, Spaces, cell_or_fresh, set_bytes, with_bytes, stored, store_in, write_at, bytes_at, bytes_of, value_of, byte_at, number_of, all_stored, get_or-drop, append-nil, drop-take, length-take-le, take-append-drop, stays, crosses, some_bytes, page_stays, page_next, ◌^◌, mul_assoc, mul_comm, pow-zero, map-append, range_split, map as each}
use Rattle.std.proofs.lemmas.Grind.{pow_more}
use Rattle.page_words.specs.FiniteMap as map
use Rattle.page_words.specs.FiniteSet as set

-- ---- The pages of the bytes

-- what each page that an access touches has, the page of each of its bytes has
pub each_byte : (address : ℕ) (size : Size) (P : ℕ → Type 0) → EachTouched address size P → (i : ℕ) → i < byte_count size → P (page_number (address + i))
each_byte address size P h i l = grind (arith, some_bytes, cases_lt, page_stays, crosses, page_next, stays)

-- ---- A number in one page

-- the number of the bytes at some places in a row, those past the end being 0
pub value_by_places : (xs : List ℕ) (at n : ℕ) → value_of (each (slice_index xs) (range_with_len at n)) ≡ value_of (take n (drop at xs))
value_by_places xs at zero = refl
value_by_places xs at (suc n) =
    ap (λ v. slice_index xs at + 256 * v) (value_by_places xs (at + 1) n)
    ∙ by (drop at xs) refl ((let e : at ≡ at + 0 = omega arith in ap (slice_index xs) e) ∙ sym (get_or-drop at xs 0 0))
  where
    rest : drop (at + 1) xs ≡ drop 1 (drop at xs)
    rest = sym (drop-drop 1 at xs)

    by : (ys : List ℕ) → drop at xs ≡ ys → slice_index xs at ≡ slice_index (drop at xs) 0 → slice_index xs at + 256 * value_of (take n (drop (at + 1) xs)) ≡ value_of (take (suc n) ys)
    by ys is e = grind (arith, rest)

-- the bytes at some places in a row are those of a part
pub bytes_by_places : (xs : List ℕ) (at n : ℕ) → at + n ≤ length xs → each (slice_index xs) (range_with_len at n) ≡ take n (drop at xs)
bytes_by_places xs at zero fits = refl
bytes_by_places xs at (suc n) fits = by (drop at xs) refl (length-drop at xs) ((let e : at ≡ at + 0 = omega arith in ap (slice_index xs) e) ∙ sym (get_or-drop at xs 0 0)) (bytes_by_places xs (at + 1) n (omega (arith, fits)))
  where
    by : (ys : List ℕ) → drop at xs ≡ ys → length (drop at xs) ≡ length xs - at → slice_index xs at ≡ slice_index (drop at xs) 0
        → each (slice_index xs) (range_with_len (at + 1) n) ≡ take n (drop (at + 1) xs) → slice_index xs at ∷ each (slice_index xs) (range_with_len (at + 1) n) ≡ take (suc n) ys
    by ys is long e others = grind (arith, (sym (drop-drop 1 at xs)))

-- the number of two lists of bytes
pub value-append : (xs ys : List ℕ) → value_of (xs ++ ys) ≡ value_of xs + 256 ^ length xs * value_of ys
value-append [] ys = let one : 256 ^ zero ≡ 1 = pow-zero 256 in omega (arith, ap (λ n. n * value_of ys) one)
value-append (x ∷ xs) ys =
    let power : 256 ^ (length xs + 1) ≡ 256 ^ length xs * 256 = pow_more 256 (length xs) in
    let next : suc (length xs) ≡ length xs + 1 = omega arith in
    let high : 256 ^ suc (length xs) * value_of ys ≡ 256 * (256 ^ length xs * value_of ys) =
    ap (λ n. 256 ^ n * value_of ys) next ∙ ap (λ n. n * value_of ys) (power ∙ mul_comm (256 ^ length xs) 256) ∙ mul_assoc 256 (256 ^ length xs) (value_of ys) in
    omega (arith, value-append xs ys, high)

bytes_in : (S : Spaces) (p page a o n : ℕ) → ((i : ℕ) → i < n → page_number (a + i) ≡ page) → ((i : ℕ) → i < n → offset_number (a + i) ≡ o + i)
    → each (byte_at S p) (range_with_len a n) ≡ each (slice_index (cell_or_fresh S (at_page p page)).bytes) (range_with_len o n)
bytes_in S p page a o zero pages places = refl
bytes_in S p page a o (suc n) pages places =
    let z : a ≡ a + 0 = omega arith in
    let place : offset_number a ≡ o = let e = ap offset_number z ∙ places 0 (omega arith) in omega (arith, e) in
    (λ i. slice_index (cell_or_fresh S (at_page p ((ap page_number z ∙ pages 0 (omega arith)) i))).bytes (place i)
    ∷ bytes_in S p page (a + 1) (o + 1) n
    (λ i l. let e : a + 1 + i ≡ a + suc i = omega arith in ap page_number e ∙ pages (suc i) (omega (arith, l)))
    (λ i l. let e : a + 1 + i ≡ a + suc i = omega arith in let f : o + suc i ≡ o + 1 + i = omega arith in ap offset_number e ∙ places (suc i) (omega (arith, l)) ∙ f) i)

-- the bytes from an address on, which lie in one page
pub part_in_page : (S : Spaces) (p address n : ℕ) → offset_number address + n ≤ 4096
    → each (byte_at S p) (range_with_len address n) ≡ each (slice_index (cell_or_fresh S (slot_at p address)).bytes) (range_with_len (offset_number address) n)
part_in_page S p address n fits = grind (arith, bytes_in, page_stays)

-- the number of bytes that lie in one page
pub number_in_page : (S : Spaces) (p address : ℕ) (size : Size) → second_page address size ≡ None
    → number_of S p (covered address size) ≡ value_of (bytes_at (cell_or_fresh S (slot_at p address)).bytes (offset_number address) (byte_count size))
number_in_page S p address size within =
    let fits = stays address size within in
    ap value_of (bytes_in S p (page_number address) address (offset_number address) (byte_count size)
    (λ i l. page_stays address i (omega (arith, fits, l)))
    (λ i l. let s : offset_number address + i < 4096 = omega (arith, fits, l) in omega (arith, s)))
    ∙ value_by_places (cell_or_fresh S (slot_at p address)).bytes (offset_number address) (byte_count size)

-- the number of bytes that lie in two pages, each of 4,096 bytes
pub number_in_two : (S : Spaces) (p address behind : ℕ) (size : Size) → second_page address size ≡ Some behind
    → length (cell_or_fresh S (slot_at p address)).bytes ≡ 4096 → length (cell_or_fresh S (at_page p behind)).bytes ≡ 4096
    → number_of S p (covered address size)
    ≡ value_of (bytes_at (cell_or_fresh S (slot_at p address)).bytes (offset_number address) (4096 - offset_number address)
    ++ bytes_at (cell_or_fresh S (at_page p behind)).bytes 0 (offset_number address + byte_count size - 4096))
number_in_two S p address behind size over long long' =
    let few = (some_bytes size).2 in
    let count = (some_bytes size).1 in
    let o : ℕ = offset_number address in
    let cut : ℕ = 4096 - o in
    let rest : ℕ = o + byte_count size - 4096 in
    let here : o < 4096 = omega arith in
    let all : byte_count size ≡ cut + rest = omega (arith, (crosses address size behind over).past, here) in
    let first = bytes_in S p (page_number address) address o cut
    (λ i l. page_stays address i (omega (arith, l, here)))
    (λ i l. omega (arith, l, here))
    ∙ bytes_by_places (cell_or_fresh S (slot_at p address)).bytes o cut (omega (arith, long, here)) in
    let second = bytes_in S p behind (address + cut) 0 rest
    (λ i l. omega (arith, (crosses address size behind over).next, l, few, count))
    (λ i l. omega (arith, l, few, count))
    ∙ bytes_by_places (cell_or_fresh S (at_page p behind)).bytes 0 rest (omega (arith, long', few, count)) in
    ap (λ n. value_of (each (byte_at S p) (range_with_len address n))) all
    ∙ ap (λ xs. value_of (each (byte_at S p) xs)) (range_split address cut rest)
    ∙ ap value_of (map-append (byte_at S p) (range_with_len address cut) (range_with_len (address + cut) rest))
    ∙ (λ i. value_of (first i ++ second i))

-- ---- A store in one page

write_at-cons : (x : ℕ) (xs : List ℕ) (at : ℕ) (new : List ℕ) → write_at (x ∷ xs) (suc at) new ≡ x ∷ write_at xs at new
write_at-cons x xs at new = let e : suc at + length new ≡ suc (at + length new) = omega arith in ap (λ k. (x ∷ (take at xs ++ new)) ++ drop k (x ∷ xs)) e

write_at-none : (at : ℕ) (new : List ℕ) → write_at [] at new ≡ new
write_at-none at new = grind (arith, append-nil)

-- nothing written is no change
pub write_at-nothing : (xs : List ℕ) (at : ℕ) → write_at xs at [] ≡ xs
write_at-nothing xs at = let z : at + 0 ≡ at = omega arith in (λ i. append-nil (take at xs) i ++ drop (z i) xs) ∙ take-append-drop at xs

-- bytes written behind others are written with them
pub write_at-write_at : (xs : List ℕ) (at b : ℕ) (ys : List ℕ) → write_at (write_at xs at (b ∷ [])) (at + 1) ys ≡ write_at xs at (b ∷ ys)
write_at-write_at [] at b ys = grind (arith, write_at-none, write_at-cons)
write_at-write_at (x ∷ xs) zero b ys = grind (arith, write_at-cons)
write_at-write_at (x ∷ xs) (suc at) b ys =
    let e : suc at + 1 ≡ suc (at + 1) = omega arith in
    ap (λ zs. write_at zs (suc at + 1) ys) (write_at-cons x xs at (b ∷ [])) ∙ ap (λ k. write_at (x ∷ write_at xs at (b ∷ [])) k ys) e
    ∙ write_at-cons x (write_at xs at (b ∷ [])) (at + 1) ys
    ∙ ap (λ zs. x ∷ zs) (write_at-write_at xs at b ys) ∙ sym (write_at-cons x xs at (b ∷ ys))

module _ (S : Spaces) (slot : Slot) where
  abbrev cell : Cell
  cell = cell_or_fresh S slot

  abbrev first : List ℕ → Spaces
  first w = store_in S slot cell w

  same_cell : (w : List ℕ) → cell_or_fresh (first w) slot ≡ record cell { bytes = w; accessed = true; dirty = true }
  same_cell w = search (get-insert, same_itself, arith)

  -- a store over another
  twice : (w v : List ℕ) → store_in (first w) slot (record cell { bytes = w; accessed = true; dirty = true }) v ≡ store_in S slot cell v
  twice w v = same_map _ _ (λ q.
      get-insert (set_bytes (first w) cell.holders v) slot last q
      ∙ by q (same_or_not slot_order q slot)
      ∙ sym (get-insert (set_bytes S cell.holders v) slot last q))
    where
      last : Cell
      last = record cell { bytes = v; accessed = true; dirty = true }

      f : List ℕ → Slot → Cell → Cell
      f bytes s c = if set.contains cell.holders s then with_bytes c bytes else c

      by : (q : Slot) → ((q ≡ slot) × (same slot_order q slot ≡ true)) ⊎ (same slot_order q slot ≡ false)
          → cond (same slot_order q slot) (Some last) (map.get (set_bytes (first w) cell.holders v) q) ≡ cond (same slot_order q slot) (Some last) (map.get (set_bytes S cell.holders v) q)
      by q (inl h) = ap (λ b. cond b (Some last) (map.get (set_bytes (first w) cell.holders v) q)) h.1 ∙ sym (ap (λ b. cond b (Some last) (map.get (set_bytes S cell.holders v) q)) h.1)
      by q (inr h) =
          ap (cond (same slot_order q slot) (Some last))
          (get-map_values slot_order (f v) (first w) q
          ∙ ap (option_map (f v q)) (get-insert (set_bytes S cell.holders w) slot (record cell { bytes = w; accessed = true; dirty = true }) q
          ∙ ap (λ b. cond b (Some (record cell { bytes = w; accessed = true; dirty = true })) (map.get (set_bytes S cell.holders w) q)) h
          ∙ get-map_values slot_order (f w) S q)
          ∙ (grind arith)
          ∙ sym (get-map_values slot_order (f v) S q))

  -- bytes stored behind one are stored with it
  pub stored-stored : (at b : ℕ) (ys : List ℕ) → stored (stored S slot at (b ∷ [])) slot (at + 1) ys ≡ stored S slot at (b ∷ ys)
  stored-stored at b ys = grind (arith, same_cell, write_at-write_at, twice)

  -- a store of no byte, and then one of some
  pub stored-none : (at : ℕ) (ys : List ℕ) → stored (stored S slot at []) slot at ys ≡ stored S slot at ys
  stored-none at ys = grind (arith, same_cell, write_at-nothing, twice)

  -- a store leaves both flags set
  pub stored-flags : (at : ℕ) (ys : List ℕ) → ((cell_or_fresh (stored S slot at ys) slot).accessed ≡ true) × ((cell_or_fresh (stored S slot at ys) slot).dirty ≡ true)
  stored-flags at ys = let same = same_cell (write_at cell.bytes at ys) in (ap (λ (c : Cell). c.accessed) same, ap (λ (c : Cell). c.dirty) same)

  -- and the right as it was
  pub stored-write : (at : ℕ) (ys : List ℕ) → (cell_or_fresh (stored S slot at ys) slot).write ≡ cell.write
  stored-write at ys = ap (λ (c : Cell). c.write) (same_cell (write_at cell.bytes at ys))

one_stored : (S : Spaces) (p page a o b : ℕ) (bs : List ℕ) → page_number a ≡ page → offset_number a ≡ o → all_stored S p a (b ∷ bs) ≡ all_stored (stored S (at_page p page) o (b ∷ [])) p (a + 1) bs
one_stored S p page a o b bs first place i = all_stored (stored S (at_page p (first i)) (place i) (b ∷ [])) p (a + 1) bs

stored_in : (S : Spaces) (p page a o b : ℕ) (bs : List ℕ) → ((i : ℕ) → i < suc (length bs) → page_number (a + i) ≡ page) → ((i : ℕ) → i < suc (length bs) → offset_number (a + i) ≡ o + i)
    → all_stored S p a (b ∷ bs) ≡ stored S (at_page p page) o (b ∷ bs)
stored_in S p page a o b [] pages places =
    let z : a ≡ a + 0 = omega arith in
    one_stored S p page a o b [] (ap page_number z ∙ pages 0 (omega arith)) (let e = ap offset_number z ∙ places 0 (omega arith) in omega (arith, e))
stored_in S p page a o b (c ∷ bs) pages places =
    let z : a ≡ a + 0 = omega arith in
    one_stored S p page a o b (c ∷ bs) (ap page_number z ∙ pages 0 (omega arith)) (let e = ap offset_number z ∙ places 0 (omega arith) in omega (arith, e))
    ∙ stored_in (stored S (at_page p page) o (b ∷ [])) p page (a + 1) (o + 1) c bs
    (λ i l. let e : a + 1 + i ≡ a + suc i = omega arith in ap page_number e ∙ pages (suc i) (omega (arith, l)))
    (λ i l. let e : a + 1 + i ≡ a + suc i = omega arith in let f : o + suc i ≡ o + 1 + i = omega arith in ap offset_number e ∙ places (suc i) (omega (arith, l)) ∙ f)
    ∙ stored-stored S (at_page p page) o b (c ∷ bs)

-- how many bytes of a number
pub length-bytes : (k v : ℕ) → length (bytes_of k v) ≡ k
length-bytes zero v = refl
length-bytes (suc k) v = ap suc (length-bytes k (v / 256))

-- a store whose bytes lie in one page
pub stored_in_page : (S : Spaces) (p address : ℕ) (size : Size) (value : ℕ) → second_page address size ≡ None
    → all_stored S p address (bytes_of (byte_count size) value) ≡ stored S (slot_at p address) (offset_number address) (bytes_of (byte_count size) value)
stored_in_page S p address size value within =
    grind (arith, stays address size within, some_bytes size, (some_bytes size).1, stored_in, length-bytes, page_stays)

-- ---- Bytes that lie in two pages

-- some bytes of one page, stored as one part
part_stored : (S : Spaces) (p a : ℕ) (bs : List ℕ) → 1 ≤ length bs → offset_number a + length bs ≤ 4096 → all_stored S p a bs ≡ stored S (slot_at p a) (offset_number a) bs
part_stored S p a [] some fits = absurd (let k : suc zero ≤ zero = some in omega (arith, k))
part_stored S p a (b ∷ bs) some fits = grind (arith, stored_in, page_stays)

-- one part after the other
all_append : (S : Spaces) (p a : ℕ) (xs ys : List ℕ) → all_stored S p a (xs ++ ys) ≡ all_stored (all_stored S p a xs) p (a + length xs) ys
all_append S p a [] ys = let z : a ≡ a + zero = omega arith in ap (λ n. all_stored S p n ys) z
all_append S p a (x ∷ xs) ys =
    grind (arith, all_append (stored S (slot_at p a) (offset_number a) (x ∷ [])) p (a + 1) xs ys)

-- those at the end of a page, and those at the start of the next
pub stored_two : (S : Spaces) (p a : ℕ) (xs ys : List ℕ) → 1 ≤ length xs → 1 ≤ length ys → offset_number a + length xs ≡ 4096 → length ys ≤ 4096
    → all_stored S p a (xs ++ ys) ≡ stored (stored S (slot_at p a) (offset_number a) xs) (slot_at p (a + length xs)) (offset_number (a + length xs)) ys
stored_two S p a xs ys some more ends fits = grind (arith, all_append, part_stored)

-- ---- The parts of a number's bytes

pub two_parts : (B : List ℕ) (cut end : ℕ) → cut ≤ end → end ≤ length B → take cut B ++ slice_range B cut end ≡ take end B
two_parts B cut end a b =
    let k = end - cut in
    let n : end ≡ cut + k = omega (arith, a) in
    ap (λ xs. xs ++ take k (drop cut B)) (sym (take-take B cut k)) ∙ ap (λ xs. take cut (take (cut + k) B) ++ xs) (sym (drop-take cut k B)) ∙ take-append-drop cut (take (cut + k) B) ∙ ap (λ m. take m B) (sym n)
  where
    take-none : (n : ℕ) → take {A = ℕ} n [] ≡ []
    take-none n = grind arith

    take-take : (xs : List ℕ) (i m : ℕ) → take i (take (i + m) xs) ≡ take i xs
    take-take xs zero m = refl
    take-take [] (suc i) m = ap (take (suc i)) (take-none (suc i + m))
    take-take (x ∷ xs) (suc i) m = let z : suc i + m ≡ suc (i + m) = omega arith in ap (λ n. take (suc i) (take n (x ∷ xs))) z ∙ ap (λ r. x ∷ r) (take-take xs i m)

pub length-part : (B : List ℕ) (from to : ℕ) → from ≤ to → to ≤ length B → length (slice_range B from to) ≡ to - from
length-part B from to a b = let left = length-drop from B in length-take-le (to - from) (drop from B) (omega (arith, a, b, left))

pub first_bytes : (size : Size) (v : ℕ) → take (byte_count size) (bytes_of 4 v) ≡ bytes_of (byte_count size) v
first_bytes size v = grind arith
