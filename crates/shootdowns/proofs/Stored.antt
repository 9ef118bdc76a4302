-- Stores into the frames of pages, on cells that have these frames' bytes.
use Rattle.shootdowns.proofs.Prelude.{◌≡◌, ◌≢◌, ℕ, zero, suc, ◌+◌, ◌*◌, ◌/◌, ◌%◌, ◌<◌, ◌≤◌, Bool, true, false, cond, List, [], ◌∷◌, length, length-set, refl, ap, sym, ◌∙◌, subst, arith, inl, inr, Option, Some, ◌⊎◌, if◌then◌else◌, slice_set, option_map, page_number, offset_number, same, same_map, same_or_not, frame_bytes, IsInside, with_frame, frames-with_byte, with_frame-same, with_frame-other, length-frame, kept_place, written_at, Slot, slot_order, Cell, Spaces, at_page, with_bytes, write_at, stored, all_stored, bytes_of, byte_is_write}
use Rattle.page_words.specs.FiniteMap as map
use Rattle.page_words.specs.FiniteSet as set
use Rattle.shootdowns.proofs.Cells.{get_stored, first_of, rest_of}
use Rattle.shootdowns.proofs.Filled.{fill, filled, get_filled}

-- memory keeps its length
pub length-written : (frames : ℕ → ℕ) (bytes : List ℕ) (a : ℕ) (new : List ℕ) → length (written_at frames bytes a new) ≡ length bytes
length-written frames bytes a [] = refl
length-written frames bytes a (b ∷ rest) =
    length-written frames (slice_set bytes (kept_place frames a) b) (a + 1) rest ∙ length-set bytes (kept_place frames a) b

-- the frames into which no byte goes stay
pub frames_beside : (frames : ℕ → ℕ) (k v : ℕ) (bytes : List ℕ) (a g : ℕ)
    → ((i : ℕ) → i < k → IsInside bytes (frames (page_number (a + i))) × (g ≢ frames (page_number (a + i))))
    → frame_bytes (written_at frames bytes a (bytes_of k v)) g ≡ frame_bytes bytes g
frames_beside frames zero v bytes a g each = refl
frames_beside frames (suc k) v bytes a g each =
    let here = first_of (λ n. IsInside bytes (frames (page_number n)) × (g ≢ frames (page_number n))) k a each in
    let long = length-set bytes (kept_place frames a) (v % 256) in
    frames_beside frames k (v / 256) (slice_set bytes (kept_place frames a) (v % 256)) (a + 1) g
    (λ i l.
    let there = rest_of (λ n. IsInside bytes (frames (page_number n)) × (g ≢ frames (page_number n))) k a each i l in
    (subst (λ n. 4096 * frames (page_number (a + 1 + i)) + 4096 ≤ n) (sym long) there.0, there.1))
    ∙ ap (λ (m : ℕ → List ℕ). m g) (frames-with_byte bytes (frames (page_number a)) (offset_number a) (v % 256) (omega arith) here.0)
    ∙ with_frame-other (frame_bytes bytes) (frames (page_number a)) g (slice_set (frame_bytes bytes (frames (page_number a))) (offset_number a) (v % 256)) here.1

module _ (F : Slot → ℕ) (S : Spaces) (p : ℕ) (frames : ℕ → ℕ) where
  -- a page that is stored to: its cell has both flags, and its group are the slots on its frame
  pub record Held (long page : ℕ) : Type 0 where
    pub cell : Cell
    pub there : map.get S (at_page p page) ≡ Some cell
    pub accessed : cell.accessed ≡ true
    pub dirty : cell.dirty ≡ true
    pub frame : F (at_page p page) ≡ frames page
    pub inside : 4096 * frames page + 4096 ≤ long
    pub group : (r : Slot) (d : Cell) → map.get S r ≡ Some d → set.contains cell.holders r ≡ true → F r ≡ frames page
    pub apart : (r : Slot) (d : Cell) → map.get S r ≡ Some d → set.contains cell.holders r ≡ false → F r ≢ frames page

  -- one byte
  put : (bytes : List ℕ) (page o v : ℕ) → o < 4096 → Held (length bytes) page
      → stored (filled F bytes S) (at_page p page) o (v % 256 ∷ []) ≡ filled F (slice_set bytes (4096 * frames page + o) (v % 256)) S
  put bytes page o v small h = same_map _ _ (λ r.
      get_stored (filled F bytes S) slot (fill F bytes slot h.cell) (get_filled F bytes S slot ∙ ap (option_map (fill F bytes slot)) h.there) o (v % 256 ∷ []) r
      ∙ ap (λ (z : Option Cell). cond (same slot_order r slot) (Some done) (option_map (λ (c : Cell). if set.contains h.cell.holders r then with_bytes c new else c) z)) (get_filled F bytes S r)
      ∙ by r (same_or_not slot_order r slot)
      ∙ sym (get_filled F two S r))
    where
      slot : Slot
      slot = at_page p page

      f : ℕ
      f = frames page

      two : List ℕ
      two = slice_set bytes (4096 * f + o) (v % 256)

      new : List ℕ
      new = write_at (frame_bytes bytes (F slot)) o (v % 256 ∷ [])

      done : Cell
      done = record (fill F bytes slot h.cell) { bytes = new; accessed = true; dirty = true }

      all : frame_bytes two ≡ with_frame (frame_bytes bytes) f (slice_set (frame_bytes bytes f) o (v % 256))
      all = frames-with_byte bytes f o (v % 256) small h.inside

      long : length (frame_bytes bytes f) ≡ 4096
      long = length-frame bytes f h.inside

      own : frame_bytes two f ≡ new
      own = grind (arith, f, all, with_frame-same, byte_is_write, long)

      in_group : (r : Slot) (z : Option Cell) → map.get S r ≡ z → (b : Bool) → set.contains h.cell.holders r ≡ b
          → option_map (λ (c : Cell). if b then with_bytes c new else c) (option_map (fill F bytes r) z) ≡ option_map (fill F two r) z
      in_group r x1 is x3 k = grind (arith, own, two, all, with_frame-other, f)

      by : (r : Slot) → ((r ≡ slot) × (same slot_order r slot ≡ true)) ⊎ (same slot_order r slot ≡ false)
          → cond (same slot_order r slot) (Some done) (option_map (λ (c : Cell). if set.contains h.cell.holders r then with_bytes c new else c) (option_map (fill F bytes r) (map.get S r)))
          ≡ option_map (fill F two r) (map.get S r)
      by r (inl is) = grind (arith, done, new, fill, own, two, slot)
      by r (inr differ) =
          ap (λ k. cond k (Some done) (option_map (λ (c : Cell). if set.contains h.cell.holders r then with_bytes c new else c) (option_map (fill F bytes r) (map.get S r)))) differ
          ∙ in_group r (map.get S r) refl (set.contains h.cell.holders r) refl

  -- and all bytes of a store
  pub all_put : (k v a : ℕ) (bytes : List ℕ) → ((i : ℕ) → i < k → Held (length bytes) (page_number (a + i)))
      → all_stored (filled F bytes S) p a (bytes_of k v) ≡ filled F (written_at frames bytes a (bytes_of k v)) S
  all_put zero v a bytes held = refl
  all_put (suc k) v a bytes held =
      let two = slice_set bytes (kept_place frames a) (v % 256) in
      ap (λ (T : Spaces). all_stored T p (a + 1) (bytes_of k (v / 256)))
      (put bytes (page_number a) (offset_number a) v (omega arith) (first_of (λ n. Held (length bytes) (page_number n)) k a held))
      ∙ all_put k (v / 256) (a + 1) two (λ i l. subst (λ n. Held n (page_number (a + 1 + i))) (sym (length-set bytes (kept_place frames a) (v % 256)))
      (rest_of (λ n. Held (length bytes) (page_number n)) k a held i l))
