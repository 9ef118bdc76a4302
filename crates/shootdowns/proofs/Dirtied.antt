-- Memory in which dirty was set in the word of a page that isn't lazy.
use Rattle.shootdowns.proofs.Prelude.{◌≡◌, ◌≢◌, ℕ, ◌<◌, ◌≤◌, ◌^◌, Bool, true, false, List, length, refl, ap, sym, ◌∙◌, arith, inl, inr, Option, Some, None, cases_eq, slice_get_within, ◌⊎◌, slice_get, option_and_then, option_map, slot_number, index_number, same, with_flag, frame_number, is_accessed, is_lazy, same_itself, same_or_not, same-true, frame_bytes, word_at, word_in, word_place, with_word, with_word_in, with_frame, IsInside, word_in-frame, frames-with_word, with_frame-same, with_frame-other, length-frame, word_in_same, word_in_other, length-with_word, Role, Directory, Table, Page, directory_at, table_at, word_of, page_word, own_frame, Slot, slot_order, Cell, at_page, own_is, memory_of, State, View, IsWellFormed, IsCore}
use Rattle.page_words.specs.FiniteMap as map
use Rattle.address_space.specs.Image as memory
use Rattle.kernel_calls.specs.Processors.{with_bytes}
use Rattle.shootdowns.proofs.Accesses.{lazy_zero, frame_at, frame_is, word_mapped}
use Rattle.shootdowns.proofs.DirtyCells.{dirt, dirt_bytes}
use Rattle.shootdowns.proofs.Filled.{fill}
use Rattle.shootdowns.proofs.Remade.{Remade, mark, mark_frame}
use Rattle.shootdowns.proofs.Taking.{cell_bytes}

-- the frame that a slot's word names is no table
pub frame_apart : (w : View) → IsCore w → (slot : Slot) (n : ℕ) → page_word (memory_of w) slot ≡ Some n → (q s f : ℕ) → table_at (memory_of w) q s ≡ Some f
    → frame_number n ≢ f
frame_apart w core slot n is q s f linked same = by (is_lazy n) refl
  where
    role : slice_get w.roles f ≡ Some (Table q s)
    role = (core.image.memory.sound.tables f q s).1 linked

    by : (b : Bool) → is_lazy n ≡ b → ⊥
    by true lazy = grind (arith, lazy_zero, role)
    by false real =
        let page = core.image.memory.sound.pages slot (frame_number n) (ap (option_and_then (own_frame 2)) is ∙ own_is n real) in
        let k : ◌≡◌ {A = Option Role} (Some (Page page.0)) (Some (Table q s)) = sym page.1 ∙ ap (slice_get w.roles) same ∙ role in
        cc

-- ---- The memory

module _ (w : View) (core : IsCore w) (small : length w.bytes ≤ 2 ^ 32) (p page table word : ℕ) (t : State)
    (leads : table_at (memory_of w) p (slot_number page) ≡ Some table)
    (there : page_word (memory_of w) (at_page p page) ≡ Some word)
    (real : is_lazy word ≡ false)
    (touched : is_accessed word ≡ true)
    (book : t.book ≡ w.state.book)
    (well : IsWellFormed t)
    (cells : (slot : Slot) → map.get t.spaces slot ≡ option_map (dirt (same slot_order (at_page p page) slot)) (map.get w.state.spaces slot)) where
  abbrev at : Slot
  at = at_page p page

  abbrev one : Slot → Bool
  one slot = same slot_order (at_page p page) slot

  abbrev i0 : ℕ
  i0 = index_number page

  abbrev bytes : List ℕ
  bytes = with_word w.bytes (word_place table (index_number page)) (with_flag (word_at w.bytes (word_place table (index_number page))) 6 true)

  abbrev x : View
  x = with_bytes w t bytes

  abbrev S : memory.IsSoundImage (memory_of w)
  S = core.image.memory.sound

  -- ---- The word that changes

  low : i0 < 1024
  low = omega arith

  role : slice_get w.roles table ≡ Some (Table p (slot_number page))
  role = (S.tables table p (slot_number page)).1 leads

  inside : IsInside w.bytes table
  inside =
      let within = slice_get_within w.roles table (Table p (slot_number page)) role in
      let size = S.size in
      omega (arith, within, size)

  abbrev n0 : ℕ
  n0 = word_of (memory_of w) table i0

  old_is : n0 ≡ word
  old_is = grind arith

  abbrev new : ℕ
  new = with_flag (word_at w.bytes (word_place table (index_number page))) 6 true

  new_is : new ≡ with_flag n0 6 true
  new_is = ap (λ n. with_flag n 6 true) (word_in-frame w.bytes table i0 low)

  -- the page is not lazy, so that its frame is a page's
  frame_page : (c : ℕ) × (slice_get w.roles (frame_number word) ≡ Some (Page c))
  frame_page = S.pages at (frame_number word) (ap (option_and_then (own_frame 2)) there ∙ own_is word real)

  fits : new < 2 ^ 32
  fits =
      let within = slice_get_within w.roles (frame_number word) (Page frame_page.0) frame_page.1 in
      let size = S.size in
      let same : frame_number new ≡ frame_number word = ap frame_number new_is ∙ mark_frame true n0 ∙ ap frame_number old_is in
      omega (arith, within, size, small, same)

  all : frame_bytes bytes ≡ with_frame (frame_bytes w.bytes) table (with_word_in (frame_bytes w.bytes table) i0 new)
  all = frames-with_word w.bytes table i0 new low inside

  pub other_frame : (f : ℕ) → f ≢ table → frame_bytes bytes f ≡ frame_bytes w.bytes f
  other_frame f apart = ap (λ (m : ℕ → List ℕ). m f) all ∙ with_frame-other (frame_bytes w.bytes) table f (with_word_in (frame_bytes w.bytes table) i0 new) apart

  own_bytes : frame_bytes bytes table ≡ with_word_in (frame_bytes w.bytes table) i0 new
  own_bytes = ap (λ (m : ℕ → List ℕ). m table) all ∙ with_frame-same (frame_bytes w.bytes) table (with_word_in (frame_bytes w.bytes table) i0 new)

  pub long : length bytes ≡ length w.bytes
  long = length-with_word w.bytes (word_place table (index_number page)) new (let k = inside in let l = low in omega (arith, k, l))

  whole : length (frame_bytes w.bytes table) ≡ 4096
  whole = length-frame w.bytes table inside

  other_word : (i : ℕ) → i ≢ i0 → word_of (memory_of x) table i ≡ word_of (memory_of w) table i
  other_word i apart = ap (λ b. word_in b i) own_bytes ∙ word_in_other (frame_bytes w.bytes table) i0 i new whole low apart

  -- a frame with another role keeps its bytes
  by_role : (f : ℕ) (r : Role) → slice_get w.roles f ≡ Some r → r ≢ Table p (slot_number page) → f ≢ table
  by_role f r is apart same = grind (arith, role)

  -- ---- Words

  dir_same : (q d s : ℕ) → directory_at (memory_of w) q ≡ Some d → word_of (memory_of x) d s ≡ word_of (memory_of w) d s
  dir_same q d s live = ap (λ b. word_in b s) (other_frame d (by_role d (Directory q) ((S.directories d q).1 live) (λ e. cc)))

  -- a table is a page's only where it is that of the page's process and region
  its_table : (q s : ℕ) → table_at (memory_of w) q s ≡ Some table → (q ≡ p) × (s ≡ slot_number page)
  its_table q s linked = grind (arith, role)

  -- the word of a slot
  tab_marked : (slot : Slot) (f : ℕ) → table_at (memory_of w) slot.pid (slot_number slot.page) ≡ Some f
      → word_of (memory_of x) f (index_number slot.page) ≡ mark (one slot) (word_of (memory_of w) f (index_number slot.page))
  tab_marked slot f linked = by (same_or_not slot_order at slot)
    where
      by : ((at ≡ slot) × (same slot_order at slot ≡ true)) ⊎ (same slot_order at slot ≡ false)
          → word_of (memory_of x) f (index_number slot.page) ≡ mark (one slot) (word_of (memory_of w) f (index_number slot.page))
      by (inl is) = grind (arith, own_bytes, word_in_same, whole, low, fits, new_is, mark)
      by (inr apart) = beside (cases_eq f table)
        where
          beside : (f ≡ table) ⊎ (f ≢ table) → word_of (memory_of x) f (index_number slot.page) ≡ mark (one slot) (word_of (memory_of w) f (index_number slot.page))
          beside (inr other) =
              ap (λ b. word_in b (index_number slot.page)) (other_frame f other)
              ∙ sym (ap (λ b. mark b (word_of (memory_of w) f (index_number slot.page))) apart)
          beside (inl g) =
              (λ i. word_of (memory_of x) (g i) (index_number slot.page))
              ∙ other_word (index_number slot.page) far
              ∙ (λ i. mark (sym apart i) (word_of (memory_of w) (sym g i) (index_number slot.page)))
            where
              far : index_number slot.page ≢ i0
              far n =
                  let its = its_table slot.pid (slot_number slot.page) (linked ∙ ap Some g) in
                  let region = its.1 in
                  let pages : page ≡ slot.page = omega (arith, n, region) in
                  let e : at ≡ slot = λ i. record { pid = sym its.0 i; page = pages i } in
                  let k : true ≡ false = sym (ap (same slot_order at) (sym e) ∙ same_itself slot_order at) ∙ apart in
                  cc

  -- ---- The cells

  zero_apart : 0 ≢ table
  zero_apart = grind (arith, by_role)

  pub dirtied : Remade w (frame_at w) one t bytes
  dirtied = record {
    long = long;
    zero = other_frame 0 zero_apart;
    directories = dir_same;
    tables = tab_marked;
    real = λ slot is. (let here = same-true slot_order at slot is in (word, sym (ap (page_word (memory_of w)) here) ∙ there, real, touched));
    names = frame_is w;
    book = book;
    well = well;
    cells = λ slot. cells slot ∙ by slot (map.get w.state.spaces slot) refl;
  }
    where
      by : (slot : Slot) (z : Option Cell) → map.get w.state.spaces slot ≡ z
          → option_map (dirt (one slot)) z ≡ option_map (λ c. fill (frame_at w) bytes slot (dirt (one slot) c)) z
      by slot None is = refl
      by slot (Some c) is =
          let n = word_mapped w core slot c is in
          let same_bytes : (dirt (one slot) c).bytes ≡ frame_bytes bytes (frame_at w slot) =
          dirt_bytes (one slot) c ∙ cell_bytes w core slot c n.0 is n.1
          ∙ sym (other_frame (frame_number n.0) (frame_apart w core slot n.0 n.1 p (slot_number page) table leads))
          ∙ sym (ap (frame_bytes bytes) (frame_is w slot n.0 n.1)) in
          (λ i. Some (record (dirt (one slot) c) { bytes = same_bytes i }))
