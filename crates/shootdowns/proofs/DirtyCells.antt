-- Dirty set in a slot's cell: what it leaves of a state, of an event that takes the right to write, and of a store.
use Rattle.shootdowns.proofs.Prelude.{◌≡◌, ℕ, zero, suc, ◌+◌, ◌/◌, ◌%◌, ◌<◌, Bool, true, false, cond, List, [], ◌∷◌, refl, ap, sym, ◌∙◌, subst, arith, Option, Some, None, is_some, ◌⊎◌, if◌then◌else◌, option_map, offset_number, byte_count, EachTouched, Size, same, same_map, same_itself, same_or_not, get-insert, get-map_values, Slot, slot_order, Cell, Spaces, at_page, slot_at, cell_or_fresh, with_bytes, set_bytes, write_at, stored, all_stored, bytes_of, protected, IsThere, with_touched-same, each_byte, State, IsWellFormed, get-inserted, each_page, answer, answer_of, after, next, completes, Call, Event, next-stays, next-goes, only_takes, takes_right, some_value}
use Rattle.page_words.specs.FiniteMap as map
use Rattle.page_words.specs.FiniteSet as set
use Rattle.process_table.proofs.SpaceLaws.{well_formed-flags}
use Rattle.kernel_calls.specs.declared.calls.Call.TheVariants as call
use Rattle.shootdowns.proofs.Alike.{AlikeCell, same_cell}
use Rattle.shootdowns.proofs.Cells.{written, grouped, get_protected, get_stored, first_of, rest_of}
use Rattle.shootdowns.proofs.Filled.{protects_mapped, completed}
use Rattle.shootdowns.proofs.Taking.{kept_next}
use Rattle.shootdowns.proofs.Turned.{Grows, Has, has_then, grows_stored, bytes_grow, stores_turn, there_is, answer_alike}

-- a cell with dirty set, where it is the one
abbrev pub dirt : Bool → Cell → Cell
dirt true c = record c { dirty = true }
dirt false c = c

pub dirt_alike : (b : Bool) (c : Cell) → AlikeCell c (dirt b c)
dirt_alike x0 c = grind (arith, same_cell)

pub dirt_flags : (b : Bool) (c : Cell) → (c.accessed ≡ true → (dirt b c).accessed ≡ true) × (c.dirty ≡ true → (dirt b c).dirty ≡ true)
dirt_flags x0 c = grind arith

pub dirt_accessed : (b : Bool) (c : Cell) → (dirt b c).accessed ≡ c.accessed
dirt_accessed x0 c = grind arith

pub dirt_bytes : (b : Bool) (c : Cell) → (dirt b c).bytes ≡ c.bytes
dirt_bytes x0 c = grind arith

-- ---- Spaces

abbrev pub dirty_in : Slot → Spaces → Spaces
dirty_in at S = map.map_values (λ q (c : Cell). dirt (same slot_order at q) c) S

abbrev pub dirty_at : Slot → State → State
dirty_at at s = record s { spaces = dirty_in at s.spaces }

pub right_taken : (c : Call) → takes_right c ≡ true → only_takes c ≡ true
right_taken x0 h = grind arith

module _ (at : Slot) where
  pub get_dirty : (S : Spaces) (r : Slot) → map.get (dirty_in at S) r ≡ option_map (dirt (same slot_order at r)) (map.get S r)
  get_dirty S r = get-map_values slot_order (λ q (c : Cell). dirt (same slot_order at q) c) S r

  pub grows_dirty : (S : Spaces) → Grows S (dirty_in at S)
  grows_dirty S = record {
    cells = λ slot c there. (
      dirt (same slot_order at slot) c,
      get_dirty S slot ∙ ap (option_map (dirt (same slot_order at slot))) there,
      dirt_alike (same slot_order at slot) c,
      dirt_flags (same slot_order at slot) c,
    );
    back = λ slot d there. by slot d (map.get S slot) refl (sym (get_dirty S slot) ∙ there);
  }
    where
      by : (slot : Slot) (d : Cell) (z : Option Cell) → map.get S slot ≡ z → option_map (dirt (same slot_order at slot)) (map.get S slot) ≡ Some d
          → (c : Cell) × (map.get S slot ≡ Some c) × AlikeCell c d
      by slot d None is k = absurd (let e : None ≡ Some d = sym (ap (option_map (dirt (same slot_order at slot))) is) ∙ k in cc)
      by slot d (Some c) is k =
          let q : dirt (same slot_order at slot) c ≡ d = cc in
          (c, is, subst (AlikeCell c) q (dirt_alike (same slot_order at slot) c))

  -- the state stays well formed, where the cell has accessed
  pub well_dirty : (s : State) (c : Cell) → map.get s.spaces at ≡ Some c → c.accessed ≡ true → IsWellFormed s → IsWellFormed (dirty_at at s)
  well_dirty s c there accessed well =
      subst (λ (S : Spaces). IsWellFormed (record s { spaces = S })) (sym is)
      (well_formed-flags s at c there well (record c { dirty = true })
      (λ q. record { holders = refl; bytes_in = λ _. refl; bytes_out = λ _. refl; write = λ f. f; may = refl; dirty = λ _ _. accessed }))
    where
      is : dirty_in at s.spaces ≡ map.insert s.spaces at (record c { dirty = true })
      is = same_map _ _ (λ r. get_dirty s.spaces r ∙ by r (same_or_not slot_order r at) ∙ sym (get-insert s.spaces at (record c { dirty = true }) r))
        where
          by : (r : Slot) → ((r ≡ at) × (same slot_order r at ≡ true)) ⊎ (same slot_order r at ≡ false)
              → option_map (dirt (same slot_order at r)) (map.get s.spaces r) ≡ cond (same slot_order r at) (Some (record c { dirty = true })) (map.get s.spaces r)
          by r x1 = grind (arith, same_itself, same_or_not)

  -- ---- An event that takes the right to write

  dirt_write : (b w : Bool) (c : Cell) → record (dirt b c) { write = w } ≡ dirt b (record c { write = w })
  dirt_write x0 w c = grind arith

  right_dirty : (S : Spaces) (slot : Slot) (w : Bool) → is_some (map.get S slot) ≡ true → protected (dirty_in at S) slot w ≡ dirty_in at (protected S slot w)
  right_dirty S slot w there = same_map _ _ (λ r.
      get_protected (dirty_in at S) slot (dirt (same slot_order at slot) has.0) (get_dirty S slot ∙ ap (option_map (dirt (same slot_order at slot))) has.1) w r
      ∙ (λ i. cond (same slot_order r slot) (Some (dirt_write (same slot_order at slot) w has.0 i)) (get_dirty S r i))
      ∙ by r (same_or_not slot_order r slot)
      ∙ sym (get_dirty (protected S slot w) r ∙ ap (option_map (dirt (same slot_order at r))) (get_protected S slot has.0 has.1 w r)))
    where
      has : (c : Cell) × (map.get S slot ≡ Some c)
      has = some_value (map.get S slot) there

      by : (r : Slot) → ((r ≡ slot) × (same slot_order r slot ≡ true)) ⊎ (same slot_order r slot ≡ false)
          → cond (same slot_order r slot) (Some (dirt (same slot_order at slot) (record has.0 { write = w }))) (option_map (dirt (same slot_order at r)) (map.get S r))
          ≡ option_map (dirt (same slot_order at r)) (cond (same slot_order r slot) (Some (record has.0 { write = w })) (map.get S r))
      by r x1 = grind arith

  pub answer_dirty : (s : State) (e : Event) → takes_right e.call ≡ true → answer (dirty_at at s) e ≡ answer s e
  answer_dirty s e h = answer_alike s (dirty_at at s) e (right_taken e.call h) refl (grows_dirty s.spaces)

  after_dirty : (s : State) (p : ℕ) (c : Call) → takes_right c ≡ true → completes (answer_of s p c) ≡ true → after (dirty_at at s) p c ≡ dirty_at at (after s p c)
  after_dirty s p (call.Protect page false) h done = ap (λ (S : Spaces). record s { spaces = S }) (right_dirty s.spaces (at_page p page) false (protects_mapped s p page done))
  after_dirty s p _ h done = cc

  pub next_dirty : (s : State) (e : Event) → takes_right e.call ≡ true → next (dirty_at at s) e ≡ dirty_at at (next s e)
  next_dirty s e h = grind (arith, next-stays, answer_dirty, next-goes, after_dirty, completed)

  -- ---- A store

  stored_dirty : (S : Spaces) (b : Slot) (c : Cell) (o : ℕ) (ys : List ℕ) → map.get S b ≡ Some c → dirty_in at (stored S b o ys) ≡ stored (dirty_in at S) b o ys
  stored_dirty S b c o ys has = same_map _ _ (λ r.
      get_dirty (stored S b o ys) r ∙ ap (option_map (dirt (same slot_order at r))) (get_stored S b c has o ys r)
      ∙ by (same slot_order at r) (same slot_order r b) (set.contains c.holders r) (map.get S r)
      ∙ sym (get_stored (dirty_in at S) b (dirt (same slot_order at b) c) (get_dirty S b ∙ ap (option_map (dirt (same slot_order at b))) has) o ys r
      ∙ whole (same slot_order at b) r
      ∙ ap (λ (z : Option Cell). cond (same slot_order r b) (Some (written c o ys)) (option_map (grouped c o ys r) z)) (get_dirty S r)))
    where
      whole : (y : Bool) (r : Slot) → cond (same slot_order r b) (Some (written (dirt y c) o ys)) (option_map (grouped (dirt y c) o ys r) (map.get (dirty_in at S) r))
          ≡ cond (same slot_order r b) (Some (written c o ys)) (option_map (grouped c o ys r) (map.get (dirty_in at S) r))
      whole x0 r = grind arith

      own : (x : Bool) → dirt x (written c o ys) ≡ written c o ys
      own x0 = grind arith

      put : (x m : Bool) (k : Cell) → dirt x (if m then with_bytes k (write_at c.bytes o ys) else k) ≡ (if m then with_bytes (dirt x k) (write_at c.bytes o ys) else dirt x k)
      put x0 x1 k = grind arith

      by : (x q m : Bool) (z : Option Cell)
          → option_map (dirt x) (cond q (Some (written c o ys)) (option_map (λ (k : Cell). if m then with_bytes k (write_at c.bytes o ys) else k) z))
          ≡ cond q (Some (written c o ys)) (option_map (λ (k : Cell). if m then with_bytes k (write_at c.bytes o ys) else k) (option_map (dirt x) z))
      by x true m z = ap (λ (k : Cell). Some k) (own x)
      by x false m None = refl
      by x false m (Some k) = ap (λ (k : Cell). Some k) (put x m k)

  all_dirty : (k v a p : ℕ) (S : Spaces) → ((i : ℕ) → i < k → Has S (slot_at p (a + i))) → dirty_in at (all_stored S p a (bytes_of k v)) ≡ all_stored (dirty_in at S) p a (bytes_of k v)
  all_dirty k v a p S each = stores_turn (dirty_in at) (λ S b. Unit {0}) (λ S b c o ys has good. tt) (λ S b o ys has good. stored_dirty S b has.0 o ys has.1) k v a p S (λ i l. (each i l, tt))

  -- where a store has set it already
  same_dirty : (S : Spaces) (d : Cell) → map.get S at ≡ Some d → d.dirty ≡ true → dirty_in at S ≡ S
  same_dirty S d there dirty = same_map _ _ (λ r. get_dirty S r ∙ by r (same_or_not slot_order at r))
    where
      by : (r : Slot) → ((at ≡ r) × (same slot_order at r ≡ true)) ⊎ (same slot_order at r ≡ false) → option_map (dirt (same slot_order at r)) (map.get S r) ≡ map.get S r
      by r x1 = grind arith

-- the page of each byte of a store is dirty after it
dirty_then : (i k v a p : ℕ) (S : Spaces) → i < k → ((j : ℕ) → j < k → Has S (slot_at p (a + j)))
    → (d : Cell) × (map.get (all_stored S p a (bytes_of k v)) (slot_at p (a + i)) ≡ Some d) × (d.dirty ≡ true)
dirty_then i zero v a p S l each = absurd (omega (arith, l))
dirty_then zero (suc k) v a p S l each =
    let here = first_of (λ n. Has S (slot_at p n)) k a each in
    let T = stored S (slot_at p a) (offset_number a) (v % 256 ∷ []) in
    let first = grows_stored S (slot_at p a) here.0 (offset_number a) (v % 256 ∷ []) here.1 in
    let grows = bytes_grow k (v / 256) (a + 1) p T (λ j l. has_then S T (slot_at p (a + 1 + j)) first (rest_of (λ n. Has S (slot_at p n)) k a each j l)) in
    let c = cell_or_fresh S (slot_at p a) in
    let done : Cell = written c (offset_number a) (v % 256 ∷ []) in
    let now : map.get T (slot_at p a) ≡ Some done = get-inserted (set_bytes S c.holders (write_at c.bytes (offset_number a) (v % 256 ∷ []))) (slot_at p a) done in
    let d = grows.cells (slot_at p a) done now in
    let none : a + 0 ≡ a = omega arith in
    (d.0, ap (λ n. map.get (all_stored T p (a + 1) (bytes_of k (v / 256))) (slot_at p n)) none ∙ d.1, d.3.1 refl)
dirty_then (suc i) (suc k) v a p S l each =
    let here = first_of (λ n. Has S (slot_at p n)) k a each in
    let T = stored S (slot_at p a) (offset_number a) (v % 256 ∷ []) in
    let first = grows_stored S (slot_at p a) here.0 (offset_number a) (v % 256 ∷ []) here.1 in
    let next : a + suc i ≡ a + 1 + i = omega arith in
    let d = dirty_then i k (v / 256) (a + 1) p T (omega (arith, l)) (λ j l. has_then S T (slot_at p (a + 1 + j)) first (rest_of (λ n. Has S (slot_at p n)) k a each j l)) in
    (d.0, ap (λ n. map.get (all_stored T p (a + 1) (bytes_of k (v / 256))) (slot_at p n)) next ∙ d.1, d.2)

-- a store that touches the page sets dirty itself
pub after_store_dirty : (s : State) (p addr : ℕ) (size : Size) (value i : ℕ) → i < byte_count size → EachTouched addr size (λ page. Has s.spaces (at_page p page))
    → after (dirty_at (slot_at p (addr + i)) s) p (call.Store addr size value) ≡ after s p (call.Store addr size value)
after_store_dirty s p addr size value i l pages =
    (λ j. record s {
      spaces = all_stored (with_touched-same (dirty_in at S) p addr size (each_page addr size (λ page. Has S (at_page p page)) (IsThere (dirty_in at S) p)
          (λ page h. there_is (dirty_in at S) p page (has_then S (dirty_in at S) (at_page p page) (grows_dirty at S) h)) pages) j) p addr (bytes_of (byte_count size) value);
    })
    ∙ ap (λ (T : Spaces). record s { spaces = T })
    (sym (all_dirty at (byte_count size) value addr p S each)
    ∙ same_dirty at (all_stored S p addr (bytes_of (byte_count size) value)) dirty.0 dirty.1 dirty.2)
    ∙ sym (λ j. record s { spaces = all_stored (with_touched-same S p addr size (each_page addr size (λ page. Has S (at_page p page)) (IsThere S p) (there_is S p) pages) j) p addr (bytes_of (byte_count size) value) })
  where
    S : Spaces
    S = s.spaces

    at : Slot
    at = slot_at p (addr + i)

    each : (j : ℕ) → j < byte_count size → Has s.spaces (slot_at p (addr + j))
    each j l = each_byte addr size (λ page. Has s.spaces (at_page p page)) pages j l

    dirty : (d : Cell) × (map.get (all_stored s.spaces p addr (bytes_of (byte_count size) value)) (slot_at p (addr + i)) ≡ Some d) × (d.dirty ≡ true)
    dirty = dirty_then i (byte_count size) value addr p s.spaces l each

-- ---- Slots that have it

abbrev pub HasDirty : State → Slot → Type 0
HasDirty s at = (c : Cell) → map.get s.spaces at ≡ Some c → c.dirty ≡ true

pub own_dirty : (at : Slot) (s : State) → HasDirty (dirty_at at s) at
own_dirty at s c there = grind (arith, get_dirty, same_itself)

pub still_dirty : (b at : Slot) (s : State) → HasDirty s at → HasDirty (dirty_at b s) at
still_dirty b at s has c there = grind (arith, get_dirty, dirt_flags)

-- after an event that takes a right, a slot is mapped as before, with accessed as before
pub right_keeps : (s : State) (e : Event) → takes_right e.call ≡ true → (slot : Slot) (c : Cell) → map.get s.spaces slot ≡ Some c
    → (d : Cell) × (map.get (next s e).spaces slot ≡ Some d) × (d.accessed ≡ c.accessed)
right_keeps s e takes slot c there = by e.call refl takes
  where
    by : (k : Call) → e.call ≡ k → takes_right k ≡ true → (d : Cell) × (map.get (next s e).spaces slot ≡ Some d) × (d.accessed ≡ c.accessed)
    by (call.Protect page false) is h = let d = kept_next s e page false is slot c there in (d.0, d.1, d.3)
    by _ is h = cc
