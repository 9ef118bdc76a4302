-- An access of pages that stay mapped, and an event that only takes away, in either order.
use Rattle.shootdowns.proofs.Prelude.{◌≡◌, ◌≢◌, ℕ, zero, suc, ◌+◌, ◌/◌, ◌%◌, ◌<◌, Bool, true, false, cond, List, [], ◌∷◌, refl, ap, sym, ◌∙◌, subst, arith, inl, inr, Option, Some, None, unwrap_or, is_some, ◌⊎◌, if◌then◌else◌, IfSome, option_map, page_number, offset_number, page_and, second_page, byte_count, touched, EachTouched, Size, same, same_or_not, get-insert, get-map_values, some_value, Slot, slot_order, Cell, Spaces, at_page, slot_at, fresh, with_bytes, set_bytes, write_at, stored, all_stored, bytes_of, accessed, all_accessed, with_pages, protected, without, IsThere, with_touched-same, each_byte, State, get-inserted, each_page, answer, after, next, completes, Call, Event, next-stays, next-goes, only_takes}
use Rattle.page_words.specs.FiniteMap as map
use Rattle.page_words.specs.FiniteSet as set
use Rattle.kernel_calls.specs.declared.calls.Call.TheVariants as call
use Rattle.shootdowns.proofs.Alike.{AlikeCell, same_cell}
use Rattle.shootdowns.proofs.Cells.{first_of, rest_of}
use Rattle.shootdowns.proofs.Filled.{protects_mapped, same_answer}
use Rattle.shootdowns.proofs.Swapped.{accessed_gone, stored_gone, accessed_right, stored_right}
use Rattle.shootdowns.proofs.Taking.{left_gone}

-- ---- What an access leaves of cells

-- no slot comes or goes, no flag is cleared, and of a cell flags and bytes alone change
pub record Grows (S T : Spaces) : Type 0 where
  pub cells : (slot : Slot) (c : Cell) → map.get S slot ≡ Some c
      → (d : Cell) × (map.get T slot ≡ Some d) × AlikeCell c d × ((c.accessed ≡ true → d.accessed ≡ true) × (c.dirty ≡ true → d.dirty ≡ true))
  pub back : (slot : Slot) (d : Cell) → map.get T slot ≡ Some d → (c : Cell) × (map.get S slot ≡ Some c) × AlikeCell c d

pub grows_same : (S : Spaces) → Grows S S
grows_same S = record { cells = λ slot c at. (c, at, same_cell c, (λ h. h, λ h. h)); back = λ slot d at. (d, at, same_cell d) }

pub grows_then : (S T U : Spaces) → Grows S T → Grows T U → Grows S U
grows_then S T U one two = record {
  cells = λ slot c at.
      let d = one.cells slot c at in
      let e = two.cells slot d.0 d.1 in
      (e.0, e.1, record { write = e.2.write ∙ d.2.write; may = e.2.may ∙ d.2.may; holders = e.2.holders ∙ d.2.holders }, (λ h. e.3.0 (d.3.0 h), λ h. e.3.1 (d.3.1 h)));
  back = λ slot e at.
      let d = two.back slot e at in
      let c = one.back slot d.0 d.1 in
      (c.0, c.1, record { write = d.2.write ∙ c.2.write; may = d.2.may ∙ c.2.may; holders = d.2.holders ∙ c.2.holders });
}

-- one cell is set, which was there
grows_set : (S : Spaces) (b : Slot) (c y : Cell) → map.get S b ≡ Some c → AlikeCell c y → (c.accessed ≡ true → y.accessed ≡ true) → (c.dirty ≡ true → y.dirty ≡ true)
    → Grows S (map.insert S b y)
grows_set S b c y at alike accessed dirty = record {
  cells = λ slot d there. into slot d there (same_or_not slot_order slot b);
  back = λ slot d there. from slot d there (same_or_not slot_order slot b);
}
  where
    into : (slot : Slot) (d : Cell) → map.get S slot ≡ Some d → ((slot ≡ b) × (same slot_order slot b ≡ true)) ⊎ (same slot_order slot b ≡ false)
        → (e : Cell) × (map.get (map.insert S b y) slot ≡ Some e) × AlikeCell d e × ((d.accessed ≡ true → e.accessed ≡ true) × (d.dirty ≡ true → e.dirty ≡ true))
    into slot d there (inl is) =
        let k : Some c ≡ Some d = sym at ∙ sym (ap (map.get S) is.0) ∙ there in
        let e : c ≡ d = cc in (
          y,
          get-insert S b y slot ∙ ap (λ q. cond q (Some y) (map.get S slot)) is.1,
          subst (λ (z : Cell). AlikeCell z y) e alike,
          subst (λ (z : Cell). (z.accessed ≡ true → y.accessed ≡ true) × (z.dirty ≡ true → y.dirty ≡ true)) e (accessed, dirty),
        )
    into slot d there (inr other) =
        (d, get-insert S b y slot ∙ ap (λ q. cond q (Some y) (map.get S slot)) other ∙ there, same_cell d, (λ h. h, λ h. h))

    from : (slot : Slot) (d : Cell) → map.get (map.insert S b y) slot ≡ Some d → ((slot ≡ b) × (same slot_order slot b ≡ true)) ⊎ (same slot_order slot b ≡ false)
        → (e : Cell) × (map.get S slot ≡ Some e) × AlikeCell e d
    from slot d there (inl is) =
        let k : Some y ≡ Some d = sym (get-insert S b y slot ∙ ap (λ q. cond q (Some y) (map.get S slot)) is.1) ∙ there in
        let e : y ≡ d = cc in
        (c, ap (map.get S) is.0 ∙ at, subst (AlikeCell c) e alike)
    from slot d there (inr other) =
        (d, sym (get-insert S b y slot ∙ ap (λ q. cond q (Some y) (map.get S slot)) other) ∙ there, same_cell d)

-- a group's bytes are set
grows_bytes : (S : Spaces) (h : set.Set slot_order) (new : List ℕ) → Grows S (set_bytes S h new)
grows_bytes S h new = record {
  cells = λ slot c at. (
    if set.contains h slot then with_bytes c new else c,
    get-map_values slot_order (λ k (c : Cell). if set.contains h k then with_bytes c new else c) S slot ∙ ap (option_map (λ (c : Cell). if set.contains h slot then with_bytes c new else c)) at,
    alike (set.contains h slot) c,
    flags (set.contains h slot) c,
  );
  back = λ slot d at. by slot d (map.get S slot) refl (sym (get-map_values slot_order (λ k (c : Cell). if set.contains h k then with_bytes c new else c) S slot) ∙ at);
}
  where
    alike : (b : Bool) (c : Cell) → AlikeCell c (if b then with_bytes c new else c)
    alike x0 c = grind (arith, same_cell)

    flags : (b : Bool) (c : Cell) → (c.accessed ≡ true → (if b then with_bytes c new else c).accessed ≡ true) × (c.dirty ≡ true → (if b then with_bytes c new else c).dirty ≡ true)
    flags x0 c = grind arith

    by : (slot : Slot) (d : Cell) (z : Option Cell) → map.get S slot ≡ z → option_map (λ (c : Cell). if set.contains h slot then with_bytes c new else c) (map.get S slot) ≡ Some d
        → (c : Cell) × (map.get S slot ≡ Some c) × AlikeCell c d
    by slot d None is k = absurd (let e : None ≡ Some d = sym (ap (option_map (λ (c : Cell). if set.contains h slot then with_bytes c new else c)) is) ∙ k in cc)
    by slot d (Some c) is k =
        let q : (if set.contains h slot then with_bytes c new else c) ≡ d = cc in
        (c, is, subst (AlikeCell c) q (alike (set.contains h slot) c))

pub grows_accessed : (S : Spaces) (b : Slot) (c : Cell) → map.get S b ≡ Some c → Grows S (accessed S b)
grows_accessed S b c at =
    subst (λ (k : Cell). Grows S (map.insert S b (record k { accessed = true }))) (sym (ap (λ (z : Option Cell). unwrap_or z (fresh b true)) at))
    (grows_set S b c (record c { accessed = true }) at (record { write = refl; may = refl; holders = refl }) (λ h. refl) (λ h. h))

pub grows_stored : (S : Spaces) (b : Slot) (c : Cell) (o : ℕ) (ys : List ℕ) → map.get S b ≡ Some c → Grows S (stored S b o ys)
grows_stored S b c o ys at =
    subst (λ (k : Cell). Grows S (map.insert (set_bytes S k.holders (write_at k.bytes o ys)) b (record k { bytes = write_at k.bytes o ys; accessed = true; dirty = true })))
    (sym (ap (λ (z : Option Cell). unwrap_or z (fresh b true)) at))
    (let T = set_bytes S c.holders (write_at c.bytes o ys) in
    let first = grows_bytes S c.holders (write_at c.bytes o ys) in
    let d = first.cells b c at in
    grows_then S T (map.insert T b (record c { bytes = write_at c.bytes o ys; accessed = true; dirty = true })) first
    (grows_set T b d.0 (record c { bytes = write_at c.bytes o ys; accessed = true; dirty = true }) d.1
    (record { write = sym d.2.write; may = sym d.2.may; holders = sym d.2.holders }) (λ h. refl) (λ h. refl)))

-- mapped
abbrev pub Has : Spaces → Slot → Type 0
Has S b = (c : Cell) × (map.get S b ≡ Some c)

pub has_then : (S T : Spaces) (b : Slot) → Grows S T → Has S b → Has T b
has_then S T b grows h = let d = grows.cells b h.0 h.1 in (d.0, d.1)

pub all_grow : (S : Spaces) (p page : ℕ) (x : Option ℕ) → Has S (at_page p page) → IfSome x (λ n. Has S (at_page p n)) → Grows S (all_accessed S p (page_and page x))
all_grow S p page None one two = grows_accessed S (at_page p page) one.0 one.1
all_grow S p page (Some n) one two =
    let T = accessed S (at_page p page) in
    let first = grows_accessed S (at_page p page) one.0 one.1 in
    let there = has_then S T (at_page p n) first two in
    grows_then S T (accessed T (at_page p n)) first (grows_accessed T (at_page p n) there.0 there.1)

pub bytes_grow : (k v a p : ℕ) (S : Spaces) → ((i : ℕ) → i < k → Has S (slot_at p (a + i))) → Grows S (all_stored S p a (bytes_of k v))
bytes_grow zero v a p S each = grows_same S
bytes_grow (suc k) v a p S each =
    let T = stored S (slot_at p a) (offset_number a) (v % 256 ∷ []) in
    let here = first_of (λ n. Has S (slot_at p n)) k a each in
    let first = grows_stored S (slot_at p a) here.0 (offset_number a) (v % 256 ∷ []) here.1 in
    grows_then S T (all_stored T p (a + 1) (bytes_of k (v / 256))) first
    (bytes_grow k (v / 256) (a + 1) p T (λ i l. has_then S T (slot_at p (a + 1 + i)) first (rest_of (λ n. Has S (slot_at p n)) k a each i l)))

-- ---- In either order

module _ (O : Spaces → Spaces) (Good : Spaces → Slot → Type 0) where
  pub loads_turn : ((S : Spaces) (b c : Slot) → Has S b → Good S c → Good (accessed S b) c) → ((S : Spaces) (b : Slot) → Has S b → Good S b → O (accessed S b) ≡ accessed (O S) b)
      → (S : Spaces) (p page : ℕ) (x : Option ℕ) → Has S (at_page p page) → IfSome x (λ n. Has S (at_page p n))
      → Good S (at_page p page) → IfSome x (λ n. Good S (at_page p n)) → O (all_accessed S p (page_and page x)) ≡ all_accessed (O S) p (page_and page x)
  loads_turn keep turn S p page None has others one two = turn S (at_page p page) has one
  loads_turn keep turn S p page (Some n) has others one two =
      let T = accessed S (at_page p page) in
      turn T (at_page p n) (has_then S T (at_page p n) (grows_accessed S (at_page p page) has.0 has.1) others) (keep S (at_page p page) (at_page p n) has two)
      ∙ ap (λ (U : Spaces). accessed U (at_page p n)) (turn S (at_page p page) has one)

  pub stores_turn : ((S : Spaces) (b c : Slot) (o : ℕ) (ys : List ℕ) → Has S b → Good S c → Good (stored S b o ys) c)
      → ((S : Spaces) (b : Slot) (o : ℕ) (ys : List ℕ) → Has S b → Good S b → O (stored S b o ys) ≡ stored (O S) b o ys)
      → (k v a p : ℕ) (S : Spaces) → ((i : ℕ) → i < k → Has S (slot_at p (a + i)) × Good S (slot_at p (a + i)))
      → O (all_stored S p a (bytes_of k v)) ≡ all_stored (O S) p a (bytes_of k v)
  stores_turn keep turn zero v a p S each = refl
  stores_turn keep turn (suc k) v a p S each =
      let T = stored S (slot_at p a) (offset_number a) (v % 256 ∷ []) in
      let here = first_of (λ n. Has S (slot_at p n) × Good S (slot_at p n)) k a each in
      let first = grows_stored S (slot_at p a) here.0.0 (offset_number a) (v % 256 ∷ []) here.0.1 in
      stores_turn keep turn k (v / 256) (a + 1) p T
      (λ i l.
      let there = rest_of (λ n. Has S (slot_at p n) × Good S (slot_at p n)) k a each i l in
      (has_then S T (slot_at p (a + 1 + i)) first there.0, keep S (slot_at p a) (slot_at p (a + 1 + i)) (offset_number a) (v % 256 ∷ []) here.0 there.1))
      ∙ ap (λ (U : Spaces). all_stored U p (a + 1) (bytes_of k (v / 256))) (turn S (slot_at p a) (offset_number a) (v % 256 ∷ []) here.0 here.1)

-- slots that stay
abbrev Stays : (Slot → Bool) → Spaces → Slot → Type 0
Stays gone S b = gone b ≡ false

-- a slot other than the one that loses its right, which is mapped
abbrev Other : Slot → Spaces → Slot → Type 0
Other a S b = (b ≢ a) × Has S a

right_kept : (S : Spaces) (a : Slot) (d : Cell) (b : Slot) → map.get (protected S a false) b ≡ Some d → d.write ≡ true → b ≢ a
right_kept S a d b at write is = grind (arith, get-inserted)

-- a page is mapped before and after the event; for a store it takes the store afterwards
pub record StaysMapped (s : State) (e : Event) (p : ℕ) (writes : Bool) (page : ℕ) : Type 0 where
  pub before : Has s.spaces (at_page p page)
  pub cell : Cell
  pub there : map.get (next s e).spaces (at_page p page) ≡ Some cell
  pub write : writes ≡ true → cell.write ≡ true

pub there_is : (S : Spaces) (p page : ℕ) → Has S (at_page p page) → IsThere S p page
there_is S p page h = ap is_some h.1

module _ (s : State) (e : Event) (p : ℕ) where
  -- what a load or a store of such pages and the event come to
  module _ (addr : ℕ) (size : Size) (S : Spaces) (O : Spaces → Spaces) (pages : EachTouched addr size (λ page. Has S (at_page p page))) (left : EachTouched addr size (λ page. Has (O S) (at_page p page))) where
    load_turned : (Good : Spaces → Slot → Type 0) → ((S : Spaces) (b c : Slot) → Has S b → Good S c → Good (accessed S b) c)
        → ((S : Spaces) (b : Slot) → Has S b → Good S b → O (accessed S b) ≡ accessed (O S) b) → EachTouched addr size (λ page. Good S (at_page p page))
        → O (all_accessed (with_pages S p (touched addr size)) p (touched addr size)) ≡ all_accessed (with_pages (O S) p (touched addr size)) p (touched addr size)
    load_turned Good keep turn good = grind (arith, with_touched-same, each_page, there_is, loads_turn)

    store_turned : (Good : Spaces → Slot → Type 0) → ((S : Spaces) (b c : Slot) (o : ℕ) (ys : List ℕ) → Has S b → Good S c → Good (stored S b o ys) c)
        → ((S : Spaces) (b : Slot) (o : ℕ) (ys : List ℕ) → Has S b → Good S b → O (stored S b o ys) ≡ stored (O S) b o ys) → EachTouched addr size (λ page. Good S (at_page p page)) → (v : ℕ)
        → O (all_stored (with_pages S p (touched addr size)) p addr (bytes_of (byte_count size) v)) ≡ all_stored (with_pages (O S) p (touched addr size)) p addr (bytes_of (byte_count size) v)
    store_turned Good keep turn good v =
        ap (λ (T : Spaces). O (all_stored T p addr (bytes_of (byte_count size) v))) (with_touched-same S p addr size (each_page addr size (λ page. Has S (at_page p page)) (IsThere S p) (there_is S p) pages))
        ∙ stores_turn O Good keep turn (byte_count size) v addr p S
        (λ i l. (each_byte addr size (λ page. Has S (at_page p page)) pages i l, each_byte addr size (λ page. Good S (at_page p page)) good i l))
        ∙ sym (ap (λ (T : Spaces). all_stored T p addr (bytes_of (byte_count size) v)) (with_touched-same (O S) p addr size (each_page addr size (λ page. Has (O S) (at_page p page)) (IsThere (O S) p) (there_is (O S) p) left)))

  -- the pages that an access touches
  abbrev pub Pages : Call → Type 0
  Pages (call.Load addr size) = EachTouched addr size (StaysMapped s e p false)
  Pages (call.Store addr size value) = EachTouched addr size (StaysMapped s e p true)
  Pages _ = ⊥

  module _ (done : completes (answer s e) ≡ true) where
    gone_turned : (gone : Slot → Bool) → (next s e).spaces ≡ without s.spaces gone → (c : Call) → Pages c
        → (after (record s { spaces = without s.spaces gone }) p c).spaces ≡ without (after s p c).spaces gone
    gone_turned gone is (call.Load addr size) h = sym (load_turned addr size s.spaces (λ T. without T gone)
        (each_page addr size (StaysMapped s e p false) (λ page. Has s.spaces (at_page p page)) (λ page k. k.before) h)
        (each_page addr size (StaysMapped s e p false) (λ page. Has (without s.spaces gone) (at_page p page)) (λ page k. (k.cell, sym (ap (λ (T : Spaces). map.get T (at_page p page)) is) ∙ k.there)) h)
        (Stays gone) (λ S b c has good. good) (λ S b has good. accessed_gone S gone b has.0 good has.1)
        (each_page addr size (StaysMapped s e p false) (λ page. Stays gone s.spaces (at_page p page))
        (λ page k. (left_gone s.spaces gone (at_page p page) (ap is_some (sym (ap (λ (T : Spaces). map.get T (at_page p page)) is) ∙ k.there))).1) h))
    gone_turned gone is (call.Store addr size value) h = sym (store_turned addr size s.spaces (λ T. without T gone)
        (each_page addr size (StaysMapped s e p true) (λ page. Has s.spaces (at_page p page)) (λ page k. k.before) h)
        (each_page addr size (StaysMapped s e p true) (λ page. Has (without s.spaces gone) (at_page p page)) (λ page k. (k.cell, sym (ap (λ (T : Spaces). map.get T (at_page p page)) is) ∙ k.there)) h)
        (Stays gone) (λ S b c o ys has good. good) (λ S b o ys has good. stored_gone S gone b has.0 o ys good has.1)
        (each_page addr size (StaysMapped s e p true) (λ page. Stays gone s.spaces (at_page p page))
        (λ page k. (left_gone s.spaces gone (at_page p page) (ap is_some (sym (ap (λ (T : Spaces). map.get T (at_page p page)) is) ∙ k.there))).1) h) value)
    gone_turned gone is _ h = absurd h

    right_turned : (a : Slot) → Has s.spaces a → (next s e).spaces ≡ protected s.spaces a false → (c : Call) → Pages c
        → (after (record s { spaces = protected s.spaces a false }) p c).spaces ≡ protected (after s p c).spaces a false
    right_turned a mapped is (call.Load addr size) h = sym (load_turned addr size s.spaces (λ T. protected T a false)
        (each_page addr size (StaysMapped s e p false) (λ page. Has s.spaces (at_page p page)) (λ page k. k.before) h)
        (each_page addr size (StaysMapped s e p false) (λ page. Has (protected s.spaces a false) (at_page p page)) (λ page k. (k.cell, sym (ap (λ (T : Spaces). map.get T (at_page p page)) is) ∙ k.there)) h)
        (λ S b. Unit {0}) (λ S b c has good. tt) (λ S b has good. accessed_right S a b false)
        (each_page addr size (StaysMapped s e p false) (λ page. Unit {0}) (λ page k. tt) h))
    right_turned a mapped is (call.Store addr size value) h = sym (store_turned addr size s.spaces (λ T. protected T a false)
        (each_page addr size (StaysMapped s e p true) (λ page. Has s.spaces (at_page p page)) (λ page k. k.before) h)
        (each_page addr size (StaysMapped s e p true) (λ page. Has (protected s.spaces a false) (at_page p page)) (λ page k. (k.cell, sym (ap (λ (T : Spaces). map.get T (at_page p page)) is) ∙ k.there)) h)
        (Other a) (λ S b c o ys has good. (good.0, has_then S (stored S b o ys) a (grows_stored S b has.0 o ys has.1) good.1))
        (λ S b o ys has good. stored_right S a b has.0 good.1.0 false o ys (λ same. good.0 (sym same)) has.1 good.1.1)
        (each_page addr size (StaysMapped s e p true) (λ page. Other a s.spaces (at_page p page))
        (λ page k. (right_kept s.spaces a k.cell (at_page p page) (sym (ap (λ (T : Spaces). map.get T (at_page p page)) is) ∙ k.there) (k.write refl), mapped)) h) value)
    right_turned a mapped is _ h = absurd h

-- ---- An access by itself

-- the pages of an access that are mapped
abbrev pub Mapped : State → ℕ → Call → Type 0
Mapped s p (call.Load addr size) = EachTouched addr size (λ page. Has s.spaces (at_page p page))
Mapped s p (call.Store addr size value) = EachTouched addr size (λ page. Has s.spaces (at_page p page))
Mapped s p _ = ⊥

pub mapped_before : (s : State) (e : Event) (p : ℕ) (c : Call) → Pages s e p c → Mapped s p c
mapped_before s e p x3 h = grind (arith, each_page)

-- it changes spaces alone, and by these alone
pub record Spacely (s t : State) (p : ℕ) (c : Call) : Type 0 where
  rest : after s p c ≡ record s { spaces = (after s p c).spaces }
  same : t.spaces ≡ s.spaces → (after t p c).spaces ≡ (after s p c).spaces
  grows : Grows s.spaces (after s p c).spaces

pub spacely : (s t : State) (p : ℕ) (c : Call) → Mapped s p c → Spacely s t p c
spacely s t p (call.Load addr size) h = record {
  rest = refl;
  same = λ is. ap (λ (S : Spaces). all_accessed (with_pages S p (touched addr size)) p (touched addr size)) is;
  grows = subst (λ (S : Spaces). Grows s.spaces (all_accessed S p (touched addr size)))
      (sym (with_touched-same s.spaces p addr size (each_page addr size (λ page. Has s.spaces (at_page p page)) (IsThere s.spaces p) (there_is s.spaces p) h)))
      (all_grow s.spaces p (page_number addr) (second_page addr size) h.0 h.1);
}
spacely s t p (call.Store addr size value) h = record {
  rest = refl;
  same = λ is. ap (λ (S : Spaces). all_stored (with_pages S p (touched addr size)) p addr (bytes_of (byte_count size) value)) is;
  grows = subst (λ (S : Spaces). Grows s.spaces (all_stored S p addr (bytes_of (byte_count size) value)))
      (sym (with_touched-same s.spaces p addr size (each_page addr size (λ page. Has s.spaces (at_page p page)) (IsThere s.spaces p) (there_is s.spaces p) h)))
      (bytes_grow (byte_count size) value addr p s.spaces (λ i l. each_byte addr size (λ page. Has s.spaces (at_page p page)) h i l));
}
spacely s t p _ h = absurd h

-- an access that completes
pub next_grows : (s : State) (a : Event) → completes (answer s a) ≡ true → Mapped s a.pid a.call → Grows s.spaces (next s a).spaces
next_grows s a done h = subst (λ (t : State). Grows s.spaces t.spaces) (sym (next-goes s a done)) (spacely s s a.pid a.call h).grows

pub next_book : (s : State) (a : Event) → completes (answer s a) ≡ true → Mapped s a.pid a.call → (next s a).book ≡ s.book
next_book s a done h = ap (λ (t : State). t.book) (next-goes s a done ∙ (spacely s s a.pid a.call h).rest)

-- ---- An event that only takes away

pub keys_of : (S T : Spaces) → Grows S T → (slot : Slot) → map.contains_key T slot ≡ map.contains_key S slot
keys_of S T grows slot = grind (arith, is_some)

pub answer_alike : (s t : State) (e : Event) → only_takes e.call ≡ true → t.book ≡ s.book → Grows s.spaces t.spaces → answer t e ≡ answer s e
answer_alike s t e h book grows = same_answer s t e h book (keys_of s.spaces t.spaces grows)

-- the pages are mapped after it
pub mapped_after : (s : State) (e : Event) (p : ℕ) (c : Call) (X : State) → X.spaces ≡ (next s e).spaces → Pages s e p c → Mapped X p c
mapped_after s e p (call.Load addr size) X is h = each_page addr size (StaysMapped s e p false) (λ page. Has X.spaces (at_page p page)) (λ page k. (k.cell, ap (λ (S : Spaces). map.get S (at_page p page)) is ∙ k.there)) h
mapped_after s e p (call.Store addr size value) X is h = each_page addr size (StaysMapped s e p true) (λ page. Has X.spaces (at_page p page)) (λ page k. (k.cell, ap (λ (S : Spaces). map.get S (at_page p page)) is ∙ k.there)) h
mapped_after s e p _ X is h = absurd h

-- both orders end in one state
pub turned : (s : State) (e a : Event) → only_takes e.call ≡ true → Pages s e a.pid a.call → completes (answer s a) ≡ true → completes (answer (next s e) a) ≡ true
    → next (next s e) a ≡ next (next s a) e
turned s e a takes pages done later = by (completes (answer s e)) refl
  where
    same : answer (next s a) e ≡ answer s e
    same = answer_alike s (next s a) e takes (next_book s a done (mapped_before s e a.pid a.call pages)) (next_grows s a done (mapped_before s e a.pid a.call pages))

    moved : (X Y : State) → (next s e).spaces ≡ X.spaces → Y.spaces ≡ X.spaces → after X a.pid a.call ≡ record X { spaces = (after Y a.pid a.call).spaces }
    moved X Y is alike = grind (arith, spacely, mapped_after)

    either : (c : Call) → e.call ≡ c → only_takes c ≡ true → completes (answer s e) ≡ true → after (after s e.pid c) a.pid a.call ≡ after (after s a.pid a.call) e.pid c
    either x0 is h goes =
        grind (arith, next-goes, moved, gone_turned, spacely, mapped_before, some_value, protects_mapped, right_turned)

    by : (b : Bool) → completes (answer s e) ≡ b → next (next s e) a ≡ next (next s a) e
    by x0 x1 = grind (arith, next-stays, same, next-goes, either)
