-- What changes of one page leave of the translations that processors keep.
use Rattle.kernel_acts.proofs.Prelude.{◌≡◌, ◌≢◌, ℕ, ◌+◌, ◌-◌, ◌<◌, ◌≤◌, ◌==◌, ◌&&◌, Bool, true, false, List, sym, ap, ◌∙◌, is_some, Option, length, arith, if◌then◌else◌, nat_le, option_map, eq-eqb, leb-true, same_Some, page_number, offset_number, same_itself, get-map_values, some_value, walk_of, Slot, slot_order, Cell, Spaces, cell_or_fresh, with_bytes, set_bytes, write_at, stored, is_slot, at_page, slot_at, Gone, FramesStay, StandsFor, image_of, memory_of, View, get-inserted_other, EndsMarks, of_lazy_pages, is_ended, is_all_of, Ended, and-false, IsCore, ways_of, mapped_way, tables_map, walk_takes, walk_finds, has_right}
use Rattle.kernel_calls.proofs.Flags.{has}
use Rattle.kernel_acts.proofs.Unmaps.{slot_test}
use Rattle.page_words.specs.FiniteMap as map
use Rattle.page_words.specs.FiniteSet as set
use Rattle.kernel_calls.specs.declared.translations.Ended.TheVariants as end

-- ---- One change after another

-- where nothing changes
pub marks_same : (ended : Ended) (v : View) → StandsFor (image_of v) v.state → EndsMarks ended v v
marks_same ended v image = record {
  translations = λ q d a f access small spared gives. gives;
  slots = λ slot spared there. there;
  flags = grind (arith, same_Some);
  directories = λ q d some live. live;
  tables = λ slot t spared there linked. linked;
  linked = tables_map v image;
}

-- what ends no more than a page
pub marks_of_page : (ended : Ended) (p page : ℕ) (v w : View) → ((slot : Slot) → is_slot p page slot ≡ false → is_ended ended slot ≡ false)
    → ((q : ℕ) → is_all_of ended q ≡ false) → EndsMarks ended v w → EndsMarks (end.Page p page) v w
marks_of_page ended p page v w fewer none m = record {
  translations = λ q d a f access small spared gives. m.translations q d a f access small (fewer (slot_at q a) spared) gives;
  slots = λ slot spared there. m.slots slot (fewer slot spared) there;
  flags = λ slot c d spared was is. m.flags slot c d (fewer slot spared) was is;
  directories = λ q d some live. m.directories q d (none q) live;
  tables = λ slot t spared there linked. m.tables slot t (fewer slot spared) there linked;
  linked = m.linked;
}

pub marks_then : (ended : Ended) (v u w : View) → EndsMarks ended v u → EndsMarks ended u w → EndsMarks ended v w
marks_then ended v u w first second = record {
  translations = λ q d a f access small spared gives. second.translations q d a f access small spared (first.translations q d a f access small spared gives);
  slots = λ slot spared there. second.slots slot spared (first.slots slot spared there);
  flags = grind (arith, some_value);
  directories = λ q d some live. second.directories q d some (first.directories q d some live);
  tables = λ slot t spared there linked. second.tables slot t spared (first.slots slot spared there) (first.tables slot t spared there linked);
  linked = first.linked;
}

-- ---- A change of one page

-- the right and the flags that a processor keeps
abbrev marks_of : Cell → Bool × Bool × Bool
marks_of c = (c.write, c.accessed, c.dirty)

write_kept : (x y : Option Cell) → option_map marks_of y ≡ option_map marks_of x → has (λ c. c.write) x ≡ true → has (λ c. c.write) y ≡ true
write_kept x y same h = grind (arith, same_Some)

mapped_kept : (x y : Option Cell) → option_map marks_of y ≡ option_map marks_of x → is_some x ≡ true → is_some y ≡ true
mapped_kept x y same h = grind arith

pub page_ends : (gone : Gone) (v w : View) (p page : ℕ) → IsCore v → IsCore w → FramesStay gone (memory_of v) (memory_of w)
    → ((slot : Slot) (f : ℕ) → is_slot p page slot ≡ false → gone slot f ≡ false) → ((q : ℕ) → gone (at_page q 0) 1 ≡ false)
    → ((slot : Slot) → is_slot p page slot ≡ false → option_map marks_of (map.get w.state.spaces slot) ≡ option_map marks_of (map.get v.state.spaces slot))
    → EndsMarks (end.Page p page) v w
page_ends gone v w p page now later stay own some_way same = record {
  translations = λ q d a f access small spared gives.
      let live = gives.0 in
      let walk = gives.1 in
      let slot = slot_at q a in
      let way = (ways_of now).lead q d a f access live small walk in
      let way' = stay.ways slot d f (own slot f spared) way in (
        stay.directories q d (record { page = slot.page; frame = f; stays = own slot f spared }) live,
        walk_finds w later q d a f access small way' (λ is.
            let right = has_right v now slot (walk_takes v now q d a f live small (ap (walk_of v.bytes d a) (sym is) ∙ walk)) in
            (write_kept (map.get v.state.spaces slot) (map.get w.state.spaces slot) (same slot spared) right.0, (ways_of later).lazy slot d f way' ∙ sym ((ways_of now).lazy slot d f way) ∙ right.1)),
      );
  slots = λ slot spared there. mapped_kept (map.get v.state.spaces slot) (map.get w.state.spaces slot) (same slot spared) there;
  flags = grind (arith, same_Some);
  directories = λ q d some live. stay.directories q d (record { page = 0; frame = 1; stays = some_way q }) live;
  tables = λ slot t spared there linked.
      let way = mapped_way v now.image slot there in
      stay.tables slot way.0 way.1 t (own slot way.1 spared) way.2 linked;
  linked = tables_map v now.image;
}

-- ---- Stores to one page

-- bytes of a group are no marks
marks_stored : (S : Spaces) (at : Slot) (place : ℕ) (bytes : List ℕ) (slot : Slot) → slot ≢ at
    → option_map marks_of (map.get (stored S at place bytes) slot) ≡ option_map marks_of (map.get S slot)
marks_stored S at place bytes slot apart =
    let c = cell_or_fresh S at in
    let new = write_at c.bytes place bytes in
    ap (option_map marks_of) (get-inserted_other (set_bytes S c.holders new) at (record c { bytes = new; accessed = true; dirty = true }) slot apart
    ∙ get-map_values slot_order (λ q (x : Cell). if set.contains c.holders q then with_bytes x new else x) S slot)
    ∙ by (set.contains c.holders slot) new (map.get S slot)
  where
    by : (b : Bool) (new : List ℕ) (x : Option Cell) → option_map marks_of (option_map (λ (y : Cell). if b then with_bytes y new else y) x) ≡ option_map marks_of x
    by x0 new x2 = grind arith

-- the lazy pages in which bytes of one page lie are that page
lazy_apart : (p a count : ℕ) (slot : Slot) (f : ℕ) → offset_number a + count ≤ 4096 → 0 < count → is_slot p (page_number a) slot ≡ false
    → of_lazy_pages p a count slot f ≡ false
lazy_apart p a count slot f within some apart = grind (arith, leb-true, slot_test, eq-eqb)

pub stores_end : (v w : View) (p a : ℕ) (bytes : List ℕ) → IsCore v → IsCore w → offset_number a + length bytes ≤ 4096 → 0 < length bytes
    → w.state.spaces ≡ stored v.state.spaces (slot_at p a) (offset_number a) bytes
    → FramesStay (of_lazy_pages p a (length bytes)) (memory_of v) (memory_of w) → EndsMarks (end.Page p (page_number a)) v w
stores_end v w p a bytes now later within some state stay =
    page_ends (of_lazy_pages p a (length bytes)) v w p (page_number a) now later stay
    (λ slot f spared. lazy_apart p a (length bytes) slot f within some spared)
    (λ q. and-false ((q == p) && (nat_le (page_number a) 0 && nat_le 0 (page_number (a + length bytes - 1)))))
    (λ slot spared. ap (λ S. option_map marks_of (map.get S slot)) state
    ∙ marks_stored v.state.spaces (slot_at p a) (offset_number a) bytes slot (λ e. absurd (
    let t : is_slot p (page_number a) slot ≡ true = ap (is_slot p (page_number a)) e ∙ same_itself slot_order (slot_at p a) in
    cc)))
