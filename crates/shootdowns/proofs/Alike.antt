-- States alike but for the bytes and the flags of cells.
use Rattle.shootdowns.proofs.Prelude.{◌≡◌, ℕ, true, List, [], ◌∷◌, refl, ap, sym, ◌∙◌, subst, Option, Some, None, option_map, same_map, Slot, Cell, Spaces, State, View, Kept, translation, directory_entry, IsRead, AreRead, arith}
use Rattle.page_words.specs.FiniteMap as map
use Rattle.shootdowns.proofs.Filled.{fill, filled, filled_state, get_filled}

pub record AlikeCell (c d : Cell) : Type 0 where
  pub write : d.write ≡ c.write
  pub may : d.may ≡ c.may
  pub holders : d.holders ≡ c.holders

pub record Alike (s t : State) : Type 0 where
  pub book : t.book ≡ s.book
  pub cells : (slot : Slot) (c : Cell) → map.get s.spaces slot ≡ Some c → (d : Cell) × (map.get t.spaces slot ≡ Some d) × AlikeCell c d
  pub back : (slot : Slot) (d : Cell) → map.get t.spaces slot ≡ Some d → (c : Cell) × (map.get s.spaces slot ≡ Some c) × AlikeCell c d

pub same_cell : (c : Cell) → AlikeCell c c
same_cell c = record { write = refl; may = refl; holders = refl }

pub alike_same : (s : State) → Alike s s
alike_same s = record { book = refl; cells = λ slot c at. (c, at, same_cell c); back = λ slot d at. (d, at, same_cell d) }

pub alike_then : (s t u : State) → Alike s t → Alike t u → Alike s u
alike_then s t u one two = record {
  book = two.book ∙ one.book;
  cells = λ slot c at.
      let d = one.cells slot c at in
      let e = two.cells slot d.0 d.1 in
      (e.0, e.1, record { write = e.2.write ∙ d.2.write; may = e.2.may ∙ d.2.may; holders = e.2.holders ∙ d.2.holders });
  back = λ slot e at.
      let d = two.back slot e at in
      let c = one.back slot d.0 d.1 in
      (c.0, c.1, record { write = d.2.write ∙ c.2.write; may = d.2.may ∙ c.2.may; holders = d.2.holders ∙ c.2.holders });
}

-- cells that are filled
pub alike_filled : (s t : State) (F : Slot → ℕ) (bytes : List ℕ) → t.book ≡ s.book
    → ((slot : Slot) → map.get t.spaces slot ≡ option_map (fill F bytes slot) (map.get s.spaces slot)) → Alike s t
alike_filled s t F bytes book get = record {
  book = book;
  cells = λ slot c at. (fill F bytes slot c, get slot ∙ ap (option_map (fill F bytes slot)) at, record { write = refl; may = refl; holders = refl });
  back = λ slot d at. by slot d (map.get s.spaces slot) refl (sym (get slot) ∙ at);
}
  where
    by : (slot : Slot) (d : Cell) (z : Option Cell) → map.get s.spaces slot ≡ z → option_map (fill F bytes slot) (map.get s.spaces slot) ≡ Some d
        → (c : Cell) × (map.get s.spaces slot ≡ Some c) × AlikeCell c d
    by slot d None is h = absurd (let k : None ≡ Some d = sym (ap (option_map (fill F bytes slot)) is) ∙ h in cc)
    by slot d (Some c) is h =
        let e : fill F bytes slot c ≡ d = cc in
        (c, is, subst (AlikeCell c) e (record { write = refl; may = refl; holders = refl }))

-- what is filled is full
pub again : (F : Slot → ℕ) (bytes : List ℕ) (s t : State) → t ≡ filled_state F bytes s → t ≡ filled_state F bytes t
again F bytes s t is = is ∙ ap (λ (S : Spaces). record s { spaces = S }) twice ∙ ap (filled_state F bytes) (sym is)
  where
    by : (slot : Slot) (z : Option Cell) → option_map (fill F bytes slot) z ≡ option_map (fill F bytes slot) (option_map (fill F bytes slot) z)
    by slot x1 = grind arith

    twice : filled F bytes s.spaces ≡ filled F bytes (filled F bytes s.spaces)
    twice = same_map _ _ (λ slot.
        get_filled F bytes s.spaces slot ∙ by slot (map.get s.spaces slot)
        ∙ sym (get_filled F bytes (filled F bytes s.spaces) slot ∙ ap (option_map (fill F bytes slot)) (get_filled F bytes s.spaces slot)))

-- ---- Flags

-- no flag is cleared, and each slot that is mapped still is
abbrev pub FlagsGrow : State → State → Type 0
FlagsGrow s t = (slot : Slot) (c : Cell) → map.get s.spaces slot ≡ Some c
    → (d : Cell) × (map.get t.spaces slot ≡ Some d) × (c.accessed ≡ true → d.accessed ≡ true) × (c.dirty ≡ true → d.dirty ≡ true)

-- memory as it was, with another state
abbrev pub with_state : View → State → View
with_state v s = record { state = s; directories = v.directories; bytes = v.bytes; roles = v.roles }

flag_read : (v : View) (s t : State) → FlagsGrow s t → (k : Kept) → IsRead (with_state v s) k → IsRead (with_state v t) k
flag_read v s t grow (translation k) g =
    let d = grow k.slot g.cell g.mapped in
    record {
      page = g.page;
      directory = g.directory;
      live = g.live;
      read = g.read;
      written = g.written;
      cell = d.0;
      mapped = d.1;
      accessed = d.2 g.accessed;
      dirty = λ h. d.3 (g.dirty h);
    }
flag_read v s t grow (directory_entry k) h = h

pub flags_read : (v : View) (s t : State) → FlagsGrow s t → (kept : List Kept) → AreRead (with_state v s) kept → AreRead (with_state v t) kept
flags_read v s t grow [] all = tt
flags_read v s t grow (k ∷ kept) all = (flag_read v s t grow k all.0, flags_read v s t grow kept all.1)
